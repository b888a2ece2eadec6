-- The theorems over lent memory: the table that the opening call and later calls make.
use Rattle.std.proofs.Common.{Some}
use Prim.Native.Nat.{ℕ, ◌+◌, ◌-◌, ◌*◌, ◌/◌, ◌%◌, ◌≤◌, ◌<◌}
use native.Mathlib.Omega.{arith}
use borrow.Author.Tests.{ltb-true, ltb-false, leb-true, leb-false}
use mathlib.Core.Path.{◌≡◌, refl, sym, ap, ◌∙◌}
use mathlib.Core.Logic.{◌⊎◌, inl, inr, ⊎_elim}
use mathlib.Core.Bool.{true, false}
use mathlib.Core.List.{List, [], ◌∷◌, ◌++◌}
use lib.Dec.{ltb, leb}
use lib.ListN.{length, get_or, take, drop, replicate, length-append, length-replicate, get_or-replicate, get_or-append}
use lib.Seq.{get_or-append-add, get_or-take, get_or-drop, length-take-le}
use Rattle.laws.proofs.Choice.{by_bool, impossible}
use Rattle.refusal.specs.Refusals.{out_of_bounds, no_party, no_room, no_name}
use Rattle.names.specs.Layout.{count, bound, used, name_at, is_in_bounds, half_names, half_bytes, first_bound, half_words, table_names, table_bytes, table_words}
use Rattle.names.specs.Call.{find_of, probe_of, slot_of, tag_of, free_of, new_words, laid, Outcome, outcome, new_of, enter_of, open_mark}
use Rattle.names.specs.Call.{open_words, mark_of, name_of, looks, Opening}
use Rattle.names.specs.Book.{Name, Book, book, half, place, size, number_in, Reply, ask, mark_in, name_in, Call, asks, first_names, names_of, book_of, Memory, memory, calls}
use Rattle.names.specs.Answers.{Told, Number, Refused}
use Rattle.names.proofs.Laws.{slot_small, Bounds, bounds, cleared, length-cleared, party_of, open_few, open_short, open_all}
use Rattle.names.proofs.Laws.{name_none, name_there, mark_outside, mark_far, mark_none, mark_there}
use Rattle.names.proofs.Gives.{by_found, free_small, enter_outside, enter_party, enter_there, enter_new}
use Rattle.names.proofs.Parts.{word_other}
use Rattle.names.proofs.Sound.{Sound, in_bounds}
use Rattle.names.proofs.Means.{meant, length_first, first_at, half_of, names_size, absent_all, found, found_none}
use Rattle.names.proofs.Shared.{ask_there, ask_gives, asks_keep, asks_few, ask_few, Few, number_name_holds, refused_if, refused_only, only_turns}

-- ---- opening

open_parts : (w b : List ℕ) → open_mark w b ≡ 0 → (table_words ≤ length w) × (table_bytes ≤ length b) × (open_words w b ≡ cleared table_words w)
open_parts w b e =
    by_bool (leb table_words (length w))
    (λ t. let h = leb-true table_words (length w) t in
    by_bool (leb table_bytes (length b))
    (λ u. let g = leb-true table_bytes (length b) u in (h, g, sym (ap (λ (o : Opening). o.words) (open_all w b h g refl))))
    (λ u. let z : out_of_bounds ≡ 0 = ap (λ (o : Opening). o.mark) (open_short w b h (leb-false table_bytes (length b) u)) ∙ e in absurd (omega arith)))
    (λ t. let z : out_of_bounds ≡ 0 = ap (λ (o : Opening). o.mark) (open_few w b (leb-false table_words (length w) t)) ∙ e in absurd (omega arith))

cleared_word : (w : List ℕ) (i : ℕ) → i < table_words → get_or (cleared table_words w) i 0 ≡ 0
cleared_word w i h =
    get_or-append (replicate table_words 0) (drop (length (replicate {A = ℕ} table_words 0)) w) 0 i (rw (length-replicate {A = ℕ} table_words 0) h) ∙ get_or-replicate table_words i 0 0 h

names_none : (w b : List ℕ) (p n : ℕ) → n ≡ 0 → first_names w b p n ≡ []
unfolding first_names
names_none w b p n e = rw e

book_same : {x y u v : List Name} → x ≡ u → y ≡ v → book x y ≡ book u v
book_same e f = rw (e, f)

pub record Opened (w b : List ℕ) : Type 0 where
  pub sound : Sound w b
  pub empty : book_of w b ≡ book [] []

pub opened : (w b : List ℕ) → open_mark w b ≡ 0 → Opened (open_words w b) b
opened w b e =
    let o = open_parts w b e in
    rw o.2 (start o.0 o.1)
  where
    zero_count : (p : ℕ) → p < 2 → count (cleared table_words w) p ≡ 0
    zero_count p h = cleared_word w (p * half_words) (omega arith)

    zero_first : (p : ℕ) → p < 2 → bound (cleared table_words w) p 0 ≡ 0
    zero_first p h = cleared_word w (p * half_words + first_bound + 0) (omega arith)

    start : table_words ≤ length w → table_bytes ≤ length b → Opened (cleared table_words w) b
    start h g = record {
      sound = record {
        inside = in_bounds (cleared table_words w) b (record {
          words = rw (length-cleared table_words w h) h;
          bytes = g;
          few = λ p l. rw (zero_count p l) (omega arith);
          short = λ p l. rw (zero_count p l, zero_first p l) (omega arith);
        });
        first = zero_first;
        rising = λ p k l m. absurd (let z = zero_count p l in omega arith);
        single = λ p j q k l m n o x. absurd (let z = zero_count p l in omega arith);
        indexed = λ p k l m. absurd (let z = zero_count p l in omega arith);
      };
      empty = book_same (names_none (cleared table_words w) b 0 _ (zero_count 0 (omega arith))) (names_none (cleared table_words w) b 1 _ (zero_count 1 (omega arith)));
    }

-- ---- calls one after the other

pub record Standing (m : Memory) (x : Book) : Type 0 where
  pub sound : Sound m.words m.bytes
  pub means : book_of m.words m.bytes ≡ x

pub calls_stand : (w b : List ℕ) (x : Book) (cs : List Call) → Standing (memory w b) x → Standing (calls w b cs) (asks x cs)
unfolding calls asks
calls_stand w b x [] s = s
calls_stand w b x (c ∷ cs) s =
    let m = meant w b s.sound c.party c.name in
    calls_stand (enter_of w b c.party c.name).words (enter_of w b c.party c.name).bytes (ask x c.party c.name).after cs
    (record { sound = m.sound; means = m.means ∙ rw s.means })

-- the table after the opening call and any calls
abbrev pub table : List ℕ → List ℕ → List Call → Memory
table w b cs = calls (open_words w b) b cs

pub made : (w b : List ℕ) (cs : List Call) → open_mark w b ≡ 0 → Standing (table w b cs) (asks (book [] []) cs)
made w b cs e = let o = opened w b e in calls_stand (open_words w b) b (book [] []) cs (record { sound = o.sound; means = o.empty })

-- 27 never meets it: not in the entering call, not in the name call
pub never_27 : (w b : List ℕ) (cs : List Call) → open_mark w b ≡ 0 → is_in_bounds (table w b cs).words (table w b cs).bytes ≡ true
never_27 w b cs e = (made w b cs e).sound.inside

-- ---- the name call

module _ (w b : List ℕ) (t : Sound w b) (n : ℕ) where
  half_count : n < table_names → length (half (book_of w b) (n / half_names)) ≡ count w (n / half_names)
  half_count h = rw (half_of w b (n / half_names) (party_of n h)) (length_first w b (n / half_names) (count w (n / half_names)))

  pub mark_means : mark_of w b n ≡ mark_in (book_of w b) n
  unfolding mark_of mark_in
  mark_means =
      rw t.inside
      (by_bool (ltb n table_names) (λ x. rw (x, half_count (ltb-true n table_names x))) (λ x. rw x))

  pub name_means : name_of w b n ≡ name_in (book_of w b) n
  unfolding name_in
  name_means =
      by_bool (ltb n table_names)
      (λ x. let h = ltb-true n table_names x in
      by_bool (ltb (n % half_names) (count w (n / half_names)))
      (λ y. let g = ltb-true (n % half_names) (count w (n / half_names)) y in
      name_there w b n (sym (mark_there w b n t.inside h refl g))
      ∙ rw (x, half_count h) (rw (y, half_of w b (n / half_names) (party_of n h)) (sym (first_at w b (n / half_names) (count w (n / half_names)) (n % half_names) g))))
      (λ y. let m = mark_none w b n t.inside h refl (ltb-false (n % half_names) (count w (n / half_names)) y) in
      name_none w b n (λ z. let k = m ∙ z in omega arith) ∙ rw (x, half_count h) (rw y)))
      (λ x. let m = mark_far w b n t.inside (ltb-false n table_names x) in name_none w b n (λ z. let k = m ∙ z in omega arith) ∙ rw x)

-- ---- numbers are stable: after the opening call and any calls, a party is given a number for a name. After any further calls the number
-- gives that name back, and the name has that number, whoever asks.
pub record Given (m : Memory) (n : Name) (k : ℕ) : Type 0 where
  pub mark : mark_of m.words m.bytes k ≡ 0
  pub back : name_of m.words m.bytes k ≡ n
  pub again : (q : ℕ) → q < 2 → (enter_of m.words m.bytes q n).answer ≡ Number k

given_in : (m : Memory) (x : Book) (n : Name) {k : ℕ} → Standing m x → Few x → number_in x n ≡ Some k → Given m n k
given_in m x n {k} s f e =
    let r = number_name_holds x n f e in
    record {
      mark = mark_means m.words m.bytes s.sound k ∙ rw s.means r.0;
      back = name_means m.words m.bytes s.sound k ∙ rw s.means r.1;
      again = λ q h. (meant m.words m.bytes s.sound q n).answers ∙ rw s.means (ap (λ (y : Reply). y.answer) (ask_there x q n h e));
    }

few_start : Few (book [] [])
few_start = record { planners = omega arith; contractors = omega arith }

pub stable : (w b : List ℕ) (before : List Call) (p : ℕ) (n : Name) (later : List Call) {k : ℕ} → open_mark w b ≡ 0
    → (enter_of (table w b before).words (table w b before).bytes p n).answer ≡ Number k
    → Given (calls (enter_of (table w b before).words (table w b before).bytes p n).words (enter_of (table w b before).words (table w b before).bytes p n).bytes later) n k
stable w b before p n later {k} o e =
    let s = made w b before o in
    let m = meant (table w b before).words (table w b before).bytes s.sound p n in
    let x : Book = asks (book [] []) before in
    let a : (ask x p n).answer ≡ Number k = rw s.means at (sym m.answers ∙ e) in
    given_in _ (asks (ask x p n).after later) n
    (calls_stand _ _ (ask x p n).after later (record { sound = m.sound; means = m.means ∙ rw s.means }))
    (asks_few (ask x p n).after later (ask_few x p n (asks_few (book [] []) before few_start)))
    (asks_keep (ask x p n).after later n (ask_gives x p n a))

-- ---- what a call leaves alone, in any lent memory

-- refused, the table stays as it was
refused_other : {n k : ℕ} → Number n ≡ Refused k → ⊥
refused_other e = impossible cc

laid_outside : (at : ℕ) (name b : List ℕ) (i : ℕ) → at + length name ≤ length b → (i < at) ⊎ (at + length name ≤ i) → get_or (laid at name b) i 0 ≡ get_or b i 0
unfolding laid
laid_outside at name b i h d =
    let f : length (take at b) ≡ at = length-take-le at b (omega arith) in
    let g : length (take at b ++ name) ≡ at + length name = length-append (take at b) name ∙ rw f in
    ⊎_elim
    (λ x. get_or-append (take at b ++ name) (drop (at + length name) b) 0 i (omega arith)
    ∙ get_or-append (take at b) name 0 i (omega arith) ∙ get_or-take at b i 0 x)
    (λ x. let m : ℕ = i - (at + length name) in
    let e : i ≡ length (take at b ++ name) + m = omega arith in
    let q : at + length name + m ≡ i = omega arith in
    ap (λ (z : ℕ). get_or (take at b ++ name ++ drop (at + length name) b) z 0) e
    ∙ get_or-append-add (take at b ++ name) (drop (at + length name) b) m 0 ∙ get_or-drop (at + length name) b m 0 ∙ ap (λ (z : ℕ). get_or b z 0) q)
    d

-- what a call may change: nothing, or one entry of the own half
pub record Kept (w b : List ℕ) (p : ℕ) (o : Outcome) : Type 0 where
  pub words : (i : ℕ) → (i < p * half_words) ⊎ (p * half_words + half_words ≤ i) → get_or o.words i 0 ≡ get_or w i 0
  pub bytes : (i : ℕ) → (i < p * half_bytes) ⊎ (p * half_bytes + half_bytes ≤ i) → get_or o.bytes i 0 ≡ get_or b i 0
  pub refused : (k : ℕ) → o.answer ≡ Refused k → (o.words ≡ w) × (o.bytes ≡ b)

kept_all : (w b : List ℕ) (p : ℕ) (a : Told) → Kept w b p (outcome a w b)
kept_all w b p a = record { words = λ i h. refl; bytes = λ i h. refl; refused = λ k e. (refl, refl) }

module _ (w b : List ℕ) (p : ℕ) (name : Name) (r : Bounds w b) (two : p < 2) where
  abbrev s : ℕ
  s = free_of (probe_of w b p name)

  kept_put : count w p < half_names → used w p + length name ≤ half_bytes
      → Kept w b p (outcome (Number (p * half_names + count w p)) (new_words w p s (tag_of name) (length name)) (laid (p * half_bytes + used w p) name b))
  kept_put few fits =
      let small = free_small w b name p looks (slot_of name) (slot_small name) in
      record {
        words = λ i d. ⊎_elim
            (λ x. word_other w p s (tag_of name) (length name) i (λ e. omega arith) (λ e. omega arith) (λ e. omega arith))
            (λ x. word_other w p s (tag_of name) (length name) i (λ e. omega arith) (λ e. omega arith) (λ e. omega arith)) d;
        bytes = λ i d. laid_outside (p * half_bytes + used w p) name b i (let g = r.bytes in omega arith)
            (⊎_elim (λ x. inl (omega arith)) (λ x. inr (omega arith)) d);
        refused = λ k e. absurd (refused_other e);
      }

  kept_new : Kept w b p (new_of w b p name)
  unfolding new_of
  kept_new =
      by_bool (ltb (count w p) half_names)
      (λ x. by_bool (leb (used w p + length name) half_bytes)
      (λ y. rw (x, y) (kept_put (ltb-true (count w p) half_names x) (leb-true (used w p + length name) half_bytes y)))
      (λ y. rw (x, y) (kept_all w b p (Refused no_room))))
      (λ x. rw x (kept_all w b p (Refused no_room)))

-- a party never changes anything outside its own half, whatever the lent memory; and nothing at all where it is refused
pub kept : (w b : List ℕ) (p : ℕ) (name : Name) → Kept w b p (enter_of w b p name)
kept w b p name =
    by_bool (is_in_bounds w b)
    (λ i. by_bool (ltb p 2)
    (λ x. let two = ltb-true p 2 x in
    by_found (find_of w b p name)
    (λ n e. rw (← enter_there w b p name i two e) (kept_all w b p (Number n)))
    (λ e. rw (← enter_new w b p name i two e refl) (kept_new w b p name (bounds w b i) two)))
    (λ x. rw (← enter_party w b p name i (ltb-false p 2 x)) (kept_all w b p (Refused no_party))))
    (λ i. rw (← enter_outside w b p name i) (kept_all w b p (Refused out_of_bounds)))

-- ---- 27, 35 and 37, in any lent memory

refused_same : {j k : ℕ} → Refused j ≡ Refused k → j ≡ k
refused_same e = cc

module _ (w b : List ℕ) (p : ℕ) (name : Name) where
  answered : {o : Outcome} → o ≡ enter_of w b p name → o.answer ≡ (enter_of w b p name).answer
  answered e = ap (λ (x : Outcome). x.answer) e

  new_refused : {k : ℕ} → (new_of w b p name).answer ≡ Refused k → k ≡ no_room
  unfolding new_of
  new_refused {k} e =
      by_bool (ltb (count w p) half_names)
      (λ x. by_bool (leb (used w p + length name) half_bytes)
      (λ y. absurd (refused_other {n = p * half_names + count w p} {k = k} (rw (x, y) at e)))
      (λ y. sym (refused_same {j = no_room} (rw (x, y) at e))))
      (λ x. sym (refused_same {j = no_room} (rw x at e)))

  -- why a party is refused
  why : {k : ℕ} → (enter_of w b p name).answer ≡ Refused k
      → ((k ≡ out_of_bounds) × (is_in_bounds w b ≡ false)) ⊎ (((k ≡ no_party) × (is_in_bounds w b ≡ true) × (2 ≤ p)) ⊎ (k ≡ no_room))
  why e =
      by_bool (is_in_bounds w b)
      (λ i. inr (by_bool (ltb p 2)
      (λ x. let two = ltb-true p 2 x in
      by_found (find_of w b p name)
      (λ n f. absurd (refused_other (answered (enter_there w b p name i two f) ∙ e)))
      (λ f. inr (new_refused (answered (enter_new w b p name i two f refl) ∙ e))))
      (λ x. let far = ltb-false p 2 x in inl (sym (refused_same (answered (enter_party w b p name i far) ∙ e)), i, far))))
      (λ i. inl (sym (refused_same (answered (enter_outside w b p name i) ∙ e)), i))

  -- 27 exactly if the memory is outside the bounds
  pub refused_27 : ((enter_of w b p name).answer ≡ Refused out_of_bounds → is_in_bounds w b ≡ false) × (is_in_bounds w b ≡ false → (enter_of w b p name).answer ≡ Refused out_of_bounds)
  refused_27 = (
    λ e. ⊎_elim (λ x. x.1) (⊎_elim (λ x. absurd (omega (arith, x.0))) (λ x. absurd (omega (arith, x)))) (why e),
    λ i. sym (answered (enter_outside w b p name i)),
  )

  -- 35 exactly if it is within them, and the party is neither 0 nor 1
  pub refused_35 : ((enter_of w b p name).answer ≡ Refused no_party → (is_in_bounds w b ≡ true) × (2 ≤ p)) × (is_in_bounds w b ≡ true → 2 ≤ p → (enter_of w b p name).answer ≡ Refused no_party)
  refused_35 = (
    λ e. ⊎_elim (λ x. absurd (omega (arith, x.0))) (⊎_elim (λ x. (x.1, x.2)) (λ x. absurd (omega (arith, x)))) (why e),
    λ i far. sym (answered (enter_party w b p name i far)),
  )

-- 37 exactly if the memory is within the bounds, and the number was not given
pub refused_37 : (w b : List ℕ) (k : ℕ)
    → (mark_of w b k ≡ no_name → (is_in_bounds w b ≡ true) × ((table_names ≤ k) ⊎ (count w (k / half_names) ≤ k % half_names)))
    × (is_in_bounds w b ≡ true → (table_names ≤ k) ⊎ (count w (k / half_names) ≤ k % half_names) → mark_of w b k ≡ no_name)
refused_37 w b k = (
  λ e. by_bool (is_in_bounds w b)
      (λ i. (
        i,
        by_bool (ltb k table_names)
            (λ x. by_bool (ltb (k % half_names) (count w (k / half_names)))
            (λ y. let z = mark_there w b k i (ltb-true k table_names x) refl (ltb-true (k % half_names) (count w (k / half_names)) y) ∙ e in absurd (omega (arith, z)))
            (λ y. inr (ltb-false (k % half_names) (count w (k / half_names)) y)))
            (λ x. inl (ltb-false k table_names x)),
      ))
      (λ i. let z = mark_outside w b k i ∙ e in absurd (omega (arith, z))),
  λ i d. by_bool (ltb k table_names)
      (λ x. let near = ltb-true k table_names x in
      ⊎_elim (λ far. absurd (omega (arith, far, near))) (λ m. sym (mark_none w b k i near refl m)) d)
      (λ x. sym (mark_far w b k i (ltb-false k table_names x))),
)

-- ---- who is refused, in lent memory

-- the name is in neither half
abbrev pub Absent : List ℕ → List ℕ → Name → Type 0
Absent w b n = (q k : ℕ) → q < 2 → k < count w q → name_at w b q k ≡ n → ⊥

-- 36 exactly if the name is absent and the own half lacks the entry or the bytes
pub refused_36 : (w b : List ℕ) → Sound w b → (p : ℕ) (n : Name) → p < 2
    → ((enter_of w b p n).answer ≡ Refused no_room → Absent w b n × ((half_names ≤ count w p) ⊎ (half_bytes < used w p + length n)))
    × (Absent w b n → (half_names ≤ count w p) ⊎ (half_bytes < used w p + length n) → (enter_of w b p n).answer ≡ Refused no_room)
refused_36 w b t p n two =
    let m = (meant w b t p n).answers in
    let l : length (half (book_of w b) p) ≡ count w p = rw (half_of w b p two) (length_first w b p (count w p)) in
    let z : size (half (book_of w b) p) ≡ used w p = rw (half_of w b p two) (names_size w b t p two) in (
      λ e. let r = refused_only (book_of w b) p n two (sym m ∙ e) in
          (absent_all w b t n p two (sym (found w b t n p two) ∙ r.0), ⊎_elim (λ x. inl (omega arith)) (λ x. inr (omega arith)) r.1),
      λ a d. m ∙ refused_if (book_of w b) p n two (found_none w b t n a) (⊎_elim (λ x. inl (omega arith)) (λ x. inr (omega arith)) d),
    )

-- its half being given, the other's entries can only turn a refusal into an answer
pub other_turns : (w b v c : List ℕ) → Sound w b → Sound v c → (p : ℕ) (n : Name) → p < 2 → names_of w b p ≡ names_of v c p
    → (place n (names_of w b (1 - p)) < length (names_of w b (1 - p)) → place n (names_of v c (1 - p)) < length (names_of v c (1 - p)))
    → (enter_of v c p n).answer ≡ Refused no_room → (enter_of w b p n).answer ≡ Refused no_room
other_turns w b v c s t p n two e more r =
    (meant w b s p n).answers
    ∙ only_turns (book_of w b) (book_of v c) p n two (half_of w b p two ∙ e ∙ sym (half_of v c p two))
    (rw (half_of w b (1 - p) (omega arith), half_of v c (1 - p) (omega arith)) more)
    (sym (meant v c t p n).answers ∙ r)
