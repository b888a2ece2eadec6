-- The reader's passes: the byte machine of specs/Read, number by number.
use mathlib.Core.Path.{◌≡◌, refl, sym, ap, ◌∙◌, subst}
use mathlib.Core.List.{List, [], ◌∷◌, ◌++◌, append_assoc, append-nil}
use mathlib.Core.Bool.{true}
use Prim.Native.Nat.{ℕ, suc, ◌+◌, ◌-◌, ◌*◌, ◌^◌, ◌≤◌, ◌<◌}
use native.Mathlib.Omega.{arith}
use native.Mathlib.Nat.{pow-le-pow_right, pow-suc, mul-le-mul_left, mul-suc, mul-zero}
use lib.ListN.{length, get_or, drop, length-append, length-drop}
use lib.Seq.{drop-drop}
use lib.Dec.{ltb, leb, eqb}
use borrow.Author.Tests.{lt-ltb, le-ltb, le-leb, lt-leb, eq-eqb, ne_eqb}
use Rattle.std.specs.Prelude.{if◌then◌else◌, Result, Ok, Err}
use Rattle.laws.proofs.Choice.{by_bool, if_all, no_yes}
use Rattle.laws.proofs.Places.{past, here}
use Rattle.refusal.specs.Refusals.{cut_short, wrong_number, over_sum}
use Rattle.items_files.specs.Groups.{most}
use Rattle.items_files.specs.Layout.{base, after, first}
use Rattle.items_files.specs.Answers.{served, refused}
use Rattle.items_files.specs.Numbers.{fifth, whole, number_of}
use Rattle.items_files.specs.Read.{Reading, reading, Took, goes_on, word, bad, entered, taken, between, Found, all, fails, push, told, ended, read_from, sizes, words_in, sound, opening}
use Rattle.items_files.specs.Glance.{front}
use Rattle.items_files.specs.declared.Before.{Before}
use Rattle.items_files.specs.declared.Number.{Number}
use Rattle.items_files.specs.declared.NumberFault.{NumberFault}
use Rattle.items_files.specs.declared.NumberFault.TheVariants.{Wrong, Cut}
use Rattle.lines.proofs.Tests.{by_less, by_equal}

-- ---- the bounds of a number that is being read

-- within a number at most four groups were read, the next one weighs 128 to their count, and their value is below that
pub record Fine (r : Reading) : Type 0 where
  pub groups : ℕ
  pub few : groups ≤ 4
  pub power : r.weight ≡ 128 ^ groups
  pub small : r.value < r.weight

fine_low : (w k : ℕ) → k ≤ 4 → w ≡ 128 ^ k → w ≤ fifth
fine_low w k h e = omega (arith, e, pow-le-pow_right {n = 128} (omega arith) h)

pub fine_less : (w k : ℕ) → k ≤ 4 → w ≡ 128 ^ k → (w ≡ fifth → ⊥) → (k + 1 ≤ 4) × (w ≤ 2097152)
fine_less w k h e d =
    by_less k 4 (λ l. (omega arith, omega (arith, e, pow-le-pow_right {n = 128} (omega arith) {i = k} {j = 3} (omega arith))))
    (λ l. absurd (d (e ∙ ap (λ (x : ℕ). 128 ^ x) (let z : k ≡ 4 = omega arith in z))))

module _ (r : Reading) (f : Fine r) where
  pub weight_low : r.weight ≤ fifth
  weight_low = fine_low r.weight f.groups f.few f.power

  pub weight_high : 1 ≤ r.weight
  weight_high = omega (arith, f.small)

  pub weight_less : (r.weight ≡ fifth → ⊥) → r.weight ≤ 2097152
  weight_less d = (fine_less r.weight f.groups f.few f.power d).1

  -- a group more
  pub group_small : (x : ℕ) → x < 128 → r.value + r.weight * x < r.weight * 128
  group_small x h = omega (arith, f.small, mul-le-mul_left r.weight h, mul-suc r.weight x)

  pub fine_on : (x : ℕ) → x < 128 → (r.weight ≡ fifth → ⊥) → Fine (reading (r.value + r.weight * x) (r.weight * 128) r.before)
  fine_on x h d = record {
    groups = suc f.groups;
    few = omega (arith, (fine_less r.weight f.groups f.few f.power d).0);
    power = rw f.power (sym (pow-suc 128 f.groups));
    small = group_small x h;
  }

pub fine_between : (b : Before) → Fine (between b)
fine_between b = record { groups = 0; few = omega arith; power = refl; small = omega arith }

-- ---- what a byte does

pub data View (r : Reading) (c : ℕ) : Took → Type 0 where
  v_on : 128 ≤ c → (r.weight ≡ fifth → ⊥) → View r c (goes_on (reading (r.value + r.weight * (c - 128)) (r.weight * 128) r.before))
  v_word : (n : ℕ) → c < 128 → (c ≡ 0 → r.weight ≡ 1) → n ≡ r.value + r.weight * c → n ≤ most → base r.before + n ≤ most
      → View r c (word (base r.before + n) (between (after r.before (base r.before + n))))
  v_bad : (k : ℕ) → View r c (bad k)

view_entered : (r : Reading) (c n : ℕ) → c < 128 → (c ≡ 0 → r.weight ≡ 1) → n ≡ r.value + r.weight * c → View r c (entered r.before n)
unfolding entered
view_entered r c n l z e =
    by_less most n (λ h. rw (lt-ltb most n h) (v_bad wrong_number)) (λ h.
    rw (le-ltb most n h)
    (by_less most (base r.before + n) (λ k. rw (lt-ltb most (base r.before + n) k) (v_bad over_sum)) (λ k.
    rw (le-ltb most (base r.before + n) k) (v_word n l z e h k))))

pub zero_value : (r : Reading) (c : ℕ) → Fine r → c ≡ 0 → r.weight ≡ 1 → 0 ≡ r.value + r.weight * c
zero_value r c f z w = omega (arith, f.small, ap (λ (x : ℕ). r.weight * x) z, mul-zero r.weight)

pub view : (r : Reading) (c : ℕ) → Fine r → View r c (taken r c)
unfolding taken
view r c f =
    by_less c 128
    (λ l.
    rw (lt-leb 128 c l)
    (by_equal c 0
    (λ z.
    rw (eq-eqb c 0 z)
    (by_equal r.weight 1
    (λ w. rw (eq-eqb r.weight 1 w) (view_entered r c 0 l (λ x. w) (zero_value r c f z w)))
    (λ w. rw (ne_eqb r.weight 1 w) (v_bad wrong_number))))
    (λ z. rw (ne_eqb c 0 z) (view_entered r c (r.value + r.weight * c) l (λ x. absurd (z x)) refl))))
    (λ l.
    rw (le-leb 128 c l)
    (by_equal r.weight fifth (λ w. rw (eq-eqb r.weight fifth w) (v_bad wrong_number)) (λ w. rw (ne_eqb r.weight fifth w) (v_on l w))))

-- ---- a number at a time

module _ (file : List ℕ) (b : Before) (j : ℕ) where
  -- how reading goes on after what stands there
  abbrev pub onwards : Result Number NumberFault → Found
  onwards (Err Cut) = fails cut_short j
  onwards (Err Wrong) = fails wrong_number j
  onwards (Ok n) =
      if ltb most (base b + n.value)
      then fails over_sum j
      else push (base b + n.value) (read_from (between (after b (base b + n.value))) (j + 1) (drop n.next file))

  joins : (n next : ℕ)
      → told (entered b n) (λ t. read_from t j (drop next file)) (λ w t. push w (read_from t (j + 1) (drop next file))) (λ k. fails k j)
      ≡ onwards (if ltb most n then Err Wrong else whole n next)
  unfolding entered
  joins n next = by_bool (ltb most n) (λ e. rw e) (λ e. rw e (by_bool (ltb most (base b + n)) (λ f. rw f) (λ f. rw f)))

  -- the bytes of a number, and then on; at the end of a file between two numbers there is none
  pub reads : (s : List ℕ) (v w at : ℕ) → drop at file ≡ s → (length s ≡ 0 → w ≡ 1 → ⊥) → read_from (reading v w b) j s ≡ onwards (number_of v w at s)
  unfolding read_from taken number_of
  reads [] v w at e h = rw (ne_eqb w 1 (h refl))
  reads (c ∷ s) v w at e h =
      let d : drop (at + 1) file ≡ s = sym (drop-drop 1 at file) ∙ ap (drop 1) e in
      by_less c 128
      (λ l.
      rw (lt-leb 128 c l)
      (by_equal c 0
      (λ z.
      rw (eq-eqb c 0 z)
      (by_equal w 1 (λ o. rw (eq-eqb w 1 o, ← d) (joins 0 (at + 1))) (λ o. rw (ne_eqb w 1 o))))
      (λ z. rw (ne_eqb c 0 z, ← d) (joins (v + w * c) (at + 1)))))
      (λ l.
      rw (le-leb 128 c l)
      (by_equal w fifth
      (λ o. rw (eq-eqb w fifth o))
      (λ o. rw (ne_eqb w fifth o) (reads s (v + w * (c - 128)) (w * 128) (at + 1) d (λ z o. omega (arith, o))))))

-- where the next number stands
abbrev pub Next : ℕ → ℕ → Result Number NumberFault → Type 0
Next at end (Err Cut) = Unit {0}
Next at end (Err Wrong) = Unit {0}
Next at end (Ok n) = (at < n.next) × (n.next ≤ end)

sooner : (at a end e : ℕ) (x : Result Number NumberFault) → at ≤ a → e ≤ end → Next a e x → Next at end x
sooner at a end e (Err Cut) h l n = tt
sooner at a end e (Err Wrong) h l n = tt
sooner at a end e (Ok v) h l n = (omega (arith, n.0), omega (arith, n.1))

number_next : (s : List ℕ) (v w at : ℕ) → Next at (at + length s) (number_of v w at s)
unfolding number_of
number_next [] v w at = tt
number_next (c ∷ s) v w at =
    let P : Result Number NumberFault → Type 0 = Next at (at + length (c ∷ s)) in
    let r : Next (at + 1) (at + 1 + length s) (number_of (v + w * (c - 128)) (w * 128) (at + 1) s) = number_next s (v + w * (c - 128)) (w * 128) (at + 1) in
    if_all P (leb 128 c)
    (if_all P (eqb w fifth) tt (sooner at (at + 1) (at + length (c ∷ s)) (at + 1 + length s) (number_of (v + w * (c - 128)) (w * 128) (at + 1) s) (omega arith) (omega arith) r))
    (if_all P (eqb c 0)
    (if_all P (eqb w 1) (omega arith, omega arith) tt)
    (if_all P (ltb most (v + w * c)) tt (omega arith, omega arith)))

pub next_place : (s : List ℕ) (i n next : ℕ) → i ≤ length s → whole n next ≡ number_of 0 1 i (drop i s) → (i < next) × (next ≤ length s)
next_place s i n next h e =
    let r : Next i (i + length (drop i s)) (whole n next) = subst (Next i (i + length (drop i s))) (sym e) (number_next (drop i s) 0 1 i) in
    (r.0, omega (arith, r.1, length-drop i s))

-- ---- one number, group by group

pub record Numbering (s : List ℕ) (at v w i : ℕ) : Type 0 where
  pub fine : Fine (reading v w first)
  pub same : number_of 0 1 at (drop at s) ≡ number_of v w i (drop i s)

pub numbering_start : (s : List ℕ) (at : ℕ) → Numbering s at 0 1 at
numbering_start s at = record { fine = fine_between first; same = refl }

module _ (s : List ℕ) (at : ℕ) {v w i : ℕ} (m : Numbering s at v w i) where
  pub numbering_end : length s ≤ i → Err Cut ≡ number_of 0 1 at (drop at s)
  unfolding number_of
  numbering_end h = sym (m.same ∙ ap (number_of v w i) (past s i h))

  module _ (h : i < length s) where
    at_byte : number_of 0 1 at (drop at s) ≡ number_of v w i (get_or s i 0 ∷ drop (i + 1) s)
    at_byte = m.same ∙ ap (number_of v w i) (here s i h)

    module _ (l : get_or s i 0 < 128) where
      pub numbering_zero : get_or s i 0 ≡ 0 → w ≡ 1 → whole 0 (i + 1) ≡ number_of 0 1 at (drop at s)
      unfolding number_of
      numbering_zero z o = sym (at_byte ∙ rw (lt-leb 128 (get_or s i 0) l, eq-eqb (get_or s i 0) 0 z, eq-eqb w 1 o))

      pub numbering_long : get_or s i 0 ≡ 0 → (w ≡ 1 → ⊥) → Err Wrong ≡ number_of 0 1 at (drop at s)
      unfolding number_of
      numbering_long z o = sym (at_byte ∙ rw (lt-leb 128 (get_or s i 0) l, eq-eqb (get_or s i 0) 0 z, ne_eqb w 1 o))

      module _ (z : get_or s i 0 ≡ 0 → ⊥) where
        pub numbering_over : most < v + w * get_or s i 0 → Err Wrong ≡ number_of 0 1 at (drop at s)
        unfolding number_of
        numbering_over o = sym (at_byte ∙ rw (lt-leb 128 (get_or s i 0) l, ne_eqb (get_or s i 0) 0 z, lt-ltb most (v + w * get_or s i 0) o))

        pub numbering_whole : v + w * get_or s i 0 ≤ most → whole (v + w * get_or s i 0) (i + 1) ≡ number_of 0 1 at (drop at s)
        unfolding number_of
        numbering_whole o = sym (at_byte ∙ rw (lt-leb 128 (get_or s i 0) l, ne_eqb (get_or s i 0) 0 z, le-ltb most (v + w * get_or s i 0) o))

    module _ (l : 128 ≤ get_or s i 0) where
      pub numbering_fifth : w ≡ fifth → Err Wrong ≡ number_of 0 1 at (drop at s)
      unfolding number_of
      numbering_fifth o = sym (at_byte ∙ rw (le-leb 128 (get_or s i 0) l, eq-eqb w fifth o))

      pub numbering_on : get_or s i 0 < 256 → (w ≡ fifth → ⊥) → Numbering s at (v + w * (get_or s i 0 - 128)) (w * 128) (i + 1)
      unfolding number_of
      numbering_on b o = record {
        fine = fine_on (reading v w first) m.fine (get_or s i 0 - 128) (omega arith) o;
        same = at_byte ∙ rw (le-leb 128 (get_or s i 0) l, ne_eqb w fifth o);
      }

-- a number of one group
pub one_group : (s : List ℕ) (at : ℕ) → at < length s → get_or s at 0 < 128 → whole (get_or s at 0) (at + 1) ≡ number_of 0 1 at (drop at s)
unfolding number_of
one_group s at h l =
    let c : ℕ = get_or s at 0 in
    let e : 0 + 1 * get_or s at 0 ≡ get_or s at 0 = omega arith in
    sym
    (ap (number_of 0 1 at) (here s at h)
    ∙ rw (lt-leb 128 (get_or s at 0) l)
    (by_equal (get_or s at 0) 0
    (λ z. rw (eq-eqb (get_or s at 0) 0 z) (ap (λ (x : ℕ). whole x (at + 1)) (sym z)))
    (λ z. rw (ne_eqb (get_or s at 0) 0 z, e, le-ltb most (get_or s at 0) (omega arith)))))

-- ---- reading on

pub front_nil : (f : Found) → f ≡ front [] f
front_nil (all ws) = refl
front_nil (fails n j) = refl

pub front-front : (done ws : List ℕ) (f : Found) → front done (front ws f) ≡ front (done ++ ws) f
front-front done ws (all vs) = ap all (sym (append_assoc done ws vs))
front-front done ws (fails n j) = refl

pub push-front : (w : ℕ) (f : Found) → push w f ≡ front (w ∷ []) f
push-front w (all ws) = refl
push-front w (fails n j) = refl

pub front-push : (done : List ℕ) (w : ℕ) (f : Found) → front done (push w f) ≡ front (done ++ (w ∷ [])) f
front-push done w (all ws) = ap all (sym (append_assoc done (w ∷ []) ws))
front-push done w (fails n j) = refl

pub record Scanning (s : List ℕ) (b : Before) (n i : ℕ) : Type 0 where
  pub done : List ℕ
  pub inside : i ≤ length s
  pub few : n ≤ i
  pub count : length done ≡ n
  pub whole : read_from opening 0 s ≡ front done (read_from (between b) n (drop i s))

unfoldable pub scanning_start : (s : List ℕ) → Scanning s first 0 0
scanning_start s = record { done = []; inside = omega arith; few = omega arith; count = refl; whole = front_nil (read_from opening 0 s) }

module _ (s : List ℕ) (b : Before) (n i : ℕ) (m : Scanning s b n i) where
  at_end_case : length s ≤ i → read_from opening 0 s ≡ front m.done (ended (between b) n)
  unfolding read_from
  at_end_case h = m.whole ∙ ap (λ (l : List ℕ). front m.done (read_from (between b) n l)) (past s i h)

  pub scanning_all : length s ≤ i → b.which ≡ 0 → served n ≡ sizes (read_from opening 0 s)
  scanning_all h z = sym (ap sizes (at_end_case h) ∙ rw (eq-eqb b.which 0 z) (ap served (length-append m.done [] ∙ omega (arith, m.count))))

  pub scanning_short : length s ≤ i → (b.which ≡ 0 → ⊥) → refused cut_short n ≡ sizes (read_from opening 0 s)
  scanning_short h z = sym (ap sizes (at_end_case h) ∙ rw (ne_eqb b.which 0 z))

  module _ (h : i < length s) where
    pub at_number : {x : Result Number NumberFault} → x ≡ number_of 0 1 i (drop i s) → read_from opening 0 s ≡ front m.done (onwards s b n x)
    at_number e = rw e (m.whole ∙ ap (front m.done) (reads s b n (drop i s) 0 1 i refl (λ z o. omega (arith, z, length-drop i s))))

    pub scanning_cut : Err Cut ≡ number_of 0 1 i (drop i s) → refused cut_short n ≡ sizes (read_from opening 0 s)
    scanning_cut e = sym (ap sizes (at_number e))

    pub scanning_wrong : Err Wrong ≡ number_of 0 1 i (drop i s) → refused wrong_number n ≡ sizes (read_from opening 0 s)
    scanning_wrong e = sym (ap sizes (at_number e))

    module _ {v next less : ℕ} (e : whole v next ≡ number_of 0 1 i (drop i s)) (l : less ≡ base b) where
      pub over_fails : most < less + v → read_from opening 0 s ≡ fails over_sum n
      over_fails o = at_number e ∙ rw (← l, lt-ltb most (less + v) o)

      pub scanning_over : most < less + v → refused over_sum n ≡ sizes (read_from opening 0 s)
      scanning_over o = sym (ap sizes (over_fails o))

      unfoldable pub scanning_word : {after_it : Before} → less + v ≤ most → after_it ≡ after b (less + v) → Scanning s after_it (n + 1) next
      scanning_word {after_it} o a =
          let p = next_place s i v next m.inside e in
          record {
            done = m.done ++ ((less + v) ∷ []);
            inside = p.1;
            few = omega (arith, m.few, p.0);
            count = length-append m.done ((less + v) ∷ []) ∙ rw m.count;
            whole = at_number e ∙ rw (← l, le-ltb most (less + v) o, ← a) (front-push m.done (less + v) (read_from (between after_it) (n + 1) (drop next s)));
          }

-- ---- the second pass, over a file that has no number that fails

pub unsound : {f : Found} {k j : ℕ} {P : Type 0} → sound f ≡ true → f ≡ fails k j → P
unsound q e = no_yes (sym (ap sound e) ∙ q)

front_few : (done : List ℕ) (f : Found) → sound (front done f) ≡ true → length done ≤ length (words_in (front done f))
front_few done (all ws) q = omega (arith, length-append done ws)
front_few done (fails n j) q = no_yes q

ended_words : (r : Reading) (n : ℕ) (done : List ℕ) → sound (front done (ended r n)) ≡ true → words_in (front done (ended r n)) ≡ done
ended_words r n done = by_bool (eqb r.weight 1)
    (λ a. rw a (by_bool (eqb r.before.which 0) (λ b. rw b (λ q. append-nil done)) (λ b. rw b (λ q. no_yes q))))
    (λ a. rw a (λ q. no_yes q))

module _ (s : List ℕ) (b : Before) (n i : ℕ) (m : Scanning s b n i) (q : sound (read_from opening 0 s) ≡ true) where
  pub scanning_few : n ≤ length (words_in (read_from opening 0 s))
  scanning_few =
      let x = front_few m.done (read_from (between b) n (drop i s)) (sym (ap sound m.whole) ∙ q) in
      omega (arith, x, m.count, ap (λ (f : Found). length (words_in f)) m.whole)

  pub scanning_end : length s ≤ i → words_in (read_from opening 0 s) ≡ m.done
  scanning_end h = let e = at_end_case s b n i m h in ap words_in e ∙ ended_words (between b) n m.done (sym (ap sound e) ∙ q)

  module _ (h : i < length s) where
    pub never_failing : {P : Type 0} (x : Result Number NumberFault) → x ≡ number_of 0 1 i (drop i s) → ((v : Number) → x ≡ Ok v → ⊥) → P
    never_failing (Ok v) e none = absurd (none v refl)
    never_failing (Err Cut) e none = unsound q (at_number s b n i m h e)
    never_failing (Err Wrong) e none = unsound q (at_number s b n i m h e)

    pub never_over : {v next less : ℕ} → whole v next ≡ number_of 0 1 i (drop i s) → less ≡ base b → less + v ≤ most
    never_over {v} {next} {less} e l = by_less most (less + v) (λ o. unsound q (over_fails s b n i m h e l o)) (λ o. o)
