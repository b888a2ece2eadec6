-- Isolation: its own half being given, the answer to a party depends on the other's half only where the party asks for a name that it has
-- not entered itself, and there only on the number that this name has among the other's.
use Rattle.std.proofs.Common.{None, Option, Some}
use Prim.Native.Nat.{ℕ, zero, suc, ◌+◌, ◌-◌, ◌*◌, ◌/◌, ◌≤◌, ◌<◌}
use native.Mathlib.Omega.{arith}
use borrow.Author.Tests.{lt-ltb, le-leb, lt-leb, ltb-true, ltb-false, eqb-true, eqb-false}
use mathlib.Core.Path.{◌≡◌, refl, sym, ap, ◌∙◌}
use mathlib.Core.Logic.{◌⊎◌, ⊎_elim}
use mathlib.Core.Bool.{true, false}
use mathlib.Core.List.{List, [], ◌∷◌, ◌++◌}
use lib.Dec.{eqb, ltb}
use lib.ListN.{length}
use Rattle.laws.specs.Texts.{same}
use Rattle.laws.proofs.Choice.{by_bool, if_yes, if_no, impossible}
use Rattle.laws.proofs.Compared.{same_is}
use Rattle.refusal.specs.Refusals.{no_room}
use Rattle.names.specs.Layout.{half_names, half_bytes, table_names}
use Rattle.names.specs.Call.{open_mark, open_words, enter_of, mark_of, name_of}
use Rattle.names.specs.Book.{Name, Book, book, half, place, size, number_in, added, Reply, reply, ask, mark_in, name_in, Call, names_of, book_of}
use Rattle.names.specs.Isolation.{present, seen, room, new_answer, told_or, answer_of, own_after, answers_to, answers_in, calls_of, strangers}
use Rattle.names.specs.Answers.{Told, Number, Refused}
use Rattle.names.proofs.Parts.{same_refl}
use Rattle.names.proofs.Laws.{party_of, halves}
use Rattle.names.proofs.Sound.{Sound}
use Rattle.names.proofs.Means.{meant, half_of, names_apart}
use Rattle.names.proofs.Shared.{place_le, place_not, number_planner, number_contractor, number_none, where_is, at_none, ways, ask_there, ask_stranger, after_is}
use Rattle.names.proofs.Table.{mark_means, name_means, opened}

-- ---- in the book

-- no name is in both halves
abbrev pub Apart : Book → Type 0
Apart b = (n : Name) → place n b.planner < length b.planner → place n b.contractor ≡ length b.contractor

absent_is : (l : List Name) (n : Name) → present l n ≡ false → place n l ≡ length l
absent_is l n t = let h = ltb-false (place n l) (length l) t in omega (arith, place_le n l)

apart_planner : (b : Book) → Apart b → (n : Name) → place n b.contractor < length b.contractor → place n b.planner ≡ length b.planner
apart_planner b a n h =
    by_bool (present b.planner n)
    (λ t. let e = a n (ltb-true (place n b.planner) (length b.planner) t) in absurd (omega arith))
    (λ t. absent_is b.planner n t)

module _ (b : Book) (a : Apart b) (n : Name) where
  -- a name that is one of the own, one of the other's, or neither
  own_number : (p : ℕ) → p < 2 → present (half b p) n ≡ true → number_in b n ≡ Some (p * half_names + place n (half b p))
  own_number zero two t = number_planner b n (record { less = ltb-true (place n b.planner) (length b.planner) t; number = omega arith })
  own_number (suc zero) two t =
      let h = ltb-true (place n b.contractor) (length b.contractor) t in
      number_contractor b n (record { none = apart_planner b a n h; less = h; number = omega arith })
  own_number (suc (suc p)) two t = absurd (omega arith)

  other_number : (p : ℕ) → p < 2 → present (half b p) n ≡ false → present (half b (1 - p)) n ≡ true
      → number_in b n ≡ Some ((1 - p) * half_names + place n (half b (1 - p)))
  other_number zero two t u =
      number_contractor b n (record {
        none = absent_is b.planner n t;
        less = ltb-true (place n b.contractor) (length b.contractor) u;
        number = omega arith;
      })
  other_number (suc zero) two t u =
      number_planner b n (record { less = ltb-true (place n b.planner) (length b.planner) u; number = omega arith })
  other_number (suc (suc p)) two t u = absurd (omega arith)

  none_number : (p : ℕ) → p < 2 → present (half b p) n ≡ false → present (half b (1 - p)) n ≡ false → number_in b n ≡ None
  none_number zero two t u = number_none b n (absent_is b.planner n t) (absent_is b.contractor n u)
  none_number (suc zero) two t u = number_none b n (absent_is b.planner n u) (absent_is b.contractor n t)
  none_number (suc (suc p)) two t u = absurd (omega arith)

half_own : (b : Book) (p : ℕ) (n : Name) → half (added b p n) p ≡ half b p ++ (n ∷ [])
half_own b zero n = refl
half_own b (suc p) n = refl

half_other : (b : Book) (p : ℕ) (n : Name) → p < 2 → half (added b p n) (1 - p) ≡ half b (1 - p)
half_other b zero n two = refl
half_other b (suc zero) n two = refl
half_other b (suc (suc p)) n two = absurd (omega arith)

-- what a call gives, by the own names and by what is seen of the other's
pub record View (own other : List Name) (p : ℕ) (n : Name) (answer : Told) (own-then other-then : List Name) : Type 0 where
  pub answers : answer ≡ answer_of p own (seen (1 - p) other n) n
  pub keeps : own-then ≡ own_after own (present other n) n
  pub leaves : other-then ≡ other

abbrev HasView : Book → ℕ → Name → Reply → Type 0
HasView b p n r = View (half b p) (half b (1 - p)) p n r.answer (half r.after p) (half r.after (1 - p))

module _ (b : Book) (p : ℕ) (n : Name) (two : p < 2) where
  view_own : present (half b p) n ≡ true → HasView b p n (reply (Number (p * half_names + place n (half b p))) b)
  view_own t = record { answers = if_yes _ _ _ t refl; keeps = if_yes _ _ _ t refl; leaves = refl }

  view_other : present (half b p) n ≡ false → present (half b (1 - p)) n ≡ true
      → HasView b p n (reply (Number ((1 - p) * half_names + place n (half b (1 - p)))) b)
  view_other t u =
      record {
        answers = if_no _ _ _ t (ap (λ (f : Option ℕ). told_or f (new_answer p (half b p) n)) (if_yes _ _ _ u refl));
        keeps = if_no _ _ _ t (if_yes _ _ _ u refl);
        leaves = refl;
      }

  module _ (t : present (half b p) n ≡ false) (u : present (half b (1 - p)) n ≡ false) where
    new_answer_lem : {a : Told} → a ≡ new_answer p (half b p) n → a ≡ answer_of p (half b p) (seen (1 - p) (half b (1 - p)) n) n
    new_answer_lem e = if_no _ _ _ t (e ∙ ap (λ (f : Option ℕ). told_or f (new_answer p (half b p) n)) (if_no _ _ _ u refl))

    view_new : room (half b p) n ≡ true → HasView b p n (reply (Number (p * half_names + length (half b p))) (added b p n))
    view_new r =
        record {
          answers = new_answer_lem (if_yes _ _ _ r refl);
          keeps = half_own b p n ∙ if_no _ _ _ t (if_no _ _ _ u (if_yes _ _ _ r refl));
          leaves = half_other b p n two;
        }

    view_refused : room (half b p) n ≡ false → HasView b p n (reply (Refused no_room) b)
    view_refused r =
        record {
          answers = new_answer_lem (if_no _ _ _ r refl);
          keeps = if_no _ _ _ t (if_no _ _ _ u (if_no _ _ _ r refl));
          leaves = refl;
        }

room_yes : (l : List Name) (n : Name) → length l < half_names → size l + length n ≤ half_bytes → room l n ≡ true
room_yes l n h g = sym (if_yes _ _ _ (lt-ltb (length l) half_names h) (sym (le-leb (size l + length n) half_bytes g)))

room_no : (l : List Name) (n : Name) → (half_names ≤ length l) ⊎ (half_bytes < size l + length n) → room l n ≡ false
room_no l n d =
    by_bool (ltb (length l) half_names)
    (λ t. sym (if_yes _ _ _ t (⊎_elim
    (λ h. let g = ltb-true (length l) half_names t in absurd (omega arith))
    (λ h. sym (lt-leb (size l + length n) half_bytes h)) d)))
    (λ t. sym (if_no _ _ _ t refl))

pub ask-view : (b : Book) → Apart b → (p : ℕ) (n : Name) → p < 2 → HasView b p n (ask b p n)
ask-view b a p n two =
    by_bool (present (half b p) n)
    (λ t. rw (ask_there b p n two (own_number b a n p two t)) (view_own b p n two t))
    (λ t. by_bool (present (half b (1 - p)) n)
    (λ u. rw (ask_there b p n two (other_number b a n p two t u)) (view_other b p n two t u))
    (λ u. let none = none_number b a n p two t u in
    ⊎_elim
    (λ x. absurd (at_none (sym x.1 ∙ none)))
    (⊎_elim
    (λ x. rw x.3 (view_new b p n two t u (room_yes (half b p) n x.1 x.2)))
    (λ x. rw x.2 (view_refused b p n two t u (room_no (half b p) n x.1))))
    (ways b p n two).way))

-- ---- in lent memory

pub isolated : (w b : List ℕ) → Sound w b → (p : ℕ) (n : Name) → p < 2
    → View (names_of w b p) (names_of w b (1 - p)) p n (enter_of w b p n).answer
    (names_of (enter_of w b p n).words (enter_of w b p n).bytes p)
    (names_of (enter_of w b p n).words (enter_of w b p n).bytes (1 - p))
isolated w b t p n two =
    let m = meant w b t p n in
    let one : 1 - p < 2 = omega arith in
    let v = ask-view (book_of w b) (names_apart w b t) p n two in
    let x = half_of w b p two in
    let y = half_of w b (1 - p) one in
    let after : (q : ℕ) → q < 2 → names_of (enter_of w b p n).words (enter_of w b p n).bytes q ≡ half (ask (book_of w b) p n).after q =
    λ q h. sym (half_of (enter_of w b p n).words (enter_of w b p n).bytes q h) ∙ ap (λ (z : Book). half z q) m.means in
    rw (← x, ← y)
    (record {
      answers = m.answers ∙ v.answers;
      keeps = after p two ∙ v.keeps;
      leaves = after (1 - p) one ∙ v.leaves;
    })

-- two tables with the same own names, in which the name has the same number among the other's, or none: same answer, same own names after
pub same_view : (w b v c : List ℕ) → Sound w b → Sound v c → (p : ℕ) (n : Name) → p < 2 → names_of w b p ≡ names_of v c p
    → seen (1 - p) (names_of w b (1 - p)) n ≡ seen (1 - p) (names_of v c (1 - p)) n
    → (enter_of w b p n).answer ≡ (enter_of v c p n).answer
same_view w b v c s t p n two e f =
    (isolated w b s p n two).answers ∙ rw (e, f) (sym (isolated v c t p n two).answers)

-- an own name: whatever the other has entered
pub own_name : (w b v c : List ℕ) → Sound w b → Sound v c → (p : ℕ) (n : Name) → p < 2 → names_of w b p ≡ names_of v c p
    → present (names_of w b p) n ≡ true → (enter_of w b p n).answer ≡ (enter_of v c p n).answer
own_name w b v c s t p n two e h =
    let g : present (names_of v c p) n ≡ true = rw e at h in
    (isolated w b s p n two).answers ∙ sym (if_yes _ _ _ h refl) ∙ rw e (if_yes _ _ _ g refl) ∙ sym (isolated v c t p n two).answers

-- the name call: the half of the number's own party alone decides
number_half : (x y : Book) (k : ℕ) → (k < table_names → half x (k / half_names) ≡ half y (k / half_names)) → (mark_in x k ≡ mark_in y k) × (name_in x k ≡ name_in y k)
unfolding mark_in name_in
number_half x y k e = by_bool (ltb k table_names) (λ t. rw (t, e (ltb-true k table_names t)) (refl, refl)) (λ t. rw t (refl, refl))

pub name_isolated : (w b v c : List ℕ) → Sound w b → Sound v c → (k : ℕ) → (k < table_names → names_of w b (k / half_names) ≡ names_of v c (k / half_names))
    → (mark_of w b k ≡ mark_of v c k) × (name_of w b k ≡ name_of v c k)
name_isolated w b v c s t k e =
    let f = number_half (book_of w b) (book_of v c) k
    (λ h. half_of w b (k / half_names) (party_of k h) ∙ e h ∙ sym (half_of v c (k / half_names) (party_of k h))) in
    (mark_means w b s k ∙ f.0 ∙ sym (mark_means v c t k), name_means w b s k ∙ f.1 ∙ sym (name_means v c t k))

-- ---- many calls: to a party that never asks for a name of the other's the table is its own

none_parts : (b : Book) (n : Name) → number_in b n ≡ None → (place n b.planner ≡ length b.planner) × (place n b.contractor ≡ length b.contractor)
none_parts b n e =
    where_is b n
    (λ k r. absurd (at_none (sym (number_planner b n r) ∙ e)))
    (λ k r. absurd (at_none (sym (number_contractor b n r) ∙ e)))
    (λ u v. (u, v))

added_apart : (b : Book) → Apart b → (p : ℕ) (n : Name) → number_in b n ≡ None → Apart (added b p n)
added_apart b a zero n e m h =
    by_bool (present b.planner m)
    (λ t. a m (ltb-true (place m b.planner) (length b.planner) t))
    (λ t. by_bool (same n m)
    (λ u. rw (← same_is n m u) (none_parts b n e).1)
    (λ u. let g = place_not m b.planner n (absent_is b.planner m t)
    (λ q. let z : true ≡ false = sym (same_refl n) ∙ ap (λ (x : Name). same n x) q ∙ u in impossible cc) in
    absurd (omega arith)))
added_apart b a (suc p) n e m h =
    place_not m b.contractor n (a m h)
    (λ q. let z : place m b.planner ≡ length b.planner = rw q at (none_parts b n e).0 in omega arith)

pub ask_apart : (b : Book) → Apart b → (p : ℕ) (n : Name) → Apart (ask b p n).after
ask_apart b a p n = ⊎_elim (λ y. rw y a) (λ y. rw y.3 (added_apart b a p n y.0)) (after_is b p n)

-- a party's half stays as it is while another one calls
other_keeps : (b : Book) → Apart b → (q p : ℕ) (n : Name) → (q ≡ p → ⊥) → p < 2 → half (ask b q n).after p ≡ half b p
other_keeps b a q p n d two =
    by_bool (ltb q 2)
    (λ t. let h = ltb-true q 2 t in let e : p ≡ 1 - q = omega (arith, d) in rw e (ask-view b a q n h).leaves)
    (λ t. ap (λ (r : Reply). half r.after p) (ask_stranger b q n (ltb-false q 2 t)))

no_names : (l : List Name) (n : Name) → l ≡ [] → present l n ≡ false
unfolding place
no_names l n e = rw e

answer_alone : (p : ℕ) (own : List Name) (other : Option ℕ) (n : Name) → other ≡ None → answer_of p own other n ≡ answer_of p own None n
answer_alone p own other n e = rw e

module _ (p : ℕ) (two : p < 2) where
  -- a name that the other has not entered, asked for in two books with the same own names
  alike : (x y : Book) → Apart x → Apart y → (n : Name) → half x p ≡ half y p → present (half x (1 - p)) n ≡ false → present (half y (1 - p)) n ≡ false
      → ((ask x p n).answer ≡ (ask y p n).answer) × (half (ask x p n).after p ≡ half (ask y p n).after p)
  alike x y ax ay n e t u =
      let v = ask-view x ax p n two in
      let r = ask-view y ay p n two in (
        v.answers ∙ answer_alone p (half x p) _ n (sym (if_no _ _ _ t refl)) ∙ ap (λ (l : List Name). answer_of p l None n) e
            ∙ sym (r.answers ∙ answer_alone p (half y p) _ n (sym (if_no _ _ _ u refl))),
        v.keeps ∙ rw (t, u, e) refl ∙ sym r.keeps,
      )

  pub alone : (x y : Book) → Apart x → Apart y → half x p ≡ half y p → half y (1 - p) ≡ [] → (cs : List Call) → strangers p x cs ≡ true
      → answers_to p x cs ≡ answers_to p y (calls_of p cs)
  unfolding answers_to calls_of strangers
  alone x y ax ay e none [] h = refl
  alone x y ax ay e none (c ∷ cs) h =
      by_bool (eqb c.party p)
      (λ t. let q = eqb-true c.party p t in
      by_bool (present (half x (1 - p)) c.name)
      (λ u. let z : false ≡ true = rw (t, u) at h in impossible cc)
      (λ u. let f = alike x y ax ay c.name e u (no_names (half y (1 - p)) c.name none) in
      let g : strangers p (ask x p c.name).after cs ≡ true = rw (t, u, q) at h in
      let m = alone (ask x p c.name).after (ask y p c.name).after (ask_apart x ax p c.name) (ask_apart y ay p c.name)
      f.1 ((ask-view y ay p c.name two).leaves ∙ none) cs g in
      rw t (rw t (rw (q, f.0, m)))))
      (λ t. let d = eqb-false c.party p t in
      let g : strangers p (ask x c.party c.name).after cs ≡ true = rw t at h in
      rw t (alone (ask x c.party c.name).after y (ask_apart x ax c.party c.name) ay
      (other_keeps x ax c.party p c.name d two ∙ e) none cs g))

-- the answers in lent memory are those in the book
pub answers_mean : (p : ℕ) (w b : List ℕ) → Sound w b → (cs : List Call) → answers_in p w b cs ≡ answers_to p (book_of w b) cs
unfolding answers_in answers_to
answers_mean p w b t [] = refl
answers_mean p w b t (c ∷ cs) =
    let m = meant w b t c.party c.name in
    rw (answers_mean p (enter_of w b c.party c.name).words (enter_of w b c.party c.name).bytes m.sound cs, m.means, m.answers)

-- two tables just opened: in the first both parties call, in the second party p alone makes its calls
pub alone_in_memory : (w b v c : List ℕ) → open_mark w b ≡ 0 → open_mark v c ≡ 0 → (p : ℕ) → p < 2 → (cs : List Call) → strangers p (book [] []) cs ≡ true
    → answers_in p (open_words w b) b cs ≡ answers_in p (open_words v c) c (calls_of p cs)
alone_in_memory w b v c o q p two cs h =
    let x = opened w b o in
    let y = opened v c q in
    let a : Apart (book [] []) = λ n l. absurd (omega arith) in
    answers_mean p (open_words w b) b x.sound cs ∙ ap (λ (z : Book). answers_to p z cs) x.empty
    ∙ alone p two (book [] []) (book [] []) a a refl (halves (λ r. half (book [] []) r ≡ []) refl refl (1 - p) (omega arith)) cs h
    ∙ sym (answers_mean p (open_words v c) c y.sound (calls_of p cs) ∙ ap (λ (z : Book). answers_to p z (calls_of p cs)) y.empty)
