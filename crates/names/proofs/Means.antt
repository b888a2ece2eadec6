-- A call on lent memory that is sound is the call on what the memory means.
use Rattle.std.proofs.Common.{None, Some}
use Prim.Native.Nat.{ℕ, zero, suc, ◌+◌, ◌-◌, ◌*◌, ◌≤◌, ◌<◌}
use native.Mathlib.Omega.{arith}
use native.Mathlib.Numerals.{add-one}
use borrow.Author.Tests.{lt-ltb, le-ltb, le-leb, lt-leb, ltb-true, ltb-false, leb-true, leb-false, eqb-true, eqb-false}
use mathlib.Core.Path.{◌≡◌, refl, sym, ap, ◌∙◌}
use mathlib.Core.Bool.{true, false}
use mathlib.Core.List.{List, [], ◌∷◌, ◌++◌}
use lib.Dec.{eqb, ltb, leb}
use lib.ListN.{length, get_or, drop, length-append, length-drop, get_or-append}
use lib.Seq.{get_or_at, length-take-le}
use Rattle.laws.specs.Texts.{same}
use Rattle.laws.proofs.Choice.{by_bool, if_yes, if_no, impossible}
use Rattle.laws.proofs.Compared.{same_is}
use Rattle.names.specs.Layout.{count, bound, used, name_at, bears, half_names, half_bytes, index_slots, table_words}
use Rattle.names.specs.Call.{lookup_of, find_of, probe_of, slot_of, tag_of, free_of, new_words, laid, Outcome, new_of, enter_of, looks}
use Rattle.names.specs.Book.{Name, half, place, size, number_in, added, Reply, new_in, ask, first_names, names_of, book_of}
use Rattle.names.proofs.Laws.{slot_small, bears_in, bears-same, bounds, halves}
use Rattle.names.proofs.Gives.{by_found, by_proposal, lookup_entry, lookup_full, find_in, find_none, scan_none, free_small, enter_there, enter_new, enter_party}
use Rattle.names.proofs.Parts.{same_refl, new_count, other_count}
use Rattle.names.proofs.Sound.{Sound, below_all, name_is, entry_old, entry_new, sound_after}

at_nothing : {k : ℕ} → Some k ≡ None → ⊥
at_nothing e = impossible cc

-- the place of a name in a list
pub place_here : (n : Name) (l : List Name) (k : ℕ) → k < length l → get_or l k [] ≡ n → ((j : ℕ) → j < k → get_or l j [] ≡ n → ⊥) → place n l ≡ k
unfolding place
place_here n [] k h e f = absurd (omega arith)
place_here n (x ∷ xs) zero h e f = let q : same x n ≡ true = ap (λ (z : Name). same z n) e ∙ same_refl n in sym (if_yes _ _ _ q refl)
place_here n (x ∷ xs) (suc k) h e f =
    by_bool (same x n)
    (λ t. absurd (f 0 (omega arith) (same_is x n t)))
    (λ t. sym (if_no _ _ _ t (sym (ap suc (place_here n xs k (omega arith) e (λ j g. f (suc j) (omega arith)))))))

pub place_absent : (n : Name) (l : List Name) → ((j : ℕ) → j < length l → get_or l j [] ≡ n → ⊥) → place n l ≡ length l
unfolding place
place_absent n [] f = refl
place_absent n (x ∷ xs) f =
    by_bool (same x n)
    (λ t. absurd (f 0 (omega arith) (same_is x n t)))
    (λ t. sym (if_no _ _ _ t (sym (ap suc (place_absent n xs (λ j g. f (suc j) (omega arith)))))))

pub place_name : (n : Name) (l : List Name) → place n l < length l → get_or l (place n l) [] ≡ n
unfolding place
place_name n [] h = absurd (omega arith)
place_name n (y ∷ ys) h =
    by_bool (same y n)
    (λ t. rw t (same_is y n t))
    (λ t. rw t (place_name n ys (let g = rw t at h in omega arith)))

-- the names of a half
module _ (w b : List ℕ) (p : ℕ) where
  pub length_first : (n : ℕ) → length (first_names w b p n) ≡ n
  unfolding first_names
  length_first zero = refl
  length_first (suc n) = rw (length-append (first_names w b p n) (name_at w b p n ∷ []), length_first n) (omega arith)

  pub first_at : (n k : ℕ) → k < n → get_or (first_names w b p n) k [] ≡ name_at w b p k
  unfolding first_names
  first_at zero k h = absurd (omega arith)
  first_at (suc n) k h =
      by_bool (eqb k n)
      (λ t. rw (eqb-true k n t) (get_or_at (first_names w b p n) (name_at w b p n) [] [] n (length_first n)))
      (λ t. let d = eqb-false k n t in
      let i : k < n = omega (arith, d) in
      get_or-append (first_names w b p n) (name_at w b p n ∷ []) [] k (rw (length_first n) i) ∙ first_at n k i)

  pub first_same : (v c : List ℕ) (n : ℕ) → ((k : ℕ) → k < n → name_at v c p k ≡ name_at w b p k) → first_names v c p n ≡ first_names w b p n
  unfolding first_names
  first_same v c zero f = refl
  first_same v c (suc n) f = rw (first_same v c n (λ k h. f k (omega arith)), f n (omega arith))

size_append : (l : List Name) (x : Name) → size (l ++ (x ∷ [])) ≡ size l + length x
unfolding size
size_append [] x = omega arith
size_append (y ∷ l) x = rw (size_append l x) (omega arith)

pub half_of : (w b : List ℕ) (p : ℕ) → p < 2 → half (book_of w b) p ≡ names_of w b p
half_of w b p h = halves (λ q. half (book_of w b) q ≡ names_of w b q) refl refl p h

module _ (w b : List ℕ) (t : Sound w b) where
  length_name : (p k : ℕ) → p < 2 → k < count w p → length (name_at w b p k) ≡ bound w p (k + 1) - bound w p k
  length_name p k h g =
      let r = t.rising p k h g in
      let a = below_all w b t p (k + 1) h (omega arith) in
      let l = (bounds w b t.inside).bytes in
      rw (
        name_is w b t p k h g,
        length-take-le ((p * half_bytes + bound w p (k + 1)) - (p * half_bytes + bound w p k)) (drop (p * half_bytes + bound w p k) b) (omega (arith, length-drop (p * half_bytes + bound w p k) b)),
      )
      (omega arith)

  first_size : (p n : ℕ) → p < 2 → n ≤ count w p → size (first_names w b p n) ≡ bound w p n
  unfolding first_names size
  first_size p zero h g = sym (t.first p h)
  first_size p (suc n) h g =
      rw (size_append (first_names w b p n) (name_at w b p n), first_size p n h (omega arith), length_name p n h (omega arith))
      (let e : suc n ≡ n + 1 = omega arith in omega (arith, t.rising p n h (omega arith), ap (λ (k : ℕ). bound w p k) e))

  pub names_size : (p : ℕ) → p < 2 → size (names_of w b p) ≡ used w p
  names_size p h = first_size p (count w p) h (omega arith)

  -- an entry that bears the name is the one that the book finds
  module _ (name : Name) where
    borne_name : (p k : ℕ) → bears w b p name k ≡ true → name_at w b p k ≡ name
    borne_name p k e = same_is (name_at w b p k) name (bears-same w b p name k refl (bears_in w b p name k e) ∙ e)

    not_borne : (p k : ℕ) → k < count w p → bears w b p name k ≡ false → name_at w b p k ≡ name → ⊥
    not_borne p k h e f =
        let g : same (name_at w b p k) name ≡ true = rw f (same_refl name) in
        let z : true ≡ false = sym g ∙ bears-same w b p name k refl h ∙ e in
        impossible cc

    place_borne : (p k : ℕ) → p < 2 → bears w b p name k ≡ true → place name (names_of w b p) ≡ k
    place_borne p k h e =
        let i = bears_in w b p name k e in
        place_here name (names_of w b p) k (rw (length_first w b p (count w p)) i) (first_at w b p (count w p) k i ∙ borne_name p k e)
        (λ j g f. let x = (t.single p j p k h h (omega arith) i (sym (first_at w b p (count w p) j (omega arith)) ∙ f ∙ sym (borne_name p k e))).1 in omega arith)

    -- a name of the other half is not in this one
    place_elsewhere : (p q k : ℕ) → p < 2 → q < 2 → (q ≡ p → ⊥) → bears w b p name k ≡ true → place name (names_of w b q) ≡ count w q
    place_elsewhere p q k h g d e =
        place_absent name (names_of w b q)
        (λ j l f. let m : j < count w q = rw (length_first w b q (count w q)) at l in
        d (t.single q j p k g h m (bears_in w b p name k e) (sym (first_at w b q (count w q) j m) ∙ f ∙ sym (borne_name p k e))).0)
        ∙ length_first w b q (count w q)

    found_at : (p k : ℕ) → p < 2 → bears w b p name k ≡ true → number_in (book_of w b) name ≡ Some (p * half_names + k)
    unfolding number_in
    found_at zero k h e =
        let i = bears_in w b 0 name k e in
        let a = place_borne 0 k h e in
        let x : 0 * half_names + k ≡ k = omega arith in
        sym (if_yes _ _ _ (lt-ltb (place name (names_of w b 0)) (length (names_of w b 0)) (omega (arith, length_first w b 0 (count w 0)))) (rw (a, x)))
    found_at (suc zero) k h e =
        let i = bears_in w b 1 name k e in
        let a = place_borne 1 k h e in
        let c = place_elsewhere 1 0 k h (omega arith) (λ z. omega arith) e in
        sym (if_no _ _ _ (le-ltb (place name (names_of w b 0)) (length (names_of w b 0)) (omega (arith, length_first w b 0 (count w 0))))
        (if_yes _ _ _ (lt-ltb (place name (names_of w b 1)) (length (names_of w b 1)) (omega (arith, length_first w b 1 (count w 1)))) (rw a)))
    found_at (suc (suc n)) k h e = absurd (omega arith)

    -- a half's index and its reading miss no name
    lookup_absent : (q k : ℕ) → q < 2 → k < count w q → lookup_of w b q name ≡ None → name_at w b q k ≡ name → ⊥
    lookup_absent q k g i e f =
        by_proposal (probe_of w b q name)
        (λ j x. at_nothing (lookup_entry w b q name j x ∙ e))
        (λ j x. t.indexed q k g i j (rw f x))
        (λ x. not_borne q k i (scan_none w b name q (count w q) 0 (lookup_full w b q name x refl ∙ e) k (omega arith) (omega arith)) f)

    pub absent_all : (p : ℕ) → p < 2 → find_of w b p name ≡ None → (q k : ℕ) → q < 2 → k < count w q → name_at w b q k ≡ name → ⊥
    absent_all p h e q k g i =
        let f = find_none w b name p e in
        by_bool (eqb q p)
        (λ x. lookup_absent q k g i (rw (eqb-true q p x) f.0))
        (λ x. let d = eqb-false q p x in let y : q ≡ 1 - p = omega (arith, d) in lookup_absent q k g i (rw y f.1))

    pub found_none : ((q k : ℕ) → q < 2 → k < count w q → name_at w b q k ≡ name → ⊥) → number_in (book_of w b) name ≡ None
    unfolding number_in
    found_none f =
        sym (if_no _ _ _ (le-ltb _ _ (none 0 (omega arith))) (if_no _ _ _ (le-ltb _ _ (none 1 (omega arith))) refl))
      where
        none : (p : ℕ) → p < 2 → length (names_of w b p) ≤ place name (names_of w b p)
        none p h = rw (place_absent name (names_of w b p) (λ j l e.
            let m : j < count w p = rw (length_first w b p (count w p)) at l in f p j h m (sym (first_at w b p (count w p) j m) ∙ e))) (omega arith)

    -- the number that is found is the number in the book
    pub found : (p : ℕ) → p < 2 → number_in (book_of w b) name ≡ find_of w b p name
    found p h =
        by_found (find_of w b p name)
        (λ n e. let r = find_in w b name p h e in found_at r.party r.place r.there r.borne ∙ ap Some (sym r.number) ∙ sym e)
        (λ e. found_none (absent_all p h e) ∙ sym e)

-- no name is in both halves
pub names_apart : (w b : List ℕ) → Sound w b → (n : Name) → place n (names_of w b 0) < length (names_of w b 0) → place n (names_of w b 1) ≡ length (names_of w b 1)
names_apart w b t n h =
    let l = length_first w b 0 (count w 0) in
    let k = place n (names_of w b 0) in
    let i : k < count w 0 = omega arith in
    place_absent n (names_of w b 1)
    (λ j g e. let m : j < count w 1 = rw (length_first w b 1 (count w 1)) at g in
    let x = (t.single 0 k 1 j (omega arith) (omega arith) i m
    (sym (first_at w b 0 (count w 0) k i) ∙ place_name n (names_of w b 0) h ∙ sym e ∙ first_at w b 1 (count w 1) j m)).0 in
    omega arith)

-- one name more, in the book
book_added : (w b v c : List ℕ) (p : ℕ) (n : Name) → p < 2 → names_of v c p ≡ names_of w b p ++ (n ∷ []) → ((q : ℕ) → q < 2 → (q ≡ p → ⊥) → names_of v c q ≡ names_of w b q)
    → book_of v c ≡ added (book_of w b) p n
book_added w b v c zero n h e f = rw (e, f 1 (omega arith) (λ z. omega arith))
book_added w b v c (suc zero) n h e f = rw (e, f 0 (omega arith) (λ z. omega arith))
book_added w b v c (suc (suc m)) n h e f = absurd (omega arith)

-- a call means the call in the book, and leaves memory that is sound
pub record Meant (w b : List ℕ) (o : Outcome) (r : Reply) : Type 0 where
  pub answers : o.answer ≡ r.answer
  pub means : book_of o.words o.bytes ≡ r.after
  pub sound : Sound o.words o.bytes

module _ (w b : List ℕ) (t : Sound w b) (p : ℕ) (two : p < 2) (name : Name) (nothing : find_of w b p name ≡ None) where
  abbrev s : ℕ
  s = free_of (probe_of w b p name)

  small : s < index_slots + 1
  small = free_small w b name p looks (slot_of name) (slot_small name)

  absent : (q k : ℕ) → q < 2 → k < count w q → name_at w b q k ≡ name → ⊥
  absent = absent_all w b t name p two nothing

  length-half : length (half (book_of w b) p) ≡ count w p
  length-half = rw (half_of w b p two) (length_first w b p (count w p))

  size-half : size (half (book_of w b) p) ≡ used w p
  size-half = rw (half_of w b p two) (names_size w b t p two)

  module _ (few : count w p < half_names) (fits : used w p + length name ≤ half_bytes) where
    abbrev v : List ℕ
    v = new_words w p s (tag_of name) (length name)

    abbrev c : List ℕ
    c = laid (p * half_bytes + used w p) name b

    room : table_words ≤ length w
    room = (bounds w b t.inside).words

    names_own : names_of v c p ≡ names_of w b p ++ (name ∷ [])
    unfolding first_names
    names_own =
        rw (
          new_count w p s (tag_of name) (length name) room two few,
          add-one (count w p),
          entry_new w b name p s t two few fits small refl absent,
          first_same w b p v c (count w p) (λ k h. entry_old w b name p s t two few fits small refl absent p k two h),
        )

    names_other : (q : ℕ) → q < 2 → (q ≡ p → ⊥) → names_of v c q ≡ names_of w b q
    names_other q h d =
        rw (other_count w p s (tag_of name) (length name) room two few q h d small)
        (first_same w b q v c (count w q) (λ k g. entry_old w b name p s t two few fits small refl absent q k h g))

    meant_put : Meant w b (new_of w b p name) (new_in (book_of w b) p name)
    unfolding new_of new_in
    meant_put =
        rw (lt-ltb (count w p) half_names few, le-leb (used w p + length name) half_bytes fits, length-half, size-half)
        (rw (lt-ltb (count w p) half_names few, le-leb (used w p + length name) half_bytes fits)
        (record {
          answers = refl;
          means = book_added w b v c p name two names_own names_other;
          sound = sound_after w b name p s t two few fits small refl absent;
        }))

  meant_long : count w p < half_names → half_bytes < used w p + length name → Meant w b (new_of w b p name) (new_in (book_of w b) p name)
  unfolding new_of new_in
  meant_long h g =
      rw (lt-ltb (count w p) half_names h, lt-leb (used w p + length name) half_bytes g, length-half, size-half)
      (rw (lt-ltb (count w p) half_names h, lt-leb (used w p + length name) half_bytes g) (record { answers = refl; means = refl; sound = t }))

  meant_full : half_names ≤ count w p → Meant w b (new_of w b p name) (new_in (book_of w b) p name)
  unfolding new_of new_in
  meant_full h =
      rw (le-ltb (count w p) half_names h, length-half)
      (rw (le-ltb (count w p) half_names h) (record { answers = refl; means = refl; sound = t }))

  meant_new : Meant w b (new_of w b p name) (new_in (book_of w b) p name)
  meant_new =
      by_bool (ltb (count w p) half_names)
      (λ x. by_bool (leb (used w p + length name) half_bytes)
      (λ y. meant_put (ltb-true (count w p) half_names x) (leb-true (used w p + length name) half_bytes y))
      (λ y. meant_long (ltb-true (count w p) half_names x) (leb-false (used w p + length name) half_bytes y)))
      (λ x. meant_full (ltb-false (count w p) half_names x))

pub meant : (w b : List ℕ) → Sound w b → (p : ℕ) (name : Name) → Meant w b (enter_of w b p name) (ask (book_of w b) p name)
unfolding ask
meant w b t p name =
    by_bool (ltb p 2)
    (λ x. let two = ltb-true p 2 x in
    by_found (find_of w b p name)
    (λ n e. rw (← enter_there w b p name t.inside two e, x) (rw (found w b t name p two ∙ e) (record { answers = refl; means = refl; sound = t })))
    (λ e. rw (← enter_new w b p name t.inside two e refl, x) (rw (found w b t name p two ∙ e) (meant_new w b t p two name e))))
    (λ x. rw (← enter_party w b p name t.inside (ltb-false p 2 x), x) (record { answers = refl; means = refl; sound = t }))
