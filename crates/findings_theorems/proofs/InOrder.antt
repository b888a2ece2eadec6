-- `in_order`: findings come in the order of their places. What a row tells starts in the row's extent, and no row starts before the end of the
-- one before it, but for the second name of `+foo`, of which the first tells nothing.
use Rattle.std.proofs.Common.{None, Option, Some}
use Prim.Native.Nat.{ℕ, zero, suc, ◌+◌, ◌-◌, ◌≤◌, ◌<◌}
use mathlib.Core.Path.{◌≡◌, refl, sym, ap, ◌∙◌, subst}
use mathlib.Core.Bool.{Bool, true, false, not, ◌&&◌}
use mathlib.Core.List.{List, [], ◌∷◌, ◌++◌}
use mathlib.Core.Logic.{◌⊎◌, inl, inr, ⊎_elim}
use lib.ListN.{length, get_or, drop, length-take}
use lib.Dec.{eqb, leb, ltb}
use native.Mathlib.Omega.{arith}
use native.Mathlib.Numerals.{add-one}
use borrow.Author.Tests.{eqb-true, eq-eqb}
use Rattle.laws.specs.Quoted.{code, within}
use Rattle.laws.proofs.Choice.{by_bool, if_all, if_is}
use Rattle.chars.specs.Utf8.{Sequence, read, broken, short, Front, char, bad, cut, none, front, onward, sequences, first_bad}
use Rattle.refusal.specs.Refusals as refusal
use Rattle.items.specs.Kinds as kind
use Rattle.items.specs.Items.{Item, depth_after}
use Rattle.items.specs.Whole.{limit}
use Rattle.items.proofs.Every.{Every}
use Rattle.nested.specs.Items.{count_of}
use Rattle.nested.specs.Lent.{nested_of, Nested, Built, Refused}
use Rattle.findings_rows.specs.Mended.{mended_of}
use Rattle.findings_rows.specs.Rows.{row_of, rows_from}
use Rattle.findings.specs.Finding.{warning, single, listed}
use Rattle.findings.specs.Rows.{byte_at, part, row_at, last_row, depth_at, first_from}
use Rattle.findings.specs.Lists.{wrong_close, misplaced_dot, mark_waits, bracket_open, is_misfit, refused_list, nested_told, list_of}
use Rattle.findings.specs.Slips.{is_name, odd_code, first_odd, odd_in, like_number, comma_follows, number_slip, or_else, name_told, swallower, ends_otherwise}
use Rattle.findings.specs.Told.{left_over, error_told, swallow_told, text_told, number_told, name_or_nothing, row_told, list_told, told_at, told_from, told_of}
use Rattle.findings.specs.Find.{told_if, find_of}
use Rattle.findings.specs.declared.Finding.{Finding}
use Rattle.findings.specs.declared.Row.{Row}
use Rattle.findings.specs.declared.ListTold.{ListTold}
use Rattle.findings_theorems.proofs.Words as words
use Rattle.findings_theorems.proofs.Words.{Stands, stands, row_fine}
use Rattle.findings_theorems.proofs.Clean.{laid_words, count_is, row_is, word_is, kind_is, error_is}
use Rattle.findings_theorems.proofs.Order.{Next, Chained, rows_in_order}
use Rattle.findings_theorems.proofs.Placed.{Placed, mended_placed}

-- ---- findings in order, none before a place

abbrev pub Sorted : ℕ → List Finding → Type 0
Sorted lo [] = Unit {0}
Sorted lo (f ∷ fs) = (lo ≤ f.start) × Sorted f.start fs

sorted_lower : (a b : ℕ) (fs : List Finding) → a ≤ b → Sorted b fs → Sorted a fs
sorted_lower a b [] h s = tt
sorted_lower a b (f ∷ fs) h s = (omega (arith, s.0), s.1)

sorted_append : (lo m : ℕ) (fs gs : List Finding) → lo ≤ m → Sorted lo fs → Every (λ (f : Finding). f.start ≤ m) fs → Sorted m gs → Sorted lo (fs ++ gs)
sorted_append lo m [] gs h s e t = sorted_lower lo m gs h t
sorted_append lo m (f ∷ fs) gs h s e t = (s.0, sorted_append f.start m fs gs e.0 s.1 e.1 t)

-- a finding, if there is one, that starts from a place to a place
abbrev Between : ℕ → ℕ → Option Finding → Type 0
Between lo hi None = Unit {0}
Between lo hi (Some f) = (lo ≤ f.start) × (f.start ≤ hi)

two_sorted : (lo hi : ℕ) (t u : Option Finding) → Between lo lo t → Between lo hi u → Sorted lo (listed t ++ listed u)
two_sorted lo hi None None h k = tt
two_sorted lo hi None (Some g) h k = (k.0, tt)
two_sorted lo hi (Some f) None h k = (h.0, tt)
two_sorted lo hi (Some f) (Some g) h k = (h.0, (omega (arith, h.1, k.0), tt))

two_within : (lo hi : ℕ) (t u : Option Finding) → lo ≤ hi → Between lo lo t → Between lo hi u → Every (λ (f : Finding). f.start ≤ hi) (listed t ++ listed u)
two_within lo hi None None l h k = tt
two_within lo hi None (Some g) l h k = (k.1, tt)
two_within lo hi (Some f) None l h k = (omega (arith, h.1), tt)
two_within lo hi (Some f) (Some g) l h k = (omega (arith, h.1), (k.1, tt))

-- ---- odd characters

abbrev ReadIn : ℕ → ℕ → Sequence → Type 0
ReadIn lo hi (read c f t) = (lo ≤ f) × (f ≤ hi)
ReadIn lo hi (broken f t) = Unit {0}
ReadIn lo hi (short f) = Unit {0}

onward_in : (at lo hi : ℕ) (f : Front) (more : ℕ → List Sequence) → lo ≤ at → at ≤ hi → ((k : ℕ) → Every (ReadIn lo hi) (more k)) → Every (ReadIn lo hi) (onward at f more)
onward_in at lo hi (char c n) more l h r = ((l, h), r (n - 1))
onward_in at lo hi (bad n) more l h r = (tt, tt)
onward_in at lo hi cut more l h r = (tt, tt)
onward_in at lo hi none more l h r = tt

sequences_in : (s : List ℕ) (k at lo hi : ℕ) → lo ≤ at → at + length s ≤ hi → Every (ReadIn lo hi) (sequences k at s)
unfolding sequences
sequences_in [] k at lo hi l h = tt
sequences_in (b ∷ s) (suc k) at lo hi l h = sequences_in s k (at + 1) lo hi (omega arith) (omega arith)
sequences_in (b ∷ s) zero at lo hi l h =
    onward_in at lo hi (front (b ∷ s)) (λ k. sequences k (at + 1) s) l (omega arith) (λ k. sequences_in s k (at + 1) lo hi (omega arith) (omega arith))

odd_between : (lo hi : ℕ) (l : List Sequence) → Every (ReadIn lo hi) l → Between lo hi (first_odd l)
unfolding first_odd
odd_between lo hi [] h = tt
odd_between lo hi (read c f t ∷ l) h = if_all (Between lo hi) (eqb (odd_code c) 0) (odd_between lo hi l h.1) h.0
odd_between lo hi (broken f t ∷ l) h = tt
odd_between lo hi (short f ∷ l) h = tt

else_between : (lo hi : ℕ) (t u : Option Finding) → Between lo hi t → Between lo hi u → Between lo hi (or_else t u)
else_between lo hi None u h k = k
else_between lo hi (Some f) u h k = h

-- ---- what a row tells, from its start to its end

module _ (source rows : List ℕ) (p : ℕ) where
  abbrev r : Row
  r = row_at rows p

  name_between : r.start ≤ r.end → Between r.start r.end (name_told source rows p)
  unfolding name_told number_slip
  name_between h =
      let B : Option Finding → Type 0 = Between r.start r.end in
      let here : B (Some (single warning 1 0 r.start 0)) = (omega arith, h) in
      else_between r.start r.end (odd_in source r.start r.end) (number_slip source rows p)
      (odd_between r.start r.end _
      (sequences_in (part source r.start r.end) 0 r.start r.start r.end (omega arith)
      (omega (arith, h, length-take (r.end - r.start) (drop r.start source)))))
      (if_all B (like_number source r.start) (if_all B (comma_follows source rows p) here here) tt)

  -- an error's place starts in its extent
  abbrev Whole : Type 0
  Whole = (r.start ≤ r.end) × (r.start ≤ r.from) × (r.from ≤ r.end)

  module _ (first : ℕ) (left : Bool) where
    abbrev B : Option Finding → Type 0
    B = Between r.start r.end

    text_between : {hi : ℕ} → r.start ≤ hi → Between r.start hi (text_told rows first left p)
    unfolding text_told swallow_told
    text_between {hi} h = let C : Option Finding → Type 0 = Between r.start hi in if_all C (eqb p first) (if_all C left (omega arith, h) (omega arith, h)) tt

    number_between : {hi : ℕ} → r.start ≤ hi → Between r.start hi (number_told source rows p)
    unfolding number_told
    number_between {hi} h = let C : Option Finding → Type 0 = Between r.start hi in if_all C (ends_otherwise source rows p) (omega arith, h) tt

    row_between : Whole → B (row_told source rows first left p)
    unfolding row_told error_told name_or_nothing
    row_between w =
        if_all B (ltb 0 r.error) (if_all B (left && eqb (p + 1) (count_of rows)) tt (w.1, w.2))
        (if_all B (eqb r.kind kind.Identifier) (if_all B (is_name source rows p) (name_between w.0) tt)
        (if_all B (eqb r.kind kind.StringLiteral) (text_between w.0)
        (if_all B (eqb r.kind kind.Number) (number_between w.0) tt)))

    -- the first of two names with one extent tells nothing
    unnamed : (row_at rows (p + 1)).kind ≡ kind.Identifier → (row_at rows (p + 1)).start ≡ r.start → is_name source rows p ≡ false
    unfolding is_name
    unnamed k e = rw (k, eq-eqb (row_at rows (p + 1)).start r.start e) (last (eqb r.kind kind.Identifier) (eqb r.error 0) (eqb (byte_at source r.start) (code "|")))
      where
        last : (a b c : Bool) → (a && b && not c && false) ≡ false
        last true true true = refl
        last true true false = refl
        last true false c = refl
        last false b c = refl

    pair_between : r.error ≡ 0 → (row_at rows (p + 1)).kind ≡ kind.Identifier → (row_at rows (p + 1)).start ≡ r.start
        → Between r.start r.start (row_told source rows first left p)
    unfolding row_told name_or_nothing
    pair_between e k h =
        let C : Option Finding → Type 0 = Between r.start r.start in
        rw (e, unnamed k h)
        (if_all C (eqb r.kind kind.Identifier) tt
        (if_all C (eqb r.kind kind.StringLiteral) (text_between (omega arith))
        (if_all C (eqb r.kind kind.Number) (number_between (omega arith)) tt)))

weaken : (lo a b : ℕ) (t : Option Finding) → a ≤ b → Between lo a t → Between lo b t
weaken lo a b None h k = tt
weaken lo a b (Some f) h k = (k.0, omega (arith, k.1))

-- ---- the finding about lists starts where its row does

abbrev Starts : List ℕ → Option ListTold → Type 0
Starts rows None = Unit {0}
Starts rows (Some t) = t.finding.start ≡ (row_at rows t.row).start

refused_starts : (source rows : List ℕ) (n p : ℕ) → Starts rows (refused_list source rows n p)
unfolding refused_list bracket_open wrong_close misplaced_dot mark_waits
refused_starts source rows n p =
    let S : Option ListTold → Type 0 = Starts rows in
    if_all S (eqb n refusal.bracket_open) (if_all S (within kind.IncompleteString kind.IncompleteComment (last_row rows).error) tt
    (if_all S (ltb (first_from (is_misfit source rows) (count_of rows) 0) (count_of rows)) refl refl))
    (if_all S (eqb n refusal.wrong_close) (if_all S (eqb (depth_at rows p) 0) refl refl)
    (if_all S (eqb n refusal.misplaced_dot) (if_all S (eqb (row_at rows p).kind kind.Dot) refl refl)
    (if_all S (eqb n refusal.mark_waits) refl (if_all S (eqb n refusal.too_deep) refl tt))))

list_starts : (source rows : List ℕ) → Starts rows (list_of source rows)
unfolding list_of
list_starts source rows = go (nested_of rows []).answer
  where
    go : (a : Nested) → Starts rows (nested_told source rows a)
    go (Built n) = tt
    go (Refused n p) = refused_starts source rows n p

list_between : (rows : List ℕ) (t : Option ListTold) → Starts rows t → (p : ℕ) → Between (row_at rows p).start (row_at rows p).start (list_told t p)
list_between rows None h p = tt
list_between rows (Some t) h p = if_is (Between (row_at rows p).start (row_at rows p).start) (eqb t.row p)
    (λ b. let e : t.finding.start ≡ (row_at rows p).start = h ∙ ap (λ (k : ℕ). (row_at rows k).start) (eqb-true t.row p b) in (omega arith, omega arith))
    (λ b. tt)

-- ---- the rows of the mended reading

pub row_start : (d : ℕ) (i : Item) → get_or (row_of d i) 2 0 ≡ i.start
row_start d i = by_bool (leb kind.first_error i.kind) (λ b. rw b) (λ b. rw b)

pub row_end : (d : ℕ) (i : Item) → get_or (row_of d i) 3 0 ≡ i.end
row_end d i = by_bool (leb kind.first_error i.kind) (λ b. rw b) (λ b. rw b)

pub row_from : (d : ℕ) (i : Item) → get_or (row_of d i) 4 0 ≡ i.place.from
row_from d i = by_bool (leb kind.first_error i.kind) (λ b. rw b) (λ b. rw b)

abbrev ListNext : List ℕ → List ℕ → Type 0
ListNext w v = (get_or w 3 0 ≤ get_or v 2 0) ⊎ ((get_or v 2 0 ≡ get_or w 2 0) × (get_or v 0 0 ≡ kind.Identifier) × (get_or w 6 0 ≡ 0))

module _ (s : List ℕ) where
  list_next : (d e : ℕ) (i j : Item) → Next s i j → ListNext (row_of d i) (row_of e j)
  list_next d e i j n = ⊎_elim
      (λ a. inl (omega (arith, a, row_end d i, row_start e j)))
      (λ a. inr (
        row_start e j ∙ a.0 ∙ sym (row_start d i),
        ap (λ (l : List ℕ). get_or l 0 0) (row_fine e j (omega (arith, a.1))) ∙ a.1,
        ap (λ (l : List ℕ). get_or l 6 0) (row_fine d i (omega (arith, a.2))),
      ))
      n

  chain_rows : (d : ℕ) (is : List Item) (P : Item → Type 0) → Chained s P is → (p : ℕ) → suc p < length is
      → ListNext (words.row_at (rows_from d is) p) (words.row_at (rows_from d is) (suc p))
  unfolding rows_from
  chain_rows d [] P h p l = absurd (omega arith)
  chain_rows d (i ∷ []) P h p l = absurd (omega arith)
  chain_rows d (i ∷ (j ∷ is)) P h zero l = list_next d (depth_after i.kind d) i j h.1.0
  chain_rows d (i ∷ (j ∷ is)) P h (suc p) l = chain_rows (depth_after i.kind d) (j ∷ is) (Next s i) h.1 p (omega arith)

  -- ---- all of them

  abbrev pub is : List Item
  is = mended_of s

  abbrev pub rows : List ℕ
  rows = laid_words is

  abbrev start_at : ℕ → ℕ
  start_at p = (row_at rows p).start

  module _ (p : ℕ) (h : p < length is) where
    abbrev pub w : List ℕ
    w = words.row_at (rows_from 0 is) p

    pub start_is : (row_at rows p).start ≡ get_or w 2 0
    start_is = ap (λ (r : Row). r.start) (row_is is p h) ∙ word_is is p 2 h (omega arith)

    pub end_is : (row_at rows p).end ≡ get_or w 3 0
    end_is = ap (λ (r : Row). r.end) (row_is is p h) ∙ word_is is p 3 h (omega arith)

    pub from_is : (row_at rows p).from ≡ get_or w 4 0
    from_is = ap (λ (r : Row). r.from) (row_is is p h) ∙ word_is is p 4 h (omega arith)

    whole : Whole s rows p
    whole =
        let t : Stands is w = stands 0 is p h in
        let k : Placed s t.item = t.among (Placed s) (mended_placed s) in
        let a : get_or w 2 0 ≡ t.item.start = ap (λ (l : List ℕ). get_or l 2 0) t.words ∙ row_start t.depth t.item in
        let b : get_or w 3 0 ≡ t.item.end = ap (λ (l : List ℕ). get_or l 3 0) t.words ∙ row_end t.depth t.item in
        let c : get_or w 4 0 ≡ t.item.place.from = ap (λ (l : List ℕ). get_or l 4 0) t.words ∙ row_from t.depth t.item in
        (omega (arith, k.some, start_is, end_is), omega (arith, k.from, start_is, from_is), omega (arith, k.to, end_is, from_is))

  abbrev pub tells : ℕ → List Finding
  tells = told_at s rows (list_of s rows) (swallower s rows) (left_over s rows)

  abbrev own : ℕ → Option Finding
  own p = row_told s rows (swallower s rows) (left_over s rows) p

  -- what a row tells starts no later than the next row
  own_next : (p : ℕ) → p + 1 < length is → (start_at p ≤ start_at (p + 1)) × Between (start_at p) (start_at (p + 1)) (own p)
  own_next p h =
      let l : p < length is = omega arith in
      let m : Whole s rows p = whole p l in
      let n : ListNext (w p l) (words.row_at (rows_from 0 is) (p + 1)) =
      subst (λ (k : ℕ). ListNext (w p l) (words.row_at (rows_from 0 is) k)) (sym (add-one p)) (chain_rows 0 is (λ i. 0 ≤ i.start) (rows_in_order s) p (omega arith)) in
      ⊎_elim
      (λ a. let e : (row_at rows p).end ≤ start_at (p + 1) = omega (arith, a, end_is p l, start_is (p + 1) h) in
      (omega (arith, e, m.0), weaken (start_at p) (row_at rows p).end (start_at (p + 1)) (own p) e (row_between s rows p (swallower s rows) (left_over s rows) m)))
      (λ a. let e : start_at (p + 1) ≡ start_at p = start_is (p + 1) h ∙ a.0 ∙ sym (start_is p l) in (
        omega arith,
        subst (λ (k : ℕ). Between (start_at p) k (own p)) (sym e)
            (pair_between s rows p (swallower s rows) (left_over s rows) (error_is is p l ∙ a.2) (kind_is is (p + 1) h ∙ a.1) e),
      ))
      n

  told_sorted : (n p : ℕ) → p + n ≡ length is → Sorted (start_at p) (told_from tells n p)
  unfolding told_from
  told_sorted zero p e = tt
  told_sorted (suc zero) p e =
      let m : Whole s rows p = whole p (omega arith) in
      let t = list_between rows (list_of s rows) (list_starts s rows) p in
      let u = row_between s rows p (swallower s rows) (left_over s rows) m in
      sorted_append (start_at p) (row_at rows p).end (tells p) [] m.0
      (two_sorted (start_at p) (row_at rows p).end (list_told (list_of s rows) p) (own p) t u)
      (two_within (start_at p) (row_at rows p).end (list_told (list_of s rows) p) (own p) m.0 t u) tt
  told_sorted (suc (suc n)) p e =
      let u = own_next p (omega arith) in
      let t = list_between rows (list_of s rows) (list_starts s rows) p in
      sorted_append (start_at p) (start_at (p + 1)) (tells p) (told_from tells (suc n) (p + 1)) u.0
      (two_sorted (start_at p) (start_at (p + 1)) (list_told (list_of s rows) p) (own p) t u.1)
      (two_within (start_at p) (start_at (p + 1)) (list_told (list_of s rows) p) (own p) u.0 t u.1)
      (told_sorted (suc n) (p + 1) (omega arith))

  rows_sorted : Sorted 0 (told_of s rows)
  unfolding told_of
  rows_sorted = sorted_lower 0 (start_at 0) (told_from tells (count_of rows) 0) (omega arith) (told_sorted (count_of rows) 0 (omega (arith, count_is is)))

  find_sorted : (u : Option ℕ) → Sorted 0 (told_if u s)
  find_sorted None = rows_sorted
  find_sorted (Some b) = (omega arith, tt)

  -- findings come in the order of their places' starts
  pub in_order : Sorted 0 (find_of s)
  unfolding find_of
  in_order = if_all (Sorted 0) (ltb limit (length s)) (omega arith, tt) (find_sorted (first_bad s))
