-- A plan has no finding of severity error exactly if report mode has no error item and its records form data. An error row tells an error, or
-- the text that swallowed lines does in its stead; a refusal of nested lists is told at a row; all else that rows tell are warnings.
use Prim.Native.Nat.{ℕ, zero, suc, ◌+◌, ◌-◌, ◌*◌, ◌≤◌, ◌<◌}
use mathlib.Core.Path.{◌≡◌, refl, sym, ap, ◌∙◌}
use mathlib.Core.Bool.{Bool, true, false}
use mathlib.Core.List.{List, [], ◌∷◌, ◌++◌}
use mathlib.Core.Logic.{⊎_elim}
use lib.ListN.{length, get_or}
use lib.Dec.{eqb, leb, ltb}
use native.Mathlib.Omega.{arith}
use borrow.Author.Tests.{eqb-true, eqb-false, eq-eqb, ltb-true, lt-ltb, leb-true, leb-false}
use Rattle.std.specs.Prelude.{None, Option, Some}
use Rattle.laws.specs.Quoted.{within}
use Rattle.laws.proofs.Choice.{by_bool, if_all, if_is}
use Rattle.chars.specs.Utf8.{Sequence, read, broken, short}
use Rattle.refusal.specs.Refusals as refusal
use Rattle.items.specs.Kinds as kind
use Rattle.items.specs.Items.{Item, record_words}
use Rattle.items.proofs.Every.{Every}
use Rattle.nested.specs.Items.{count_of}
use Rattle.findings_rows.specs.Laid.{flat}
use Rattle.findings_rows.specs.Rows.{row_of, rows_from}
use Rattle.findings_rows.proofs.Lays.{rows_count}
use Rattle.findings.specs.Finding.{warning, error, single, listed, swallowing, modes_differ, comma_number, number_name}
use Rattle.findings.specs.Rows.{row_at, whole_row, no_row, last_row, depth_at, last_before, first_from}
use Rattle.findings.specs.Lists.{wrong_close, misplaced_dot, mark_waits, is_misfit, bracket_open, refused_list, is_dot, waits}
use Rattle.findings.specs.Slips.{is_name, odd_code, first_odd, odd_in, like_number, comma_follows, number_slip, or_else, name_told, ends_otherwise}
use Rattle.findings.specs.Told.{error_of, swallow_told, text_told, number_told, name_or_nothing, row_told, told_from, errors_in}
use Rattle.findings.specs.declared.Finding.{Finding}
use Rattle.findings.specs.declared.Row.{Row}
use Rattle.findings.specs.declared.ListTold.{ListTold}
use Rattle.findings_theorems.proofs.Unmended.{Fine}
use Rattle.findings_theorems.proofs.Layouts.{LaidItem}
use Rattle.findings_theorems.proofs.Words as words
use Rattle.findings_theorems.proofs.Words.{word_of, word_at, flat-length, rows_ten, Stands, stands, every_row, row_fine, row_wrong}
use Rattle.findings_theorems.proofs.Numbers.{Stop, AtEnd}

-- ---- how many errors there are

pub errors_append : (xs ys : List Finding) → errors_in (xs ++ ys) ≡ errors_in xs + errors_in ys
unfolding errors_in
errors_append [] ys = omega arith
errors_append (f ∷ xs) ys = by_bool (eqb f.severity error)
    (λ b. rw (b, errors_in) (omega (arith, errors_append xs ys)))
    (λ b. rw (b, errors_in) (errors_append xs ys))

module _ (f : ℕ → List Finding) where
  pub quiet_each : (n p : ℕ) → errors_in (told_from f n p) ≡ 0 → (q : ℕ) → p ≤ q → q < p + n → errors_in (f q) ≡ 0
  unfolding told_from
  quiet_each zero p h q l m = absurd (omega arith)
  quiet_each (suc n) p h q l m =
      let e : errors_in (f p ++ told_from f n (p + 1)) ≡ errors_in (f p) + errors_in (told_from f n (p + 1)) = errors_append (f p) (told_from f n (p + 1)) in
      by_bool (eqb p q)
      (λ b. let z : p ≡ q = eqb-true p q b in ap (λ (k : ℕ). errors_in (f k)) (sym z) ∙ omega arith)
      (λ b. let z = eqb-false p q b in quiet_each n (p + 1) (omega arith) q (lower q l z) (omega arith))
    where
      lower : (q : ℕ) → p ≤ q → (p ≡ q → ⊥) → p + 1 ≤ q
      lower q l z = by_bool (leb (p + 1) q) (λ b. leb-true (p + 1) q b) (λ b. absurd (z (omega (arith, leb-false (p + 1) q b))))

  pub quiet_all : (n p : ℕ) → ((q : ℕ) → p ≤ q → q < p + n → errors_in (f q) ≡ 0) → errors_in (told_from f n p) ≡ 0
  unfolding told_from errors_in
  quiet_all zero p h = refl
  quiet_all (suc n) p h =
      errors_append (f p) (told_from f n (p + 1))
      ∙ omega (arith, h p (omega arith) (omega arith), quiet_all n (p + 1) (λ q l m. h q (omega arith) (omega arith)))

-- told without an error
abbrev pub Mild : Option Finding → Type 0
Mild t = errors_in (listed t) ≡ 0

pub loud : (f : Finding) → f.severity ≡ error → errors_in (listed (Some f)) ≡ 0 → ⊥
unfolding errors_in
loud f e h = let z : ◌≡◌ {A = ℕ} 1 0 = rw (eq-eqb f.severity error e) at h in omega arith

pub error_loud : (r : Row) → Mild (error_of r) → ⊥
unfolding errors_in
error_loud r h = let z : ◌≡◌ {A = ℕ} 1 0 = h in omega arith

pub mild_nothing : Mild None
unfolding errors_in
mild_nothing = refl

mild_warning : (n d a b : ℕ) → Mild (Some (single warning n d a b))
unfolding errors_in
mild_warning n d a b = refl

-- ---- warnings

mild_odd : (l : List Sequence) → Mild (first_odd l)
unfolding first_odd
mild_odd [] = mild_nothing
mild_odd (read c f t ∷ l) = if_all Mild (eqb (odd_code c) 0) (mild_odd l) (mild_warning (odd_code c) c f t)
mild_odd (broken f t ∷ l) = mild_nothing
mild_odd (short f ∷ l) = mild_nothing

mild_number : (source rows : List ℕ) (p : ℕ) → Mild (number_slip source rows p)
unfolding number_slip
mild_number source rows p =
    if_all Mild (like_number source (row_at rows p).start)
    (if_all Mild (comma_follows source rows p) (mild_warning comma_number _ _ _) (mild_warning number_name _ _ _)) mild_nothing

mild_else : (t u : Option Finding) → Mild t → Mild u → Mild (or_else t u)
mild_else None u h k = k
mild_else (Some f) u h k = h

mild_name : (source rows : List ℕ) (p : ℕ) → Mild (name_or_nothing source rows p)
unfolding name_or_nothing name_told
mild_name source rows p =
    if_all Mild (is_name source rows p)
    (mild_else (odd_in source (row_at rows p).start (row_at rows p).end) (number_slip source rows p) (mild_odd _) (mild_number source rows p))
    mild_nothing

mild_text : (rows : List ℕ) (first p : ℕ) → Mild (text_told rows first false p)
unfolding text_told swallow_told
mild_text rows first p = if_all Mild (eqb p first) (mild_warning swallowing _ _ _) mild_nothing

mild_ends : (source rows : List ℕ) (p : ℕ) → Mild (number_told source rows p)
unfolding number_told
mild_ends source rows p = if_all Mild (ends_otherwise source rows p) (mild_warning modes_differ _ _ _) mild_nothing

-- a row without an error, where no quote is left over
pub mild_row : (source rows : List ℕ) (first p : ℕ) → (row_at rows p).error ≡ 0 → Mild (row_told source rows first false p)
unfolding row_told
mild_row source rows first p h =
    rw h
    (if_all Mild (eqb (row_at rows p).kind kind.Identifier) (mild_name source rows p)
    (if_all Mild (eqb (row_at rows p).kind kind.StringLiteral) (mild_text rows first p)
    (if_all Mild (eqb (row_at rows p).kind kind.Number) (mild_ends source rows p) mild_nothing)))

-- ---- the rows of items

module _ (is : List Item) where
  abbrev pub laid_words : List ℕ
  laid_words = flat (rows_from 0 is)

  pub count_is : count_of laid_words ≡ length is
  count_is = omega (arith, flat-length (rows_from 0 is) (rows_ten 0 is), rows_count 0 is)

  pub row_is : (p : ℕ) → p < length is → row_at laid_words p ≡ whole_row laid_words p
  unfolding row_at
  row_is p h = rw (lt-ltb p (count_of laid_words) (omega (arith, count_is)))

  pub word_is : (p k : ℕ) → p < length is → k < record_words → word_of laid_words p k ≡ get_or (words.row_at (rows_from 0 is) p) k 0
  word_is p k h l = word_at (rows_from 0 is) (rows_ten 0 is) p k (omega (arith, rows_count 0 is)) l

  pub error_is : (p : ℕ) (h : p < length is) → (row_at laid_words p).error ≡ get_or (words.row_at (rows_from 0 is) p) 6 0
  error_is p h = ap (λ (r : Row). r.error) (row_is p h) ∙ word_is p 6 h (omega arith)

  pub kind_is : (p : ℕ) (h : p < length is) → (row_at laid_words p).kind ≡ get_or (words.row_at (rows_from 0 is) p) 0 0
  kind_is p h =
      let place : p * record_words ≡ p * record_words + 0 = omega arith in
      ap (λ (r : Row). r.kind) (row_is p h) ∙ ap (λ (n : ℕ). get_or laid_words n 0) place ∙ word_is p 0 h (omega arith)

  -- no item is an error: no row is
  pub no_error_rows : Every Fine is → (p : ℕ) → p < length is → (row_at laid_words p).error ≡ 0
  no_error_rows fine p h =
      let t : Stands is (words.row_at (rows_from 0 is) p) = stands 0 is p h in
      error_is p h ∙ ap (λ (l : List ℕ). get_or l 6 0) (t.words ∙ row_fine t.depth t.item (t.among Fine fine))

  -- and the other way round
  pub no_error_items : Every LaidItem is → ((p : ℕ) → p < length is → (row_at laid_words p).error ≡ 0) → Every Fine is
  no_error_items laid h = every_row LaidItem (λ (l : List ℕ). get_or l 6 0 ≡ 0) Fine fine 0 is laid (λ p l. sym (error_is p l) ∙ h p l)
    where
      fine : (d : ℕ) (i : Item) → LaidItem i → get_or (row_of d i) 6 0 ≡ 0 → Fine i
      fine d i l e = by_bool (leb kind.first_error i.kind)
          (λ b. let z : i.kind - kind.first_error ≡ 0 = sym (ap (λ (l : List ℕ). get_or l 6 0) (row_wrong d i b)) ∙ e in
          absurd (l.1 (omega (arith, leb-true kind.first_error i.kind b))))
          (λ b. leb-false kind.first_error i.kind b)

  -- a string is no error
  pub string_fine : (p : ℕ) → p < length is → (row_at laid_words p).kind ≡ kind.StringLiteral → (row_at laid_words p).error ≡ 0
  string_fine p h e =
      let t : Stands is (words.row_at (rows_from 0 is) p) = stands 0 is p h in
      by_bool (leb kind.first_error t.item.kind)
      (λ b. let z : ◌≡◌ {A = ℕ} kind.Identifier kind.StringLiteral
      = sym (kind_is p h ∙ ap (λ (l : List ℕ). get_or l 0 0) (t.words ∙ row_wrong t.depth t.item b)) ∙ e in
      absurd (omega arith))
      (λ b. error_is p h ∙ ap (λ (l : List ℕ). get_or l 6 0) (t.words ∙ row_fine t.depth t.item (leb-false kind.first_error t.item.kind b)))

-- ---- the finding about lists

-- an error, told at a row
abbrev pub Shows : List ℕ → Option ListTold → Type 0
Shows rows None = ⊥
Shows rows (Some t) = (t.row < count_of rows) × (t.finding.severity ≡ error)

last_below : (f : ℕ → Bool) (n m : ℕ) → n ≤ m → 0 < m → last_before f n < m
unfolding last_before
last_below f zero m h k = k
last_below f (suc n) m h k = if_all (λ (x : ℕ). x < m) (f n) (omega arith) (last_below f n m (omega arith) k)

pub past_row : (rows : List ℕ) (p : ℕ) → ltb p (count_of rows) ≡ false → row_at rows p ≡ no_row
unfolding row_at
past_row rows p b = rw b

module _ (source rows : List ℕ) (some : 0 < count_of rows) where
  shows_wrong : (p : ℕ) → p < count_of rows → Shows rows (wrong_close rows p)
  unfolding wrong_close
  shows_wrong p h = if_all (Shows rows) (eqb (depth_at rows p) 0) (h, refl) (h, refl)

  shows_dot : (p : ℕ) → p ≤ count_of rows → Shows rows (misplaced_dot rows p)
  unfolding misplaced_dot
  shows_dot p h = if_is (Shows rows) (eqb (row_at rows p).kind kind.Dot) (λ b. (dot_inside b, refl)) (λ b. (last_below (is_dot rows (depth_at rows p)) p (count_of rows) h some, refl))
    where
      dot_inside : eqb (row_at rows p).kind kind.Dot ≡ true → p < count_of rows
      dot_inside e = by_bool (ltb p (count_of rows)) (λ b. ltb-true p (count_of rows) b)
          (λ b. let z : (row_at rows p).kind ≡ kind.Dot = eqb-true (row_at rows p).kind kind.Dot e in
          let y : (row_at rows p).kind ≡ kind.first_error = ap (λ (r : Row). r.kind) (past_row rows p b) in
          absurd (omega arith))

  shows_mark : (p : ℕ) → p ≤ count_of rows → Shows rows (mark_waits rows p)
  unfolding mark_waits
  shows_mark p h = (last_below (waits rows (depth_at rows p) p) p (count_of rows) h some, refl)

  shows_open : (last_row rows).error ≡ 0 → Shows rows (bracket_open source rows)
  unfolding bracket_open within
  shows_open e =
      rw e
      (if_is (Shows rows) (ltb (first_from (is_misfit source rows) (count_of rows) 0) (count_of rows))
      (λ b. (last_below _ (first_from (is_misfit source rows) (count_of rows) 0) (count_of rows) (omega (arith, ltb-true (first_from (is_misfit source rows) (count_of rows) 0) (count_of rows) b)) some, refl))
      (λ b. (last_below _ (count_of rows) (count_of rows) (omega arith) some, refl)))

  -- every refusal that a reading may stop with is told
  pub shows_stop : (last_row rows).error ≡ 0 → (n p : ℕ) → Stop (count_of rows) n p → Shows rows (refused_list source rows n p)
  unfolding refused_list
  shows_stop e n p h =
      if_is (Shows rows) (eqb n refusal.bracket_open) (λ a. shows_open e)
      (λ a. if_is (Shows rows) (eqb n refusal.wrong_close) (λ b. shows_wrong p (before b))
      (λ b. if_is (Shows rows) (eqb n refusal.misplaced_dot) (λ c. shows_dot p upto)
      (λ c. if_is (Shows rows) (eqb n refusal.mark_waits) (λ d. shows_mark p upto)
      (λ d. if_is (Shows rows) (eqb n refusal.too_deep) (λ f. (deep f, refl))
      (λ f. absurd (none (eqb-false n refusal.bracket_open a) (eqb-false n refusal.wrong_close b) (eqb-false n refusal.misplaced_dot c)
      (eqb-false n refusal.mark_waits d) (eqb-false n refusal.too_deep f)))))))
    where
      upto : p ≤ count_of rows
      upto = ⊎_elim (λ x. omega (arith, x.0)) (λ x. omega (arith, x.0)) h

      at_end_case : {P : Type 0} → AtEnd n → (n ≡ 40 → P) → (n ≡ 42 → P) → (n ≡ 43 → P) → P
      at_end_case x a b c = ⊎_elim a (λ y. ⊎_elim b c y) x

      before : eqb n refusal.wrong_close ≡ true → p < count_of rows
      before b = let z : n ≡ refusal.wrong_close = eqb-true n refusal.wrong_close b in
          ⊎_elim (λ x. x.0) (λ x. at_end_case x.1 (λ y. absurd (omega arith)) (λ y. absurd (omega arith)) (λ y. absurd (omega arith))) h

      deep : eqb n refusal.too_deep ≡ true → p < count_of rows
      deep b = let z : n ≡ refusal.too_deep = eqb-true n refusal.too_deep b in
          ⊎_elim (λ x. x.0) (λ x. at_end_case x.1 (λ y. absurd (omega arith)) (λ y. absurd (omega arith)) (λ y. absurd (omega arith))) h

      none : (n ≡ 40 → ⊥) → (n ≡ 41 → ⊥) → (n ≡ 42 → ⊥) → (n ≡ 43 → ⊥) → (n ≡ 44 → ⊥) → ⊥
      none a b c d f = ⊎_elim (λ x. five x.1.0 x.1.1) (λ x. at_end_case x.1 a c d) h
        where
          five : 41 ≤ n → n ≤ 44 → ⊥
          five l m = by_bool (leb n 41) (λ y. b (omega (arith, leb-true n 41 y)))
              (λ y. by_bool (leb n 42) (λ z. c (omega (arith, leb-true n 42 z, leb-false n 41 y)))
              (λ z. by_bool (leb n 43) (λ w. d (omega (arith, leb-true n 43 w, leb-false n 42 z)))
              (λ w. f (omega (arith, leb-false n 43 w)))))
