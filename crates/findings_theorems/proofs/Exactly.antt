-- `clean_exactly`: no finding is an error exactly if no item of report mode is one and its records form data.
use Prim.Native.Nat.{ℕ, zero, suc, ◌+◌, ◌-◌, ◌*◌, ◌<◌}
use mathlib.Core.Path.{◌≡◌, refl, sym, ap, ◌∙◌}
use mathlib.Core.Bool.{Bool, true, false}
use mathlib.Core.List.{List, []}
use lib.ListN.{length, get_or}
use lib.Dec.{eqb, ltb}
use native.Mathlib.Omega.{arith}
use borrow.Author.Tests.{eqb-true, eq-eqb, ltb-true, ltb-false}
use Rattle.std.specs.Prelude.{if◌then◌else◌, None, Option, Some}
use Rattle.laws.proofs.Choice.{by_bool, and_true, and_no, no_yes, impossible}
use Rattle.refusal.specs.Refusals as refusal
use Rattle.items.specs.Kinds as kind
use Rattle.items.specs.Items.{Item, record_words}
use Rattle.items.proofs.Every.{Every}
use Rattle.nested.specs.Items.{count_of, class_at, items_of, items_from}
use Rattle.nested.specs.Reader.{Result, Nodes, No, run, start, read_on}
use Rattle.nested.specs.Lent.{fits, given, nested_of, Nested, Built, Refused}
use Rattle.findings_rows.specs.Rows.{fine_row, rows_from}
use Rattle.findings.specs.Finding.{listed}
use Rattle.findings.specs.Rows.{row_at, last_row, first_from}
use Rattle.findings.specs.Lists.{refused_list, nested_told, list_of}
use Rattle.findings.specs.Slips.{is_swallower, swallower}
use Rattle.findings.specs.Told.{ends_in_text, left_over, error_told, swallow_told, text_told, row_told, list_told, told_at, told_of, errors_in}
use Rattle.findings.specs.declared.Finding.{Finding}
use Rattle.findings.specs.declared.Row.{Row}
use Rattle.findings.specs.declared.ListTold.{ListTold}
use Rattle.findings_theorems.proofs.Unmended.{Fine}
use Rattle.findings_theorems.proofs.Layouts.{LaidItem}
use Rattle.findings_theorems.proofs.Words as words
use Rattle.findings_theorems.proofs.Words.{row_fine, Stands, stands}
use Rattle.findings_theorems.proofs.Numbers.{Known, sorted_known, stop_of}
use Rattle.findings_theorems.proofs.Clean.{errors_append, quiet_each, quiet_all, Mild, loud, mild_row, laid_words, count_is, word_is, no_error_rows}
use Rattle.findings_theorems.proofs.Clean.{no_error_items, string_fine, Shows, shows_stop, error_loud, past_row}

-- records, or rows, that nested lists refuse for nothing, or only since there are no nodes: they form data
abbrev pub Data : List ℕ → Type 0
Data words = (n p : ℕ) → (nested_of words []).answer ≡ Refused n p → n ≡ refusal.few_nodes

-- ---- the first that passes a test

pub first_passes : (f : ℕ → Bool) (n i : ℕ) → first_from f n i < i + n → f (first_from f n i) ≡ true
unfolding first_from
first_passes f zero i h = absurd (omega arith)
first_passes f (suc n) i h = by_bool (f i)
    (λ b. let z : (if f i then i else first_from f n (i + 1)) ≡ i = rw b in ap f z ∙ b)
    (λ b. let z : (if f i then i else first_from f n (i + 1)) ≡ first_from f n (i + 1) = rw b in
    ap f z ∙ first_passes f n (i + 1) (omega arith))

swallower_string : (source rows : List ℕ) (p : ℕ) → is_swallower source rows p ≡ true → (row_at rows p).kind ≡ kind.StringLiteral
unfolding is_swallower
swallower_string source rows p e = by_bool (eqb (row_at rows p).kind kind.StringLiteral) (λ b. eqb-true (row_at rows p).kind kind.StringLiteral b) (λ b. no_yes (rw b at e))

-- no records, no refusal
none_stops : {P : Type 0} (s : List ℕ) (n p : ℕ) → run 0 start (items_from 0 0 s) ≡ No n p → P
unfolding read_on items_from
none_stops s n p h = impossible cc

-- ---- no error is told: no row is an error

module _ (source : List ℕ) (is : List Item) where
  abbrev rows : List ℕ
  rows = laid_words is

  abbrev tells : ℕ → List Finding
  tells = told_at source rows (list_of source rows) (swallower source rows) (left_over source rows)

  module _ (quiet : errors_in (told_of source rows) ≡ 0) where
    quiet_at : (p : ℕ) → p < count_of rows → errors_in (tells p) ≡ 0
    unfolding told_of
    quiet_at p h = quiet_each tells (count_of rows) 0 quiet p (omega arith) (omega arith)

    quiet_list : (p : ℕ) → p < count_of rows → Mild (list_told (list_of source rows) p)
    quiet_list p h =
        omega (arith, quiet_at p h, errors_append (listed (list_told (list_of source rows) p)) (listed (row_told source rows (swallower source rows) (left_over source rows) p)))

    quiet_row : (p : ℕ) → p < count_of rows → Mild (row_told source rows (swallower source rows) (left_over source rows) p)
    quiet_row p h =
        omega (arith, quiet_at p h, errors_append (listed (list_told (list_of source rows) p)) (listed (row_told source rows (swallower source rows) (left_over source rows) p)))

    -- the text that swallowed lines tells an error where a quote is left over
    swallower_tells : left_over source rows ≡ true → ⊥
    unfolding row_told text_told swallow_told
    swallower_tells e =
        let first : ℕ = swallower source rows in
        let l : first < count_of rows = ltb-true first (count_of rows) (and_true (ltb first (count_of rows)) (ends_in_text source rows) e).0 in
        let s : is_swallower source rows first ≡ true = first_passes (is_swallower source rows) (count_of rows) 0 (omega arith) in
        let k : (row_at rows first).kind ≡ kind.StringLiteral = swallower_string source rows first s in
        let z : (row_at rows first).error ≡ 0 = string_fine is first (omega (arith, count_is is)) k in
        loud _ refl (rw (z, k, e, eq-eqb first first refl) at (quiet_row first l))

    quiet_rows : (p : ℕ) → p < count_of rows → (row_at rows p).error ≡ 0
    unfolding row_told error_told
    quiet_rows p h = by_bool (ltb 0 (row_at rows p).error)
        (λ b. by_bool (left_over source rows)
        (λ l. absurd (swallower_tells l))
        (λ l. absurd (error_loud (row_at rows p) (rw (b, l) at (quiet_row p h)))))
        (λ b. omega (arith, ltb-false 0 (row_at rows p).error b))

    pub quiet_fine : Every LaidItem is → Every Fine is
    quiet_fine laid = no_error_items is laid (λ p h. quiet_rows p (omega (arith, count_is is)))

    -- a finding about lists would be told
    quiet_shows : (t : Option ListTold) → list_of source rows ≡ t → Shows rows t → ⊥
    quiet_shows None e h = h
    quiet_shows (Some t) e h = loud t.finding h.1 (rw (e, eq-eqb t.row t.row refl) at (quiet_list t.row h.0))

  -- ---- items without errors

  module _ (fine : Every Fine is) (laid : Every LaidItem is) where
    error_zero : (p : ℕ) → p < count_of rows → (row_at rows p).error ≡ 0
    error_zero p h = no_error_rows is fine p (omega (arith, count_is is))

    last_zero : (last_row rows).error ≡ 0
    last_zero = by_bool (ltb (count_of rows - 1) (count_of rows))
        (λ b. error_zero (count_of rows - 1) (ltb-true (count_of rows - 1) (count_of rows) b))
        (λ b. ap (λ (r : Row). r.error) (past_row rows (count_of rows - 1) b))

    class_known : (q : ℕ) → q < count_of rows → Known (class_at rows q)
    class_known q h =
        let l : q < length is = omega (arith, count_is is) in
        let t : Stands is (words.row_at (rows_from 0 is) q) = stands 0 is q l in
        let f : Fine t.item = t.among Fine fine in
        let place : q * record_words ≡ q * record_words + 0 = omega arith in
        let w : words.row_at (rows_from 0 is) q ≡ fine_row t.depth t.item = t.words ∙ row_fine t.depth t.item f in
        let k : get_or rows (q * record_words) 0 ≡ t.item.kind
        = ap (λ (n : ℕ). get_or rows n 0) place ∙ word_is is q 0 l (omega arith) ∙ ap (λ (r : List ℕ). get_or r 0 0) w in
        let d : get_or rows (q * record_words + 1) 0 ≡ t.item.detail = word_is is q 1 l (omega arith) ∙ ap (λ (r : List ℕ). get_or r 1 0) w in
        rw (k, d) (sorted_known t.item.kind t.item.detail ((t.among LaidItem laid).0 f))

    some_rows : (n p : ℕ) → run (count_of rows) start (items_of rows) ≡ No n p → 0 < count_of rows
    some_rows n p e = by_bool (ltb 0 (count_of rows)) (λ b. ltb-true 0 (count_of rows) b)
        (λ b. let z : count_of rows ≡ 0 = omega (arith, ltb-false 0 (count_of rows) b) in
        none_stops rows n p (sym (ap (λ (k : ℕ). run k start (items_from (k - 0) 0 rows)) z) ∙ e))

    -- the reading goes to its end if no error is told
    quiet_reads : errors_in (told_of source rows) ≡ 0 → (n p : ℕ) → run (count_of rows) start (items_of rows) ≡ No n p → ⊥
    unfolding list_of nested_of
    quiet_reads quiet n p e =
        quiet_shows quiet (refused_list source rows n p) (ap (λ (r : Result). nested_told source rows (given r rows []).answer) e)
        (shows_stop source rows (some_rows n p e) last_zero n p (stop_of rows start n p class_known e))

    -- a refusal of nested lists that is not for want of nodes is a reading that stops
    few_only : (r : Result) → ((n p : ℕ) → r ≡ No n p → ⊥) → (n p : ℕ) → (given r rows []).answer ≡ Refused n p → n ≡ refusal.few_nodes
    few_only (No m q) h n p e = absurd (h m q refl)
    few_only (Nodes ns) h n p e = by_bool (fits rows ns [])
        (λ b. let z : Built (length ns) ≡ Refused n p = rw b at e in impossible cc)
        (λ b. let z : Refused refusal.few_nodes 0 ≡ Refused n p = rw b at e in let y : refusal.few_nodes ≡ n = cc in sym y)

    pub quiet_data : errors_in (told_of source rows) ≡ 0 → Data rows
    unfolding nested_of
    quiet_data quiet n p e = few_only (run (count_of rows) start (items_of rows)) (quiet_reads quiet) n p e

    -- ---- the other way round

    silent : (a : Nested) → (nested_of rows []).answer ≡ a → Data rows → list_of source rows ≡ None
    unfolding list_of refused_list
    silent (Built n) e h = ap (nested_told source rows) e
    silent (Refused n p) e h = let z : n ≡ refusal.few_nodes = h n p e in ap (nested_told source rows) e ∙ ap (λ (k : ℕ). refused_list source rows k p) z

    none_left : left_over source rows ≡ false
    unfolding ends_in_text
    none_left = rw last_zero (and_no (ltb (swallower source rows) (count_of rows)))

    pub data_quiet : Data rows → errors_in (told_of source rows) ≡ 0
    unfolding told_of
    data_quiet h = quiet_all tells (count_of rows) 0 (λ p l m. rw (silent (nested_of rows []).answer refl h, none_left) (mild_row source rows (swallower source rows) p (error_zero p (omega arith))))
