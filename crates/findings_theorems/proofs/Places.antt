-- What the places of findings are: extents of rows, what an error points at, the opening characters of what is not closed, or a character. So a
-- law that holds from the start to the end of each of these holds of both places of every finding. `R` is the law: what it says does not
-- matter here.
use Rattle.std.proofs.Common.{None, Option, Some}
use Prim.Native.Nat.{ℕ, zero, suc, ◌+◌, ◌-◌, ◌≤◌, ◌<◌}
use mathlib.Core.Path.{◌≡◌, sym, ap, subst, ◌∙◌}
use mathlib.Core.Bool.{Bool, true, false, ◌&&◌}
use mathlib.Core.List.{List, [], ◌∷◌, ◌++◌}
use lib.Dec.{eqb, ltb}
use native.Mathlib.Omega.{arith}
use borrow.Author.Tests.{eqb-true, ltb-true}
use Rattle.laws.specs.Quoted.{code, within}
use Rattle.laws.proofs.Choice.{by_bool, if_all, if_is, and_true}
use Rattle.chars.specs.Utf8.{Sequence, read, broken, short, sequences}
use Rattle.refusal.specs.Refusals as refusal
use Rattle.items.specs.Kinds as kind
use Rattle.items.proofs.Every.{Every, every_append}
use Rattle.nested.specs.Items.{count_of}
use Rattle.nested.specs.Lent.{nested_of, Nested, Built, Refused}
use Rattle.findings.specs.Finding.{error, single, both, listed}
use Rattle.findings.specs.Rows.{byte_at, part, no_row, row_at, last_row, depth_at, first_from, bytes_on}
use Rattle.findings.specs.Lists.{wrong_close, misplaced_dot, mark_waits, bracket_open, is_misfit, refused_list, nested_told, list_of}
use Rattle.findings.specs.Slips.{is_name, odd_code, first_odd, odd_in, like_number, comma_follows, number_slip, or_else, name_told, swallows, is_swallower, swallower, ends_otherwise}
use Rattle.findings.specs.Told.{ends_in_text, left_over, error_end, error_told, swallow_told, text_told, number_told, name_or_nothing, row_told, list_told, told_at, told_from, told_of}
use Rattle.findings.specs.declared.Finding.{Finding}
use Rattle.findings.specs.declared.Row.{Row}
use Rattle.findings.specs.declared.ListTold.{ListTold}
use Rattle.findings_theorems.proofs.Clean.{past_row}
use Rattle.findings_theorems.proofs.Exactly.{first_passes}

-- what holds of every row, and of what stands past the last
pub any_row : (rows : List ℕ) (P : Row → Type 0) → P no_row → ((p : ℕ) → p < count_of rows → P (row_at rows p)) → (p : ℕ) → P (row_at rows p)
any_row rows P none some p = by_bool (ltb p (count_of rows)) (λ b. some p (ltb-true p (count_of rows) b)) (λ b. subst P (sym (past_row rows p b)) none)

module _ (R : ℕ → ℕ → Type 0) where
  -- both places of a finding; no second place goes from 0 to 0
  abbrev pub BothPlaces : Finding → Type 0
  BothPlaces f = R f.start f.end × R f.also f.past

  -- a character's bytes
  abbrev pub OfChar : Sequence → Type 0
  OfChar (read c f t) = R f t
  OfChar (broken f t) = Unit {0}
  OfChar (short f) = Unit {0}

  -- what the rows of a source give
  pub record FromRows (source rows : List ℕ) : Type 0 where
    pub nowhere : R 0 0
    pub extent : (p : ℕ) → R (row_at rows p).start (row_at rows p).end
    pub comma : (p : ℕ) → comma_follows source rows p ≡ true → R (row_at rows p).start (row_at rows (p + 2)).end
    pub chars : (p : ℕ) → p < count_of rows → Every OfChar (sequences 0 (row_at rows p).start (part source (row_at rows p).start (row_at rows p).end))
    pub place : (p : ℕ) → p < count_of rows → R (row_at rows p).from (row_at rows p).to
    pub opener : (p : ℕ) → p < count_of rows → kind.IncompleteString ≤ (row_at rows p).error → (row_at rows p).error ≤ kind.IncompleteIdentifier
        → R (row_at rows p).from (bytes_on 1 (row_at rows p).from)
    pub nest : (p : ℕ) → p < count_of rows → (row_at rows p).error ≡ kind.IncompleteComment → R (row_at rows p).from (bytes_on 2 (row_at rows p).from)
    pub quote : (p : ℕ) → p < count_of rows → byte_at source (row_at rows p).start ≡ code "\"" → R (row_at rows p).start (bytes_on 1 (row_at rows p).start)

  abbrev OfTold : Option Finding → Type 0
  OfTold None = Unit {0}
  OfTold (Some f) = BothPlaces f

  abbrev OfList : Option ListTold → Type 0
  OfList None = Unit {0}
  OfList (Some t) = BothPlaces t.finding

  of_two : (t u : Option Finding) → OfTold t → OfTold u → Every BothPlaces (listed t ++ listed u)
  of_two None None h k = tt
  of_two None (Some g) h k = (k, tt)
  of_two (Some f) None h k = (h, tt)
  of_two (Some f) (Some g) h k = (h, (k, tt))

  of_list : (t : Option ListTold) (p : ℕ) → OfList t → OfTold (list_told t p)
  of_list None p h = tt
  of_list (Some t) p h = if_all OfTold (eqb t.row p) h tt

  of_else : (t u : Option Finding) → OfTold t → OfTold u → OfTold (or_else t u)
  of_else None u h k = k
  of_else (Some f) u h k = h

  module _ (source rows : List ℕ) (g : FromRows source rows) where
    of_odd : (l : List Sequence) → Every OfChar l → OfTold (first_odd l)
    unfolding first_odd
    of_odd [] h = tt
    of_odd (read c f t ∷ l) h = if_all OfTold (eqb (odd_code c) 0) (of_odd l h.1) (h.0, g.nowhere)
    of_odd (broken f t ∷ l) h = tt
    of_odd (short f ∷ l) h = tt

    -- ---- the finding about lists: extents of rows

    -- whatever is told: the extent of row i; and of row j as the second place
    of_row : (i : ℕ) → BothPlaces (single error 0 0 (row_at rows i).start (row_at rows i).end)
    of_row i = (g.extent i, g.nowhere)

    of_rows : (i j : ℕ) → BothPlaces (both error 0 0 (row_at rows i).start (row_at rows i).end (row_at rows j).start (row_at rows j).end)
    of_rows i j = (g.extent i, g.extent j)

    of_refused : (m p : ℕ) → OfList (refused_list source rows m p)
    unfolding refused_list bracket_open wrong_close misplaced_dot mark_waits
    of_refused m p =
        if_all OfList (eqb m refusal.bracket_open)
        (if_all OfList (within kind.IncompleteString kind.IncompleteComment (last_row rows).error) tt
        (if_all OfList (ltb (first_from (is_misfit source rows) (count_of rows) 0) (count_of rows)) (of_rows _ _) (of_row _)))
        (if_all OfList (eqb m refusal.wrong_close) (if_all OfList (eqb (depth_at rows p) 0) (of_row _) (of_rows _ _))
        (if_all OfList (eqb m refusal.misplaced_dot) (if_all OfList (eqb (row_at rows p).kind kind.Dot) (of_row _) (of_row _))
        (if_all OfList (eqb m refusal.mark_waits) (of_row _) (if_all OfList (eqb m refusal.too_deep) (of_row _) tt))))

    of_nested : OfList (list_of source rows)
    unfolding list_of
    of_nested = go (nested_of rows []).answer
      where
        go : (a : Nested) → OfList (nested_told source rows a)
        go (Built m) = tt
        go (Refused m p) = of_refused m p

    -- ---- what a row tells

    -- a text that has swallowed lines starts with a quote
    swallower_quote : (p : ℕ) → is_swallower source rows p ≡ true → byte_at source (row_at rows p).start ≡ code "\""
    unfolding is_swallower
    swallower_quote p h =
        let r : Row = row_at rows p in
        let string : Bool = eqb r.kind kind.StringLiteral in
        let quoted : Bool = eqb (byte_at source r.start) (code "\"") in
        eqb-true (byte_at source r.start) (code "\"") (and_true string quoted (and_true (string && quoted) (swallows false (part source r.start r.end)) h).0).1

    -- and so does one that is left over
    left_quote : left_over source rows ≡ true → byte_at source (last_row rows).start ≡ code "\""
    unfolding ends_in_text
    left_quote h =
        let last : Row = last_row rows in
        let quoted : Bool = eqb (byte_at source last.start) (code "\"") in
        let ends : Bool = eqb last.error kind.IncompleteString in
        eqb-true (byte_at source last.start) (code "\"") (and_true ends quoted (and_true (ltb (swallower source rows) (count_of rows)) (ends && quoted) h).1).1

    module _ (p : ℕ) (there : p < count_of rows) where
      abbrev r : Row
      r = row_at rows p

      of_name : OfTold (name_told source rows p)
      unfolding name_told number_slip
      of_name =
          of_else (odd_in source r.start r.end) (number_slip source rows p) (of_odd _ (g.chars p there))
          (if_all OfTold (like_number source r.start)
          (if_is OfTold (comma_follows source rows p) (λ b. (g.comma p b, g.nowhere)) (λ b. (g.extent p, g.nowhere))) tt)

      first_quote : eqb p (swallower source rows) ≡ true → byte_at source r.start ≡ code "\""
      first_quote b =
          let z : p ≡ swallower source rows = eqb-true p (swallower source rows) b in
          swallower_quote p (ap (is_swallower source rows) z ∙ first_passes (is_swallower source rows) (count_of rows) 0 (omega arith))

      of_text : OfTold (text_told rows (swallower source rows) (left_over source rows) p)
      unfolding text_told swallow_told
      of_text = if_is OfTold (eqb p (swallower source rows))
          (λ b. let a : R r.start (bytes_on 1 r.start) = g.quote p there (first_quote b) in
          if_is OfTold (left_over source rows) (λ l. (a, g.quote (count_of rows - 1) (omega arith) (left_quote l))) (λ l. (a, g.nowhere)))
          (λ b. tt)

      of_error : R r.from (error_end r)
      unfolding error_end
      of_error =
          let P : ℕ → Type 0 = R r.from in
          let is : (n : ℕ) → eqb r.error n ≡ true → r.error ≡ n = λ n b. eqb-true r.error n b in
          if_is P (eqb r.error kind.IncompleteString) (λ b. g.opener p there (omega (arith, is kind.IncompleteString b)) (omega (arith, is kind.IncompleteString b))) (λ _.
          if_is P (eqb r.error kind.IncompleteIdentifier) (λ b. g.opener p there (omega (arith, is kind.IncompleteIdentifier b)) (omega (arith, is kind.IncompleteIdentifier b))) (λ _.
          if_is P (eqb r.error kind.IncompleteComment) (λ b. g.nest p there (is kind.IncompleteComment b)) (λ _. g.place p there)))

      of_own : OfTold (row_told source rows (swallower source rows) (left_over source rows) p)
      unfolding row_told error_told name_or_nothing number_told
      of_own =
          if_all OfTold (ltb 0 r.error) (if_all OfTold (left_over source rows && eqb (p + 1) (count_of rows)) tt (of_error, g.nowhere))
          (if_all OfTold (eqb r.kind kind.Identifier) (if_all OfTold (is_name source rows p) of_name tt)
          (if_all OfTold (eqb r.kind kind.StringLiteral) of_text
          (if_all OfTold (eqb r.kind kind.Number) (if_all OfTold (ends_otherwise source rows p) (g.extent p, g.nowhere) tt) tt)))

    -- ---- all rows

    abbrev tells : ℕ → List Finding
    tells = told_at source rows (list_of source rows) (swallower source rows) (left_over source rows)

    of_from : (m p : ℕ) → p + m ≡ count_of rows → Every BothPlaces (told_from tells m p)
    unfolding told_from
    of_from zero p e = tt
    of_from (suc m) p e =
        every_append BothPlaces (tells p) (told_from tells m (p + 1))
        (of_two (list_told (list_of source rows) p) (row_told source rows (swallower source rows) (left_over source rows) p) (of_list (list_of source rows) p of_nested) (of_own p (omega arith)))
        (of_from m (p + 1) (omega arith))

    pub places : Every BothPlaces (told_of source rows)
    unfolding told_of
    places = of_from (count_of rows) 0 (omega arith)
