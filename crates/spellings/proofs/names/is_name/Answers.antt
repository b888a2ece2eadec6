-- A row up to its padding is its name, which `equal_lower` compares with the text. Where the first letter differs they differ (Table).
use mathlib.Core.Path.{sym, ap, ◌∙◌}
use mathlib.Core.List.{map}
use native.Mathlib.Omega.{arith}
use lib.ListN.{get_or}
use Rattle.laws.specs.Texts.{same}
use Rattle.laws.proofs.Runs.{before_le}
use lib.Seq.{length-take-le}
use Rattle.items.specs.Meaning.{lower}
use Rattle.spellings.specs.Names.{name_of}
use Rattle.spellings.proofs.Table.{own_name, first_differs}
use Rattle.spellings.proofs.names.is_name.Goals as goal

pub returns-then-lower_case-row : goal.returns-then-lower_case-row
returns-then-lower_case-row c =
    sym (first_differs c.args.t.now (name_of c.args.k) c.if-t-gt0.true
    (λ e. c.if-lower_case-row.true (c.lower_case.ensures ∙ e ∙ ap (λ l. get_or l 0 0) (sym c.name_row-row.ensures))))

pub slice_bounds-row-end : goal.slice_bounds-row-end
slice_bounds-row-end c = omega (arith, before_le 0 c.name_row-row.result, c.find-length.ensures)

pub slice_bounds-equal_lower-end : goal.slice_bounds-equal_lower-end
slice_bounds-equal_lower-end c = sym (length-take-le _ _ (omega (arith, before_le 0 c.name_row-row.result, c.find-length.ensures)))

pub returns : goal.returns
returns c =
    c.equal_lower.ensures ∙ ap (same (map lower c.args.t.now))
    (own_name c.args.k _ _ c.name_row-row.ensures c.find-length.ensures)
