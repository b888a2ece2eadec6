-- The sign and the first digits are passed once; a dot after them, or none, decides which shape is read on.
use Rattle.coordinates.proofs.Shapes.{passed, dot_other, wanted_other}
use Rattle.digits.proofs.DecimalRuns.{ten_some}
use Rattle.std.proofs.Common.{sym, ◌∙◌, arith}
use Rattle.coordinates.proofs.decimals.read.Goals as goal

pub run-whole-requires : goal.run-whole-requires
run-whole-requires c = (omega arith, ten_some _)

pub dotted-requires : goal.dotted-requires
dotted-requires c = (
  passed _ _ _ _ c.starts_at-neg.ensures c.sign_end-start.ensures c.run-whole.ensures
      c.requires,
  sym c.if-starts_at.true ∙ c.starts_at.ensures,
)

pub returns-then-starts_at : goal.returns-then-starts_at
returns-then-starts_at c =
    let p =
    passed _ _ _ _ c.starts_at-neg.ensures c.sign_end-start.ensures c.run-whole.ensures
    c.requires in
    wanted_other _ _ _ _ p _ (dot_other _ _ _ _ p (sym c.if-starts_at.true
    ∙ c.starts_at.ensures)) _ c.dotted.ensures

pub undotted-requires : goal.undotted-requires
undotted-requires c = (
  passed _ _ _ _ c.starts_at-neg.ensures c.sign_end-start.ensures c.run-whole.ensures
      c.requires,
  sym c.if-starts_at.false ∙ c.starts_at.ensures,
)
