-- A slip is mended, any other item stays, and so does the end.
use mathlib.Core.Path.{sym, ◌∙◌}
use Rattle.findings_rows.proofs.Mends.{next_in_lem, slip_is, fine_is, end_is}
use Rattle.findings_rows.proofs.next_row.Goals as goal

pub mend-requires : goal.mend-requires
mend-requires c = (
  c.requires,
  (next_in_lem c.args.source.now c.args.spot c.in_ok-found.found.nine c.in_ok-found.found.after
      (sym c.in_ok-found.was ∙ c.next_item.ensures)).0,
)

pub returns-then-is_slip : goal.returns-then-is_slip
returns-then-is_slip c =
    c.mend.ensures ∙ slip_is c.args.source.now c.args.spot c.in_ok-found.found.nine c.in_ok-found.found.after
    (sym c.in_ok-found.was ∙ c.next_item.ensures) (sym c.is_slip.ensures ∙ c.if-is_slip.true)

pub returns : goal.returns
returns c =
    fine_is c.args.source.now c.args.spot c.in_ok-found.found.nine c.in_ok-found.found.after
    (sym c.in_ok-found.was ∙ c.next_item.ensures) (sym c.is_slip.ensures ∙ c.if-is_slip.false)

pub returns-in_err-found : goal.returns-in_err-found
returns-in_err-found c =
    rw c.from_residual.ensures (end_is c.args.source.now c.args.spot (sym c.in_err-found.was ∙ c.next_item.ensures))
