-- The loop keeps what `RowByRow` says; each row tells what the definition has of it.
use mathlib.Core.Path.{ap, ◌∙◌}
use native.Mathlib.Omega.{arith}
use lib.ListN.{length, length-append}
use Rattle.findings_rows.proofs.Laid.{laid_length}
use Rattle.findings.specs.Finding.{listed}
use Rattle.findings.specs.Told.{told_of}
use Rattle.findings.proofs.AllTold.{listed_few, held_errors, held_more, rows_start, rows_end, rows_turn}
use Rattle.findings.proofs.telling.tell.Goals as goal

pub loop-p-init : goal.loop-p-init
loop-p-init c = rows_start _ _ _

pub lay-n-requires : goal.lay-n-requires
lay-n-requires c =
    let g = c.loop-p.invariant in
    (omega (arith, g.few, g.held.found, c.loop-p-test.true), held_errors g.held)

pub row_told-requires : goal.row_told-requires
row_told-requires c = c.loop-p-test.true

pub lay-n-requires-in-loop-p : goal.lay-n-requires-in-loop-p
lay-n-requires-in-loop-p c =
    let g = c.loop-p.invariant in
    let t = c.list_told.result in
    let h = held_more g.held (listed t) c.lay-n.ensures in
    (omega (arith, g.few, h.found, length-append g.done (listed t), listed_few t, c.loop-p-test.true), held_errors h)

pub loop-p-preserved : goal.loop-p-preserved
loop-p-preserved c =
    let g = c.loop-p.invariant in
    let t = c.list_told.result in
    let u = c.row_told.result in
    rows_turn _ _ _ g t u c.loop-p-test.true (rw (c.list_told.ensures, c.row_told.ensures))
    (held_more (held_more g.held (listed t) c.lay-n.ensures) (listed u) c.lay-n-in-loop-p.ensures)

pub shape_of-findings : goal.shape_of-findings
shape_of-findings c = ap length c.loop-p.invariant.held.lies ∙ laid_length _ _

pub returns : goal.returns
unfolding told_of
returns c =
    rows_end _ _ _ c.loop-p.invariant c.loop-p-test.false
    ∙ rw (c.list_of-list.ensures, c.is_left_over-left.ensures, c.first_swallower-first.ensures)
