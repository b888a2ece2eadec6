-- The loop keeps: the place past the tabs that are left, from here on, is the place past all.
use Rattle.std.proofs.Common.{◌<◌, drop, ap, ◌∙◌, arith, drop_of_length-le}
use Rattle.pieces_edges.specs.Fields.{past_tabs}
use Rattle.pieces_edges.proofs.Tabs.{no_tabs, tabs_end, tabs_on}
use Rattle.pieces_edges.proofs.files.past_tabs.Goals as goal

pub loop-i-init : goal.loop-i-init
loop-i-init c = omega arith

pub returns-then-left-eq0 : goal.returns-then-left-eq0
returns-then-left-eq0 c =
    let l = c.loop-i in
    omega (arith, l.invariant, no_tabs l.left (drop l.i c.args.line.now) c.if-left-eq0.true)

pub loop-i-preserved : goal.loop-i-preserved
loop-i-preserved c =
    let l = c.loop-i in
    let line = c.args.line.now in
    let pos : 0 < l.left = omega (arith, c.if-left-eq0.false) in
    rw c.still-left.ensures (tabs_on l.left l.i line pos (omega arith) ∙ l.invariant)

pub returns : goal.returns
returns c =
    let l = c.loop-i in
    let line = c.args.line.now in
    omega (arith, l.invariant, ap (past_tabs l.left) (drop_of_length-le line {i = l.i} (omega arith)), tabs_end l.left)
