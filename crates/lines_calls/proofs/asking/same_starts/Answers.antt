-- The loop goes from one newline byte to the next and keeps that j starts were the same (`Comparing`).
use native.Mathlib.Omega.{arith}
use mathlib.Core.Path.{sym}
use Rattle.lines.specs.Starts.{starts_from}
use Rattle.lines_calls.proofs.Compared.{same_out, same_other, comparing_start, comparing_out, comparing_other, comparing_next, comparing_end}
use Rattle.lines_calls.proofs.asking.same_starts.Goals as goal

pub returns-then-index-eq0 : goal.returns-then-index-eq0
returns-then-index-eq0 c = sym (same_out 0 (starts_from 0 c.args.text.now) c.args.index.now 0 (omega arith))

pub returns-then-index-ne0 : goal.returns-then-index-ne0
returns-then-index-ne0 c =
    sym (same_other 0 (starts_from 0 c.args.text.now) c.args.index.now 0 (omega arith) c.if-index-ne0.true)

pub loop-at-init : goal.loop-at-init
loop-at-init c =
    comparing_start c.args.text.now c.args.index.now (omega arith) c.if-index-ne0.false c.find-at.ensures

pub returns-then-j-index : goal.returns-then-j-index
returns-then-j-index c = let a = c.args in let l = c.loop-at in
    comparing_out a.text.now a.index.now l.j l.at l.invariant c.loop-at-test.true c.if-j-index.true

pub bounds-index-j : goal.bounds-index-j
bounds-index-j c = omega (arith, c.loop-at.invariant.within)

pub returns-then-wide-at : goal.returns-then-wide-at
returns-then-wide-at c = let a = c.args in
    let l = c.loop-at in comparing_other a.text.now a.index.now l.j l.at
    l.invariant c.loop-at-test.true c.if-j-index.false c.wide.ensures c.if-wide-at.true

pub overflow_add-j : goal.overflow_add-j
overflow_add-j c = omega (arith, c.loop-at.invariant.within)

pub loop-at-smaller : goal.loop-at-smaller
loop-at-smaller c = omega (arith, c.find-at-in-loop-at.ensures)

pub loop-at-preserved : goal.loop-at-preserved
loop-at-preserved c = let a = c.args in
    let l = c.loop-at in
    comparing_next a.text.now a.index.now l.j l.at l.invariant c.loop-at-test.true
    c.if-j-index.false c.wide.ensures c.if-wide-at.false c.find-at-in-loop-at.ensures

pub returns : goal.returns
returns c = let a = c.args in
    let l = c.loop-at in comparing_end a.text.now a.index.now l.j l.at l.invariant c.loop-at-test.false
