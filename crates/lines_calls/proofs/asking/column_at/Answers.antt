-- The loop keeps: from place `at` on, with n counted, the column is the one asked for. Each turn passes one character.
use native.Mathlib.Omega.{arith}
use Prim.Native.Nat.{◌<◌}
use mathlib.Core.Path.{refl, sym, ◌∙◌}
use lib.ListN.{drop}
use Rattle.chars.proofs.Sequences.{further}
use Rattle.lines.proofs.Columns.{column_step, column_done, column_in, column_on, not_end}
use Rattle.lines_calls.proofs.asking.column_at.Tie as tie
use Rattle.lines_calls.proofs.asking.column_at.Lts as lts
use Rattle.lines_calls.proofs.asking.column_at.Reads as reads
use Rattle.lines_calls.proofs.asking.column_at.Goals as goal

-- a character moves the place on
next : (c : lts.Else1 tie.the-claims reads.Pre reads.Post goal.the-invariant-loop-at goal.the-decreases-loop-at) → c.loop-at.at < c.in-Char.next
next c =
    further c.args.text.now c.loop-at.at
    c.in-Char.code c.in-Char.next (sym c.in-Char.is ∙ c.decode_at.ensures)

pub loop-at-init : goal.loop-at-init
loop-at-init c = (omega arith, refl)

pub returns-then-place-next : goal.returns-then-place-next
returns-then-place-next c = let a = c.args in
    let l = c.loop-at in
    sym (column_in a.text.now a.place l.n l.at c.loop-at-test.true
    (sym c.in-Char.is ∙ c.decode_at.ensures) c.if-place-next.true) ∙ l.invariant.1

pub loop-at-smaller : goal.loop-at-smaller
loop-at-smaller c = omega (arith, next c.before)

pub loop-at-preserved : goal.loop-at-preserved
loop-at-preserved c = let a = c.args in
    let l = c.loop-at in (
      omega (arith, l.invariant.0, next c.before),
      sym (column_on a.text.now a.place l.n l.at c.loop-at-test.true
          (sym c.in-Char.is ∙ c.decode_at.ensures) c.if-place-next.false) ∙ l.invariant.1,
    )

pub returns-in-Bad : goal.returns-in-Bad
returns-in-Bad c = let a = c.args in
    let l = c.loop-at in sym (column_step a.text.now a.place
    l.n l.at c.loop-at-test.true (sym c.in-Bad.is ∙ c.decode_at.ensures)) ∙ l.invariant.1

pub returns-in-Cut : goal.returns-in-Cut
returns-in-Cut c = let a = c.args in
    let l = c.loop-at in sym (column_step a.text.now a.place
    l.n l.at c.loop-at-test.true (sym c.in-Cut.is ∙ c.decode_at.ensures)) ∙ l.invariant.1

pub returns-in-End : goal.returns-in-End
returns-in-End c = let a = c.args in let l = c.loop-at in
    absurd (not_end a.text.now l.at (omega arith) (sym c.in-End.is ∙ c.decode_at.ensures))

pub returns : goal.returns
returns c = let a = c.args in let l = c.loop-at in sym (column_done a.place l.n l.at (drop l.at a.text.now) c.loop-at-test.false) ∙ l.invariant.1
