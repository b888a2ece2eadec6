-- The loop keeps: the delimiter's first j bytes stand at the place, and the line has them before its place i (Sought).
use native.Mathlib.Omega.{arith}
use mathlib.Core.Path.{sym, ◌∙◌}
use Rattle.items.specs.Readers.{unreturned}
use Rattle.steps.specs.Sought.{Waits}
use Rattle.steps.proofs.Sought.{missed, byte_in, byte_at, begun_skip, begun_more, begun_all}
use Rattle.steps.proofs.search.learn.Goals as goal

pub loop-i-init : goal.loop-i-init
loop-i-init c = (c.requires.1, omega arith)

pub loop-i-preserved-then-line-i-eq13 : goal.loop-i-preserved-then-line-i-eq13
loop-i-preserved-then-line-i-eq13 c =
    let l = c.loop-i in
    let f = c.args in
    (begun_skip f.line.now f.s.now f.at l.j l.i c.loop-i-test.true c.if-line-i-eq13.true l.invariant.0, l.invariant.1)

pub overflow_add-at : goal.overflow_add-at
overflow_add-at c =
    let l = c.loop-i in
    omega (arith, l.invariant.0.room)

pub bounds-s-at : goal.bounds-s-at
bounds-s-at c =
    let l = c.loop-i in
    let f = c.args in
    omega (
      arith,
      c.requires.0,
      byte_in f.line.now l.j l.i l.invariant.0.rest (c.loop-i-test.true, c.if-line-i-eq13.false),
    )

pub overflow_add-result : goal.overflow_add-result
overflow_add-result c = omega (arith, c.loop-i.invariant.0.room)

pub returns-then-line-i : goal.returns-then-line-i
returns-then-line-i c =
    let l = c.loop-i in
    let f = c.args in
    let w : Waits f.line.now l.i = (c.loop-i-test.true, c.if-line-i-eq13.false) in (
      record {
        knows = record { begun = l.invariant.0; waits = λ h. w };
        stands = l.invariant.0.same;
        no_more = omega arith;
        missed = λ h. missed (unreturned f.line.now) f.s.now f.at l.j h
            (λ e. c.if-line-i.true (sym (byte_at f.line.now l.j l.i l.invariant.0.rest w) ∙ sym e));
      },
      l.invariant.1,
    )

pub overflow_add-j : goal.overflow_add-j
overflow_add-j c = omega (arith, c.loop-i.invariant.0.room)

pub loop-i-preserved : goal.loop-i-preserved
loop-i-preserved c =
    let l = c.loop-i in
    let f = c.args in (
      begun_more f.line.now f.s.now f.at l.j l.i
          (c.loop-i-test.true, c.if-line-i-eq13.false)
          c.requires.0 c.if-line-i.false l.invariant.0,
      omega (arith, l.invariant.1),
    )

pub overflow_add-result-2 : goal.overflow_add-result-2
overflow_add-result-2 c = omega (arith, c.loop-i.invariant.0.room)

pub returns : goal.returns
returns c =
    let l = c.loop-i in
    let f = c.args in
    let all = begun_all f.line.now f.s.now f.at l.j l.i c.loop-i-test.false l.invariant.0 in (
      record {
        knows = record { begun = l.invariant.0; waits = λ h. absurd (omega (arith, all, h)) };
        stands = l.invariant.0.same;
        no_more = omega arith;
        missed = λ h. absurd (omega (arith, all, h));
      },
      l.invariant.1,
    )
