-- What is left of the line is compared with what is left of the text.
use Prim.Native.Nat.{ℕ}
use mathlib.Core.Path.{sym, ap, ◌∙◌}
use mathlib.Core.List.{List}
use lib.ListN.{drop}
use native.Mathlib.Omega.{arith}
use Rattle.laws.specs.Texts.{begins}
use Rattle.steps.proofs.Delimiter.{unreturned_skip, line_short, line_differ, line_more, line_all}
use Rattle.steps.proofs.here.begins_with_line.Goals as goal

pub loop-b-preserved-then-b-eq13 : goal.loop-b-preserved-then-b-eq13
loop-b-preserved-then-b-eq13 c = (
  c.loop-b.invariant.0
      ∙ ap (λ (l : List ℕ). begins l (drop c.loop-b.j c.args.text.now))
      (unreturned_skip _ _ c.loop-b-test.true c.if-b-eq13.true),
  c.loop-b.invariant.1,
)

pub returns-then-text-j : goal.returns-then-text-j
returns-then-text-j c = sym (c.loop-b.invariant.0 ∙ line_short _ _ _ _ c.loop-b-test.true c.if-b-eq13.false c.if-text-j.true)

pub returns-then-text-j-2 : goal.returns-then-text-j-2
returns-then-text-j-2 c =
    sym (c.loop-b.invariant.0
    ∙ line_differ _ _ _ _ c.loop-b-test.true c.if-b-eq13.false c.if-text-j.false (λ e. c.if-text-j-2.true (sym e)))

pub loop-b-preserved : goal.loop-b-preserved
loop-b-preserved c = (
  c.loop-b.invariant.0
      ∙ line_more _ _ _ _ c.loop-b-test.true c.if-b-eq13.false c.if-text-j.false (sym c.if-text-j-2.false),
  omega arith,
)

pub returns : goal.returns
returns c = sym (c.loop-b.invariant.0 ∙ line_all _ c.args.text.now _ c.loop-b.j c.loop-b-test.false)
