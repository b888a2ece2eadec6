-- By the tests.
use borrow.Author.Tests.{lt-ltb, le-ltb, ne_eqb}
use native.Mathlib.Omega.{arith}
use Rattle.findings_render_messages.specs.Messages.{letter_of}
use Rattle.findings_render_messages.proofs.letter.Goals as goal

pub returns-then-t-gt99 : goal.returns-then-t-gt99
unfolding letter_of
returns-then-t-gt99 c = rw (lt-ltb _ _ c.if-t-gt99.true)

pub returns-in-2 : goal.returns-in-2
unfolding letter_of
returns-in-2 c = rw (le-ltb _ _ c.if-t-gt99.false, c.in-2.is)

pub returns-in-1 : goal.returns-in-1
unfolding letter_of
returns-in-1 c = rw (le-ltb _ _ c.if-t-gt99.false, c.in-1.is)

pub returns-in-3 : goal.returns-in-3
unfolding letter_of
returns-in-3 c = rw (le-ltb _ _ c.if-t-gt99.false, c.in-3.is)

pub returns-in_default-2 : goal.returns-in_default-2
unfolding letter_of
returns-in_default-2 c =
    simp (
      le-ltb _ _ c.if-t-gt99.false,
      ne_eqb c.args.t.severity 2 (λ h. omega arith),
      ne_eqb c.args.t.severity 1 (λ h. omega arith),
      ne_eqb c.args.t.severity 3 (λ h. omega arith),
    )
