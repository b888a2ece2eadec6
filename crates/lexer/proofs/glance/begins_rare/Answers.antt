-- The tests are of the two bounds, and what is no character of ASCII is past Z.
use native.Mathlib.Omega.{arith}
use borrow.Author.Tests.{leb-true}
use Rattle.laws.proofs.Choice.{no_yes}
use Rattle.lexer.proofs.glance.begins_rare.Goals as goal

pub returns-then-b-lt60 : goal.returns-then-b-lt60
returns-then-b-lt60 c e = no_yes e

pub returns-then-b-le90 : goal.returns-then-b-le90
returns-then-b-le90 c e = (omega arith, λ h. omega arith)

pub returns : goal.returns
returns c e = let h = leb-true 0xC3 c.args.b e in (omega arith, λ k. omega arith)
