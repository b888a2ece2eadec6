-- The letters in upper case have an arm of their own.
use native.Mathlib.Omega.{arith}
use Rattle.laws.specs.Letters.{lower}
use Rattle.laws.specs.Quoted.{within}
use Rattle.numbers_standard.proofs.grammar.lower_case.Goals as goal

pub returns-in-65-to-90 : goal.returns-in-65-to-90
unfolding lower within
returns-in-65-to-90 c = grind arith

pub returns-in_default : goal.returns-in_default
unfolding lower within
returns-in_default c = grind arith

pub returns-in_default-2 : goal.returns-in_default-2
unfolding lower within
returns-in_default-2 c = grind arith
