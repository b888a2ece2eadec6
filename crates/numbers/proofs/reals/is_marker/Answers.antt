-- `e` and `E`, and no other byte.
use native.Mathlib.Omega.{arith}
use Rattle.numbers.specs.Reals.{exponent_marker}
use Rattle.numbers.proofs.reals.is_marker.Goals as goal

pub returns-in-101 : goal.returns-in-101
unfolding exponent_marker
returns-in-101 c = grind arith

pub returns-in_default : goal.returns-in_default
unfolding exponent_marker
returns-in_default c = grind arith
