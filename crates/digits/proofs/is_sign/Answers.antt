-- Each arm is a disjunct of `is_sign`.
use native.Mathlib.Omega.{arith}
use Rattle.laws.specs.Letters.{is_sign}
use Rattle.digits.proofs.is_sign.Goals as goal

pub returns-in-43 : goal.returns-in-43
unfolding is_sign
returns-in-43 c = grind arith

pub returns-in_default : goal.returns-in_default
unfolding is_sign
returns-in_default c = grind arith
