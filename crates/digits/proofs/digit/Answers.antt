use native.Mathlib.Omega.{arith}
use Rattle.laws.specs.Quoted.{within}
use Rattle.digits.specs.Digits.{digit_of}
use Rattle.digits.proofs.digit.Goals as goal

-- src/lib.rt:71:1
pub returns-in-48-to-57 : goal.returns-in-48-to-57
unfolding digit_of within
returns-in-48-to-57 c = grind arith

-- src/lib.rt:71:1
pub returns-in-65-to-70 : goal.returns-in-65-to-70
unfolding digit_of within
returns-in-65-to-70 c = grind arith

-- src/lib.rt:71:1
pub returns-in-97-to-102 : goal.returns-in-97-to-102
unfolding digit_of within
returns-in-97-to-102 c = grind arith

-- src/lib.rt:71:1
pub returns-in_default : goal.returns-in_default
unfolding digit_of within
returns-in_default c = grind arith

-- src/lib.rt:71:1
pub returns-in_default-2 : goal.returns-in_default-2
unfolding digit_of within
returns-in_default-2 c = grind arith

-- src/lib.rt:71:1
pub returns-in_default-3 : goal.returns-in_default-3
unfolding digit_of within
returns-in_default-3 c = grind arith

-- src/lib.rt:71:1
pub returns-in_default-4 : goal.returns-in_default-4
unfolding digit_of within
returns-in_default-4 c = grind arith
