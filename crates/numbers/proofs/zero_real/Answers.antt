-- Only a rational has a denominator.
use Rattle.numbers.proofs.Judged.{zero_ratio, zero_other}
use Rattle.numbers.proofs.zero_real.Goals as goal

pub returns-in-Rational : goal.returns-in-Rational
returns-in-Rational c = zero_ratio _ _ _ _ c.in-Rational.is c.zero_int.ensures

pub returns-in_default : goal.returns-in_default
returns-in_default c = zero_other _ c.in_default.not-Rational
