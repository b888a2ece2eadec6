-- Each outcome is a case of the definition.
use Rattle.meaning.specs.Places.{reach, reach_from}
use native.Mathlib.Omega.{arith}
use mathlib.Core.Path.{ap}
use Rattle.meaning.proofs.places.range_after.Goals as goal

pub overflow_cast-result : goal.overflow_cast-result
overflow_cast-result c = omega (arith, ap reach_from c.in-ErrorAt.is)

pub overflow_cast-result-in-ErrorAt : goal.overflow_cast-result-in-ErrorAt
overflow_cast-result-in-ErrorAt c = omega (arith, ap reach c.in-ErrorAt.is)

pub returns-in-Character : goal.returns-in-Character
returns-in-Character c = rw c.in-Character.is c.after_character.ensures

pub returns-in-ErrorAt : goal.returns-in-ErrorAt
returns-in-ErrorAt c = rw c.in-ErrorAt.is
