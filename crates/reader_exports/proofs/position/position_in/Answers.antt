-- The words are seven, and those that are numbers have at most 32 bits.
use native.Mathlib.Omega.{arith}
use Rattle.reader_exports.proofs.Words.{position_length, position_from, position_to, position_depth}
use Rattle.reader_exports.proofs.position.position_in.Goals as goal

pub bounds-words-0 : goal.bounds-words-0
bounds-words-0 c = omega (arith, position_length _ c.requires)

pub bounds-words-1 : goal.bounds-words-1
bounds-words-1 c = omega (arith, position_length _ c.requires)

pub overflow_cast-result : goal.overflow_cast-result
overflow_cast-result c = omega (arith, position_from _ c.requires)

pub bounds-words-2 : goal.bounds-words-2
bounds-words-2 c = omega (arith, position_length _ c.requires)

pub overflow_cast-result-2 : goal.overflow_cast-result-2
overflow_cast-result-2 c = omega (arith, position_to _ c.requires)

pub bounds-words-3 : goal.bounds-words-3
bounds-words-3 c = omega (arith, position_length _ c.requires)

pub bounds-words-4 : goal.bounds-words-4
bounds-words-4 c = omega (arith, position_length _ c.requires)

pub bounds-words-5 : goal.bounds-words-5
bounds-words-5 c = omega (arith, position_length _ c.requires)

pub bounds-words-6 : goal.bounds-words-6
bounds-words-6 c = omega (arith, position_length _ c.requires)

pub overflow_cast-result-3 : goal.overflow_cast-result-3
overflow_cast-result-3 c = omega (arith, position_depth _ c.requires)
