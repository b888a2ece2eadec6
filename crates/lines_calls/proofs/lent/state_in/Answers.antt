-- Words that are a state's are eight, and the first three are bytes.
use native.Mathlib.Omega.{arith}
use Rattle.lines_calls.proofs.Words.{state_is}
use Rattle.lines_calls.proofs.lent.state_in.Goals as goal

pub bounds-words-0 : goal.bounds-words-0
bounds-words-0 c = omega (arith, (state_is c.args.words.now c.requires).0)

pub overflow_cast-begun : goal.overflow_cast-begun
overflow_cast-begun c = omega (arith, (state_is c.args.words.now c.requires).1)

pub bounds-words-1 : goal.bounds-words-1
bounds-words-1 c = omega (arith, (state_is c.args.words.now c.requires).0)

pub overflow_cast-begun-2 : goal.overflow_cast-begun-2
overflow_cast-begun-2 c = omega (arith, (state_is c.args.words.now c.requires).2)

pub bounds-words-2 : goal.bounds-words-2
bounds-words-2 c = omega (arith, (state_is c.args.words.now c.requires).0)

pub overflow_cast-begun-3 : goal.overflow_cast-begun-3
overflow_cast-begun-3 c = omega (arith, (state_is c.args.words.now c.requires).3)

pub bounds-words-3 : goal.bounds-words-3
bounds-words-3 c =
    omega (arith, (state_is c.args.words.now c.requires).0)

pub bounds-words-4 : goal.bounds-words-4
bounds-words-4 c =
    omega (arith, (state_is c.args.words.now c.requires).0)

pub bounds-words-5 : goal.bounds-words-5
bounds-words-5 c =
    omega (arith, (state_is c.args.words.now c.requires).0)

pub bounds-words-6 : goal.bounds-words-6
bounds-words-6 c =
    omega (arith, (state_is c.args.words.now c.requires).0)

pub bounds-words-7 : goal.bounds-words-7
bounds-words-7 c =
    omega (arith, (state_is c.args.words.now c.requires).0)
