-- A word of 32 bits fits a size.
use native.Mathlib.Omega.{arith}
use Rattle.names.proofs.layout.word.Goals as goal

pub overflow_cast-result : goal.overflow_cast-result
overflow_cast-result c = omega (arith, c.type_inv.words c.args.i)
