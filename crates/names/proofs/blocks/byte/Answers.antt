-- A byte is below 256.
use native.Mathlib.Omega.{arith}
use mathlib.Core.Path.{refl}
use Rattle.names.proofs.blocks.byte.Goals as goal

pub overflow_cast-result : goal.overflow_cast-result
overflow_cast-result c = omega (arith, c.type_inv.name c.args.i)

pub returns : goal.returns
returns c = (refl, omega (arith, c.type_inv.name c.args.i))
