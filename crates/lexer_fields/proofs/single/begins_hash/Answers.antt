-- Past the end there is no byte.
use mathlib.Core.Path.{sym, ap}
use Prim.Native.Nat.{ℕ}
use lib.Dec.{eqb}
use native.Mathlib.Omega.{arith}
use Rattle.laws.specs.Quoted.{code}
use Rattle.lexer_fields.proofs.Cuts.{get_d_end}
use Rattle.lexer_fields.proofs.single.begins_hash.Goals as goal

pub returns-then-part-eq0 : goal.returns-then-part-eq0
returns-then-part-eq0 c = sym (ap (λ (x : ℕ). eqb x (code "#")) (get_d_end c.args.part.now 0 (omega (arith, c.if-part-eq0.true))))

pub bounds-part-0 : goal.bounds-part-0
bounds-part-0 c = omega (arith, c.if-part-eq0.false)
