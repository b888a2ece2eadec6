-- Four stores from the front on.
use native.Mathlib.Omega.{arith}
use mathlib.Core.List.{[], ◌∷◌}
use lib.ListN.{length-set}
use lib.Seq.{sets-eq}
use Rattle.lexer_fields.proofs.rows.put_row.Goals as goal

pub bounds-rows-1 : goal.bounds-rows-1
bounds-rows-1 c = simp length-set (omega arith)

pub bounds-rows-2 : goal.bounds-rows-2
bounds-rows-2 c = simp length-set (omega arith)

pub returns : goal.returns
returns c = sets-eq (c.args.first ∷ c.args.byte ∷ c.args.mark ∷ c.args.place ∷ []) c.args.rows.now 0 (omega arith)
