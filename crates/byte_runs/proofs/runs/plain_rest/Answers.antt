-- The run from the block before on passes the place, and what the half and the quarter reach (Blocks).
use native.Mathlib.Omega.{arith}
use Prim.Native.Nat.{◌-◌}
use Rattle.byte_runs.specs.Runs.{plain, block, half, quarter}
use Rattle.byte_runs.proofs.Blocks.{run_to, run_before}
use Rattle.byte_runs.proofs.runs.plain_rest.Goals as goal

pub plain_part-i-requires : goal.plain_part-i-requires
plain_part-i-requires c =
    let a = c.args in (
      omega arith,
      (omega arith, run_before (plain a.a a.b) a.t.now (a.at - block) a.at half (omega arith) (omega arith)),
    )

pub plain_part-j-requires : goal.plain_part-j-requires
plain_part-j-requires c =
    let a = c.args in
    let i = c.plain_part-i.result in
    let e = run_to (plain a.a a.b) a.t.now (a.at - block) a.at (omega arith) (omega arith) in (
      omega arith,
      (omega arith, run_before (plain a.a a.b) a.t.now (a.at - block) i quarter (omega arith) (omega (arith, e))),
    )
