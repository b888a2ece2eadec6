-- The run passes the bytes before the place and, where all of them are plain, those past it (Blocks).
use native.Mathlib.Omega.{arith}
use Prim.Native.Nat.{◌*◌}
use Rattle.byte_runs.specs.Runs.{plain}
use Rattle.byte_runs.proofs.Blocks.{run_step}
use Rattle.byte_runs.proofs.runs.plain_part.Goals as goal

pub returns-then-all_plain : goal.returns-then-all_plain
returns-then-all_plain c =
    let a = c.args in (
      omega arith,
      omega arith,
      run_step (plain a.a a.b) a.t.now a.at a.n (2 * a.n) c.requires.1.0 (omega arith) c.all_plain.ensures c.if-all_plain.true,
    )
