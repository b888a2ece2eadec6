-- The invariant: the bytes that are still wanted are left.
use native.Mathlib.Nat.{sub-zero}
use native.Mathlib.Omega.{arith}
use Prim.Native.Nat.{◌+◌, ◌-◌}
use mathlib.Core.Path.{◌≡◌}
use Rattle.findings_render_parts.proofs.OneByOne.{left_start, left_on, left_end, run_on, run_end}
use Rattle.findings_render_parts.proofs.laying.put_run.Goals as goal

pub loop-init : goal.loop-init
loop-init c = rw sub-zero left_start

pub loop-preserved : goal.loop-preserved
loop-preserved c =
    let e : c.args.n - c.loop.counter - 1 ≡ c.args.n - (c.loop.counter + 1) = omega arith in
    left_on c.loop.invariant (rw e at (run_on (c.args.n - c.loop.counter) c.args.b (omega arith))) c.put_byte-next.ensures

pub shape_of-out : goal.shape_of-out
shape_of-out c = c.loop.invariant.room

pub returns : goal.returns
returns c =
    left_end c.loop.invariant (run_end (c.args.n - c.loop.counter) c.args.b (omega arith))
