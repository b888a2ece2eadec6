-- The loop keeps: what is left to store at place i leads to the memory that all starts lead to (`Storing`).
use native.Mathlib.Omega.{arith}
use Prim.Native.Nat.{◌≤◌}
use mathlib.Core.Path.{◌∙◌}
use lib.ListN.{length, set, length-set}
use Rattle.lines_calls.proofs.Stored.{storing_start, storing_then, storing_fits, stored_all, stored_count, first_fits}
use Rattle.lines_calls.proofs.building.put.Goals as goal

pub loop-i-init : goal.loop-i-init
loop-i-init c = (omega arith, storing_start c.args.text.now (set c.args.index.now 0 0) 1 0)

pub put_block-n-requires : goal.put_block-n-requires
put_block-n-requires c = (
  omega arith,
  c.requires.0,
  storing_fits c.args.text.now (set c.args.index.now 0 0) 1 0
      c.loop-i.n c.loop-i.i c.loop-i.invariant.1 (first_fits c.args.text.now c.args.index.now c.requires.1),
)

pub loop-i-preserved : goal.loop-i-preserved
loop-i-preserved c = (
  omega arith,
  storing_then c.args.text.now
      c.loop-i.invariant.1 c.put_block-n.ensures,
)

pub put_bytes-requires : goal.put_bytes-requires
put_bytes-requires c = (
  c.loop-i.invariant.0,
  omega arith,
  c.requires.0,
  storing_fits c.args.text.now (set c.args.index.now 0 0) 1 0
      c.loop-i.n c.loop-i.i c.loop-i.invariant.1 (first_fits c.args.text.now c.args.index.now c.requires.1),
)

pub shape_of-index : goal.shape_of-index
shape_of-index c = c.put_bytes.ensures.size ∙ c.loop-i.invariant.1.size
    ∙ length-set c.args.index.now 0 0

pub returns : goal.returns
returns c =
    let a = c.args in
    let g = storing_then a.text.now c.loop-i.invariant.1 c.put_bytes.ensures in
    let h : length a.text.now ≤ length a.text.now = omega arith in (
      stored_count a.text.now (set a.index.now 0 0) c.put_bytes.result (length a.text.now) h g,
      stored_all a.text.now a.index.now
          c.put_bytes.result (length a.text.now) c.requires.1 h g,
    )
