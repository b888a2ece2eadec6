-- The loop keeps: what is left to store at place i leads to the same memory (`Storing`).
use native.Mathlib.Omega.{arith}
use Prim.Native.Nat.{ℕ, ◌<◌}
use mathlib.Core.Path.{◌≡◌, subst}
use lib.ListN.{length}
use Rattle.lines_calls.specs.Left.{Storing}
use Rattle.lines_calls.proofs.Stored.{storing_start, storing_hit, storing_miss, storing_room}
use Rattle.lines_calls.proofs.building.put_bytes.Lts as lts
use Rattle.lines_calls.proofs.building.put_bytes.Reads as reads
use Rattle.lines_calls.proofs.building.put_bytes.Goals as goal
use Rattle.lines_calls.proofs.building.put_bytes.Goals.{then-text-i-eq10, else-text-i-eq10}

-- a start that is left fits
room : (c : lts.Then1 reads.Pre reads.Post goal.the-invariant-loop-i goal.the-decreases-loop-i) → c.loop-i.k < length c.loop-i.index
room c =
    let a = c.args in
    let l = c.loop-i in
    storing_room a.text.now a.index.now a.n a.from l.k l.i l.invariant c.requires.3 (omega arith) c.if-text-i-eq10.true

pub loop-i-init : goal.loop-i-init
loop-i-init c = storing_start c.args.text.now c.args.index.now c.args.n c.args.from

pub offset_bounds-index-k : goal.offset_bounds-index-k
offset_bounds-index-k c = omega (arith, room c.before)

pub bounds-index-k : goal.bounds-index-k
bounds-index-k c = room c.before

pub overflow_add-k : goal.overflow_add-k
overflow_add-k c = omega (arith, room c.before)

pub loop-i-preserved : goal.loop-i-preserved
loop-i-preserved c = let a = c.args in
    let l = c.loop-i in
    let h : l.i < length a.text.now = omega arith in
    elim c.if-text-i-eq10.branch [
      | then-text-i-eq10 w ↦ rw (w.index-is, w.k-is) (storing_hit a.text.now a.index.now a.n a.from l.k l.i l.invariant h w.if-text-i-eq10.true)
      | else-text-i-eq10 w ↦ rw (w.index-is, w.k-is) (storing_miss a.text.now a.index.now a.n a.from l.k l.i l.invariant h w.if-text-i-eq10.false)
    ]

pub shape_of-index : goal.shape_of-index
shape_of-index c = c.loop-i.invariant.size

pub returns : goal.returns
returns c =
    let l = c.loop-i in let e : l.i ≡ c.args.to = omega arith in subst
    (λ (i : ℕ). Storing c.args.text.now c.args.index.now c.args.n c.args.from l.index l.k i) e l.invariant
