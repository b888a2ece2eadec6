-- The groups stored are the first of the number's (`Putting`).
use mathlib.Core.Path.{subst}
use Prim.Native.Nat.{ℕ, ◌-◌}
use native.Mathlib.Omega.{arith}
use lib.ListN.{length-set}
use Rattle.items_files.proofs.Groups.{groups_some, Putting, putting_start, putting_room, putting_length, putting_turn, putting_last, putting_end}
use Rattle.items_files.proofs.storing.put_groups.Goals as goal

pub overflow_sub-last : goal.overflow_sub-last
overflow_sub-last c = omega (arith, groups_some 4 c.args.n, c.group_count-count.ensures)

pub loop-i-init : goal.loop-i-init
loop-i-init c =
    putting_start c.args.n c.args.out.now c.ranges.n.fits

pub bounds-out-i : goal.bounds-out-i
bounds-out-i c =
    omega (arith, putting_room c.requires c.loop-i.invariant, putting_length c.requires c.loop-i.invariant)

pub loop-i-preserved : goal.loop-i-preserved
loop-i-preserved c =
    putting_turn c.requires c.loop-i.invariant (omega (arith, c.group_count-count.ensures))

pub overflow_cast-out-2 : goal.overflow_cast-out-2
overflow_cast-out-2 c =
    omega (arith, putting_last c.requires c.loop-i.invariant (omega (arith, c.group_count-count.ensures)))

pub bounds-out-last : goal.bounds-out-last
bounds-out-last c =
    omega (arith, c.group_count-count.ensures, groups_some 4 c.args.n, c.requires, putting_length c.requires c.loop-i.invariant)

pub shape_of-out : goal.shape_of-out
shape_of-out c =
    simp length-set (putting_length c.requires c.loop-i.invariant)

pub returns : goal.returns
returns c =
    let count : ℕ = c.group_count-count.result in
    let stood : Putting c.args.n c.args.out.now c.loop-i.out c.loop-i.rest (count - 1) =
    subst (λ (k : ℕ). Putting c.args.n c.args.out.now c.loop-i.out c.loop-i.rest k) (omega arith) c.loop-i.invariant in
    (c.group_count-count.ensures, putting_end c.requires stood (omega (arith, c.group_count-count.ensures)))
