-- The loop keeps: up to the place the delimiter stands nowhere, some of its bytes stand at the place, and their greatest suffix is known (Linear).
use native.Mathlib.Omega.{arith}
use Prim.Native.Nat.{◌+◌, ◌≤◌, ◌<◌}
use mathlib.Core.Path.{◌≡◌, sym, ◌∙◌}
use lib.ListN.{length}
use Rattle.items.specs.Readers.{unreturned}
use Rattle.steps.proofs.Linear.{size, stays_here, stays_there, as_near, as_few, clear_on, stood}
use Rattle.steps.proofs.search.linear_end.Tie as tie
use Rattle.steps.proofs.search.linear_end.Lts as lts
use Rattle.steps.proofs.search.linear_end.Reads as reads
use Rattle.steps.proofs.search.linear_end.Goals as goal

-- there is room for a delimiter
room : (c : lts.After-compared tie.the-claims reads.Pre reads.Post goal.the-invariant-loop-at goal.the-decreases-loop-at) → c.loop-at.at + c.args.n ≤ length c.args.s.now
room c = omega (arith, c.loop-at.invariant.1, c.loop-at-test.true)

-- so many of its bytes stand at the place, which are not all
less : (c : lts.After-compared tie.the-claims reads.Pre reads.Post goal.the-invariant-loop-at goal.the-decreases-loop-at) → (c.compared-known.result.count ≡ c.args.n → ⊥) → c.compared-known.result.count < length (unreturned c.args.line.now)
less c left = omega (arith, left, c.requires.1, c.compared-known.ensures.0.knows.begun.few)

-- the place moved to
near : (c : lts.After-moved_along tie.the-claims reads.Pre reads.Post goal.the-invariant-loop-at goal.the-decreases-loop-at) → c.loop-at.at + c.moved_along-m.result.by ≤ length c.args.s.now
near c =
    let l = c.loop-at in
    let f = c.args in
    let e = c.compared-known.ensures.0 in
    let few = less c.before.before.before.before.before c.if-known-n.false in
    let r = room c.before.before.before.before.before in
    let most = e.no_more in
    let n = c.requires.1 in
    let m = c.moved_along-m in
    omega (
      arith,
      as_near (unreturned f.line.now) f.s.now l.at c.compared-known.result.off (omega arith) e.stands (omega arith) m.result.by
          m.result.kept m.ensures.0,
    )

-- the byte behind those that stand at the place
behind : (c : lts.Else1 tie.the-claims reads.Pre reads.Post goal.the-invariant-loop-at goal.the-decreases-loop-at) → c.loop-at.at + c.compared-known.result.off + 1 ≤ length c.args.s.now
behind c =
    omega (arith, room c.before.before, less c.before.before c.if-known-n.false, c.compared-known.ensures.0.no_more, c.requires.1)

pub loop-at-init : goal.loop-at-init
loop-at-init c =
    let p = c.requires in (
      omega arith,
      p.0,
      p.2,
      p.3,
      omega arith,
      λ q h. absurd (omega arith),
      λ h. absurd (omega arith),
      λ k h l. absurd (omega arith),
    )

pub overflow_sub-s : goal.overflow_sub-s
overflow_sub-s c = c.loop-at.invariant.1

pub compared-known-requires : goal.compared-known-requires
compared-known-requires c =
    let i = c.loop-at.invariant in
    let p = c.requires in (
      omega (arith, p.1, i.1, c.loop-at-test.true),
      i.2,
      i.3,
      i.4,
      λ q h. i.5 q h ∙ sym (i.3.begun.same q (omega (arith, h, i.4))),
    )

pub overflow_add-result : goal.overflow_add-result
overflow_add-result c = omega (arith, room c.before.before.before)

pub returns-then-known-n : goal.returns-then-known-n
returns-then-known-n c =
    let p = c.requires in
    (room c.before.before.before, λ j h m. c.loop-at.invariant.7 j h (omega (arith, m, p.1)))

pub overflow_add-end : goal.overflow_add-end
overflow_add-end c = omega (arith, behind c.before.before)

pub overflow_add-end-in-loop-at : goal.overflow_add-end-in-loop-at
overflow_add-end-in-loop-at c = omega (arith, behind c.before.before)

pub slice_bounds-moved_along-end : goal.slice_bounds-moved_along-end
slice_bounds-moved_along-end c = omega (arith, behind c.before.before)

pub moved_along-m-requires : goal.moved_along-m-requires
moved_along-m-requires c =
    let l = c.loop-at in
    let f = c.args in
    let e = c.compared-known.ensures.0 in
    let few = less c.before.before.before.before.before c.if-known-n.false in
    let r = room c.before.before.before.before.before in
    let d = unreturned f.line.now in
    let off = c.compared-known.result.off in
    let most = e.no_more in
    let n = c.requires.1 in
    let inside : l.at + off + 1 ≤ length f.s.now = omega arith in
    let kept = c.compared-known.ensures.1 in (
      omega (arith, size d f.s.now l.at off inside e.stands (omega arith)),
      omega (arith, kept, size d f.s.now l.at off inside e.stands (omega arith)),
      stays_here d f.s.now l.at off inside e.stands (omega arith) l.m.kept l.m.start l.m.period kept l.invariant.6,
    )

pub overflow_add-at : goal.overflow_add-at
overflow_add-at c = omega (arith, near c.before.before)

pub loop-at-smaller : goal.loop-at-smaller
loop-at-smaller c = omega (arith, near c.before.before, c.moved_along-m.ensures.0.some)

pub loop-at-preserved : goal.loop-at-preserved
loop-at-preserved c =
    let l = c.loop-at in
    let f = c.args in
    let e = c.compared-known.ensures.0 in
    let few = less c.before.before.before.before.before.before.before c.if-known-n.false in
    let r = room c.before.before.before.before.before.before.before in
    let d = unreturned f.line.now in
    let s = f.s.now in
    let off = c.compared-known.result.off in
    let most = e.no_more in
    let n = c.requires.1 in
    let inside : l.at + off + 1 ≤ length s = omega arith in
    let m = c.moved_along-m.result in
    let moves = c.moved_along-m.ensures in (
      omega (arith, l.invariant.0),
      near c.before.before,
      few,
      e.knows,
      omega (arith, (as_few d s l.at off inside e.stands (omega arith) m.by m.kept moves.0).0),
      stood d s l.at off inside e.stands (omega arith) m.by m.kept moves.0,
      stays_there d s l.at off inside e.stands (omega arith) m.by m.kept moves.0 m.start m.period moves.1,
      clear_on d s l.at off inside e.stands (omega arith) m.by m.kept moves.0 f.from l.invariant.7 (e.missed few),
    )

pub returns : goal.returns
returns c =
    let i = c.loop-at.invariant in
    (omega arith, λ k h m. i.7 k h (omega (arith, m, c.requires.1, i.1, c.loop-at-test.false)))
