-- A text that has the period of its greatest suffix is moved by it; one that has not has no period of a third (Periodic).
use native.Mathlib.Omega.{arith}
use Prim.Native.Nat.{ℕ}
use mathlib.Core.Path.{subst}
use lib.ListN.{length}
use borrow.Author.Tests.{not-true, not-false}
use Rattle.byte_periods.specs.Periods.{byte, Suffixed}
use Rattle.byte_periods.proofs.Periodic.{far, begun_suffixed, no_third, turned, one_turn_less}
use Rattle.byte_periods.proofs.moved_along.Tie as tie
use Rattle.byte_periods.proofs.moved_along.Lts as lts
use Rattle.byte_periods.proofs.moved_along.Reads as reads
use Rattle.byte_periods.proofs.moved_along.Goals as goal

-- the greatest suffix of all of the text
all : (c : lts.After-grown tie.the-claims reads.Pre reads.Post) → Suffixed (byte c.args.w.now) (length c.args.w.now) c.grown-v.result.start c.grown-v.result.period (length c.args.w.now)
all c =
    let w = c.args.w.now in
    let v = c.grown-v.result in
    subst (λ (e : ℕ). Suffixed (byte w) (length w) v.start v.period e) c.grown-v.ensures.0 c.grown-v.ensures.1

pub grown-v-requires : goal.grown-v-requires
grown-v-requires c =
    let w = c.args.w.now in
    let m = c.args.m in
    let b = c.begun in
    begun_suffixed (byte w) (length w) m.kept m.start m.period b.result.start b.result.period b.result.end
    c.requires.0 c.requires.1 c.requires.2 b.ensures.0 b.ensures.1

pub repeats-requires : goal.repeats-requires
repeats-requires c = omega (arith, (all c.before).room)

pub returns-then-not-repeats : goal.returns-then-not-repeats
returns-then-not-repeats c =
    let w = c.args.w.now in
    let v = c.grown-v.result in
    let r = c.moved_far.ensures in
    let no = c.repeats.ensures.1 (not-true _ c.if-not-repeats.true-raw) in (
      far (byte w) (length w) _ _ c.requires.0 r.0 r.1 r.2 (no_third (byte w) (length w) v.start v.period (all c.before.before.before.before) no),
      λ h. absurd (omega (arith, r.0)),
    )

pub overflow_sub-n : goal.overflow_sub-n
overflow_sub-n c = omega (arith, (all c.before.before.before.before).room)

pub overflow_sub-n-2 : goal.overflow_sub-n-2
overflow_sub-n-2 c = omega (arith, (all c.before.before.before.before).room)

pub returns-then-n-v : goal.returns-then-n-v
returns-then-n-v c =
    let w = c.args.w.now in
    let v = c.grown-v.result in
    let yes = c.repeats.ensures.0 (not-false _ c.if-not-repeats.false-raw) in
    (turned (byte w) (length w) v.start v.period (all c.before.before.before.before.before) yes.1 0 (omega arith), λ h. absurd (omega arith))

pub overflow_sub-result : goal.overflow_sub-result
overflow_sub-result c = omega (arith, (all c.before.before.before.before.before).room)

pub returns : goal.returns
returns c =
    let w = c.args.w.now in
    let v = c.grown-v.result in
    let yes = c.repeats.ensures.0 (not-false _ c.if-not-repeats.false-raw) in (
      turned (byte w) (length w) v.start v.period (all c.before.before.before.before.before) yes.1 _ (omega arith),
      λ h. one_turn_less (byte w) (length w) v.start v.period (all c.before.before.before.before.before) yes.1 yes.0 (omega (arith, c.if-n-v.false, (all c.before.before.before.before.before).room)),
    )
