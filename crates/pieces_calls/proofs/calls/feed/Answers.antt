-- The invariant: from the state and the place that the loop has come to, the rest of the piece gives what all of it gives from the first,
-- and the state is within its bounds and reads on. A run that is passed keeps it (Passes), and so does a turn. The measure is what is left
-- of the piece.
use Prim.Native.Nat.{◌+◌, ◌-◌}
use mathlib.Core.Path.{refl, sym, ap, ◌∙◌, subst}
use lib.ListN.{length, drop, length-take}
use native.Mathlib.Omega.{arith}
use borrow.Author.Tests.{not-true, not-false}
use Rattle.pieces_giving.specs.Answers.{state_of}
use Rattle.pieces_turns.specs.Inner.{Sound}
use Rattle.pieces_turns.specs.Passed.{kept}
use Rattle.pieces_turns.proofs.Passes.{passes, run_within}
use Rattle.pieces_calls.proofs.Replies.{fed_on, fed_off, fed-all, answers}
use Rattle.pieces_turns.proofs.Sounds.{turn_sound}
use Rattle.pieces_turns.proofs.Told.{sane}
use Rattle.pieces_calls.proofs.calls.feed.Goals as goal

pub loop-i-init : goal.loop-i-init
loop-i-init c = (omega arith, c.requires, refl, refl)

pub ahead-run-requires : goal.ahead-run-requires
ahead-run-requires c =
    let l = c.loop-i in
    let k = sane (state_of l.marks l.buf) l.invariant.1.bounded l.invariant.1.calm in (k.numbers.small, omega (arith, k.numbers.far))

pub overflow_add-at : goal.overflow_add-at
overflow_add-at c =
    omega (
      arith,
      run_within (kept c.loop-i.marks.stage)
          c.args.piece.now c.loop-i.i c.ahead-run.result c.loop-i.invariant.0 c.ahead-run.ensures.0,
    )

pub slice_bounds-pass-start : goal.slice_bounds-pass-start
slice_bounds-pass-start c =
    omega (
      arith,
      run_within (kept c.loop-i.marks.stage) c.args.piece.now
          c.loop-i.i c.ahead-run.result c.loop-i.invariant.0 c.ahead-run.ensures.0,
    )

pub slice_bounds-pass-end : goal.slice_bounds-pass-end
slice_bounds-pass-end c =
    omega (
      arith,
      run_within (kept c.loop-i.marks.stage) c.args.piece.now
          c.loop-i.i c.ahead-run.result c.loop-i.invariant.0 c.ahead-run.ensures.0,
    )

pub pass-here-requires : goal.pass-here-requires
pass-here-requires c = (
  c.loop-i.invariant.1.full,
  omega (
    arith,
    c.ahead-run.ensures.1,
    length-take (c.loop-i.i + c.ahead-run.result - c.loop-i.i) (drop c.loop-i.i c.args.piece.now),
  ),
  omega (
    arith,
    c.ahead-run.ensures.2,
    length-take (c.loop-i.i + c.ahead-run.result - c.loop-i.i) (drop c.loop-i.i c.args.piece.now),
  ),
)

pub shape_of-text-then-at-piece : goal.shape_of-text-then-at-piece
shape_of-text-then-at-piece c = ap length c.loop-i.invariant.2

pub returns-then-at-piece : goal.returns-then-at-piece
returns-then-at-piece c =
    let l = c.loop-i in
    let there = passes l.marks l.buf l.text
    c.args.piece.now l.i c.ahead-run.result l.invariant.1 c.ahead-run.ensures _ _ c.pass-here.ensures in
    answers _ _ _ _ _ (fed-all _ c.args.piece.now (l.i + c.ahead-run.result) (omega arith) ∙ there.1 ∙ l.invariant.3) refl l.invariant.2

pub overflow_add-taken : goal.overflow_add-taken
overflow_add-taken c =
    omega (
      arith,
      run_within (kept c.loop-i.marks.stage) c.args.piece.now
          c.loop-i.i c.ahead-run.result c.loop-i.invariant.0 c.ahead-run.ensures.0,
    )

pub bounds-piece-at : goal.bounds-piece-at
bounds-piece-at c =
    omega (
      arith,
      run_within (kept c.loop-i.marks.stage) c.args.piece.now
          c.loop-i.i c.ahead-run.result c.loop-i.invariant.0 c.ahead-run.ensures.0,
    )

pub turn-turned-requires : goal.turn-turned-requires
turn-turned-requires c =
    let l = c.loop-i in
    let there = passes l.marks l.buf l.text c.args.piece.now
    l.i c.ahead-run.result l.invariant.1 c.ahead-run.ensures _ _ c.pass-here.ensures in
    there.0

pub shape_of-buf-then-not-is_more : goal.shape_of-buf-then-not-is_more
shape_of-buf-then-not-is_more c =
    c.turn-turned.auto.buf ∙ c.pass-here.auto.buf ∙ c.loop-i.invariant.1.full
    ∙ sym c.requires.full

pub shape_of-text-then-not-is_more : goal.shape_of-text-then-not-is_more
shape_of-text-then-not-is_more c = c.turn-turned.auto.text ∙ ap length
    c.loop-i.invariant.2

pub returns-then-not-is_more : goal.returns-then-not-is_more
returns-then-not-is_more c =
    let l = c.loop-i in
    let there = passes l.marks l.buf l.text c.args.piece.now l.i c.ahead-run.result
    l.invariant.1 c.ahead-run.ensures _ _ c.pass-here.ensures in
    let inside = run_within (kept c.loop-i.marks.stage)
    c.args.piece.now c.loop-i.i c.ahead-run.result c.loop-i.invariant.0 c.ahead-run.ensures.0 in
    let f = fed_off _ c.args.piece.now (l.i + c.ahead-run.result) (omega arith) _ _ _ l.text c.turn-turned.result.got
    (sym c.is_more.ensures ∙ not-true _ c.if-not-is_more.true-raw) c.turn-turned.ensures.0 c.turn-turned.ensures.1 in
    answers _ _ _ _ _ (f.0 ∙ there.1 ∙ l.invariant.3) f.1 l.invariant.2

pub loop-i-smaller : goal.loop-i-smaller
loop-i-smaller c =
    let l = c.loop-i in
    omega (arith, run_within (kept l.marks.stage) c.args.piece.now l.i c.ahead-run.result l.invariant.0 c.ahead-run.ensures.0)

pub loop-i-preserved : goal.loop-i-preserved
loop-i-preserved c =
    let l = c.loop-i in
    let there = passes l.marks l.buf l.text c.args.piece.now l.i c.ahead-run.result
    l.invariant.1 c.ahead-run.ensures _ _ c.pass-here.ensures in
    let inside = run_within (kept c.loop-i.marks.stage)
    c.args.piece.now c.loop-i.i c.ahead-run.result c.loop-i.invariant.0 c.ahead-run.ensures.0 in
    let f = fed_on _ c.args.piece.now (l.i + c.ahead-run.result) (omega arith) _ _ _ l.text c.turn-turned.result.got
    (sym c.is_more.ensures ∙ not-false _ c.if-not-is_more.false-raw) c.turn-turned.ensures.0 c.turn-turned.ensures.1 in
    (omega arith, subst (Sound _ _) (sym f.2) (turn_sound _ _ _ there.0 _ _ _ f.0), f.2 ∙ l.invariant.2, f.1 ∙ there.1 ∙ l.invariant.3)

pub returns : goal.returns
returns c = answers _ _ _ _ _
    (fed-all (state_of c.loop-i.marks c.loop-i.buf) c.args.piece.now
    c.loop-i.i c.loop-i-test.false ∙ c.loop-i.invariant.3) refl c.loop-i.invariant.2
