-- The invariant: the spot feeds on as the first. A run and a pair keep it; the measure is what is left of the piece.
use native.Mathlib.Omega.{arith}
use borrow.Author.Tests.{not-false}
use mathlib.Core.Path.{sym, ◌∙◌}
use Rattle.pieces_spots.proofs.Moves.{stay, along}
use Rattle.pieces_spots.proofs.pairs.run_on.Goals as goal

pub loop-ran-init : goal.loop-ran-init
loop-ran-init c = (c.requires, stay c.args.s c.args.buf.now c.args.piece.now)

pub run-ran-requires : goal.run-ran-requires
run-ran-requires c = c.loop-ran.invariant.0

pub shape_of-buf-then-ran-eq-IN_RUN : goal.shape_of-buf-then-ran-eq-IN_RUN
shape_of-buf-then-ran-eq-IN_RUN c = c.run-ran.ensures.0.full ∙ sym c.requires.full

pub returns-then-ran-eq-IN_RUN : goal.returns-then-ran-eq-IN_RUN
returns-then-ran-eq-IN_RUN c = (
  c.run-ran.ensures.0,
  along c.args.piece.now _ _ _ _ _ _ c.loop-ran.invariant.1
      c.run-ran.ensures.1,
)

pub has_pair-requires : goal.has_pair-requires
has_pair-requires c = c.run-ran.ensures.0.inside

pub shape_of-buf-then-not-has_pair : goal.shape_of-buf-then-not-has_pair
shape_of-buf-then-not-has_pair c = c.run-ran.ensures.0.full ∙ sym c.requires.full

pub returns-then-not-has_pair : goal.returns-then-not-has_pair
returns-then-not-has_pair c = (
  c.run-ran.ensures.0,
  along c.args.piece.now _ _ _ _ _ _
      c.loop-ran.invariant.1 c.run-ran.ensures.1,
)

pub pass_pair-t-requires : goal.pass_pair-t-requires
pass_pair-t-requires c = (c.run-ran.ensures.0, c.has_pair.ensures (not-false _ c.if-not-has_pair.false-raw))

pub loop-ran-smaller : goal.loop-ran-smaller
loop-ran-smaller c = omega (
  arith,
  c.run-ran.ensures.2,
  c.pass_pair-t.ensures.2,
  (c.has_pair.ensures (not-false _ c.if-not-has_pair.false-raw)).inside,
)

pub loop-ran-preserved : goal.loop-ran-preserved
loop-ran-preserved c =
    let piece = c.args.piece.now in
    let ran = along piece _ _ _ _ _ _ c.loop-ran.invariant.1 c.run-ran.ensures.1 in
    let last = c.pass_pair-t in
    (last.ensures.0, along piece _ _ _ _ _ _ ran last.ensures.1)
