-- The widths are told apart as `utf8` does, and each store lays one byte more.
use mathlib.Core.Path.{refl}
use lib.ListN.{length-set}
use native.Mathlib.Omega.{arith}
use Rattle.pieces_giving.proofs.Laid.{laid_one, laid_two, laid_three, laid_four}
use Rattle.chars.proofs.Width.{wide, width_two, width_three, width_four}
use Rattle.pieces_giving.proofs.lay.lay.Goals as goal

pub bounds-buf-at : goal.bounds-buf-at
bounds-buf-at c = omega (arith, wide c.args.c)

pub shape_of-buf-then-c-lt-TWO_FROM : goal.shape_of-buf-then-c-lt-TWO_FROM
shape_of-buf-then-c-lt-TWO_FROM c = simp length-set

pub returns-then-c-lt-TWO_FROM : goal.returns-then-c-lt-TWO_FROM
returns-then-c-lt-TWO_FROM c =
    laid_one c.args.buf.now c.args.at c.args.c (omega arith) c.if-c-lt-TWO_FROM.true

pub bounds-buf-at-then-c-lt-THREE_FROM : goal.bounds-buf-at-then-c-lt-THREE_FROM
bounds-buf-at-then-c-lt-THREE_FROM c = omega (arith, wide c.args.c)

pub bounds-buf-at-then-c-lt-THREE_FROM-2 : goal.bounds-buf-at-then-c-lt-THREE_FROM-2
bounds-buf-at-then-c-lt-THREE_FROM-2 c = simp length-set (omega (arith, width_two c.args.c c.if-c-lt-TWO_FROM.false))

pub shape_of-buf-then-c-lt-THREE_FROM : goal.shape_of-buf-then-c-lt-THREE_FROM
shape_of-buf-then-c-lt-THREE_FROM c = simp length-set

pub returns-then-c-lt-THREE_FROM : goal.returns-then-c-lt-THREE_FROM
returns-then-c-lt-THREE_FROM c =
    laid_two c.args.buf.now
    c.args.at c.args.c (omega arith) _ _ refl c.later.ensures c.if-c-lt-TWO_FROM.false c.if-c-lt-THREE_FROM.true

pub bounds-buf-at-then-c-lt-FOUR_FROM : goal.bounds-buf-at-then-c-lt-FOUR_FROM
bounds-buf-at-then-c-lt-FOUR_FROM c = omega (arith, wide c.args.c)

pub bounds-buf-at-then-c-lt-FOUR_FROM-2 : goal.bounds-buf-at-then-c-lt-FOUR_FROM-2
bounds-buf-at-then-c-lt-FOUR_FROM-2 c = simp length-set (omega (arith, width_three c.args.c c.if-c-lt-THREE_FROM.false))

pub bounds-buf-at-then-c-lt-FOUR_FROM-3 : goal.bounds-buf-at-then-c-lt-FOUR_FROM-3
bounds-buf-at-then-c-lt-FOUR_FROM-3 c = simp length-set (omega (arith, width_three c.args.c c.if-c-lt-THREE_FROM.false))

pub shape_of-buf-then-c-lt-FOUR_FROM : goal.shape_of-buf-then-c-lt-FOUR_FROM
shape_of-buf-then-c-lt-FOUR_FROM c = simp length-set

pub returns-then-c-lt-FOUR_FROM : goal.returns-then-c-lt-FOUR_FROM
returns-then-c-lt-FOUR_FROM c =
    laid_three c.args.buf.now c.args.at c.args.c
    (omega arith) _ _ _ refl c.later-then-c-lt-FOUR_FROM.ensures c.later-then-c-lt-FOUR_FROM-2.ensures c.if-c-lt-THREE_FROM.false c.if-c-lt-FOUR_FROM.true

pub bounds-buf-at-2 : goal.bounds-buf-at-2
bounds-buf-at-2 c = omega (arith, wide c.args.c)

pub bounds-buf-at-3 : goal.bounds-buf-at-3
bounds-buf-at-3 c = simp length-set (omega (arith, width_four c.args.c c.if-c-lt-FOUR_FROM.false))

pub bounds-buf-at-4 : goal.bounds-buf-at-4
bounds-buf-at-4 c = simp length-set (omega (arith, width_four c.args.c c.if-c-lt-FOUR_FROM.false))

pub bounds-buf-at-5 : goal.bounds-buf-at-5
bounds-buf-at-5 c = simp length-set (omega (arith, width_four c.args.c c.if-c-lt-FOUR_FROM.false))

pub shape_of-buf : goal.shape_of-buf
shape_of-buf c = simp length-set

pub returns : goal.returns
returns c =
    laid_four c.args.buf.now c.args.at c.args.c (omega arith) _ _ _ _ refl
    c.later-2.ensures c.later-3.ensures c.later-4.ensures c.if-c-lt-FOUR_FROM.false
