-- Whether a character is cut; else the items of what the item turned out to be.
use mathlib.Core.Path.{refl, sym, subst}
use lib.Seq.{length-take-le}
use lib.Dec.{eqb}
use native.Mathlib.Omega.{arith}
use borrow.Author.Tests.{eq-eqb, ne_eqb}
use Rattle.pieces_giving.specs.Answers.{state_of}
use Rattle.pieces_giving.specs.Inner.{OutcomeFits}
use Rattle.pieces_calls.proofs.Replies.{reply_yes, reply_no, end_turn}
use Rattle.pieces_turns.proofs.Sounds.{finish_fits}
use Rattle.pieces_calls.proofs.calls.end_item.Goals as goal

pub returns-then-m-ne0 : goal.returns-then-m-ne0
returns-then-m-ne0 c =
    reply_no c.args.text.now (eqb c.args.m.part.count 0) _ _
    (ne_eqb _ _ c.if-m-ne0.true) (rw (c.at_end.ensures, c.stop.ensures) (refl, refl))

pub slice_bounds-finish-end-2 : goal.slice_bounds-finish-end-2
slice_bounds-finish-end-2 c =
    sym (length-take-le c.args.m.len c.args.buf.now (omega arith))

pub ends-requires : goal.ends-requires
ends-requires c = (
  c.requires.0,
  subst OutcomeFits (sym c.finish-what.ensures) (finish_fits (state_of c.args.m c.args.buf.now)
      c.requires.0.full c.requires.0.small c.requires.0.some c.args.phase c.requires.1),
  tt,
)

pub returns : goal.returns
returns c =
    reply_yes c.args.text.now
    (eqb c.args.m.part.count 0) _ _ (eq-eqb _ _ c.if-m-ne0.false)
    (let g = rw c.finish-what.ensures at c.ends.ensures in
    rw c.at_end-2.ensures (end_turn _ _ _ c.args.text.now c.ends.result.got _ g.0 g.1))
