-- What is left of the hash stays the same while four bytes a turn are taken in; fewer than four are the rest's.
use native.Mathlib.Omega.{arith}
use mathlib.Core.Path.{refl, sym, ◌∙◌}
use Rattle.names.proofs.Laws.{mix_more, mix-rest}
use Rattle.names.proofs.finding.hash.Goals as goal

pub loop-i-init : goal.loop-i-init
loop-i-init c = (omega arith, omega arith, refl)

pub turn-h-requires : goal.turn-h-requires
turn-h-requires c = record {
  h_lt_hashes = c.loop-i.invariant.1;
  x_lt_hashes = c.four.ensures.1;
}

pub loop-i-preserved : goal.loop-i-preserved
loop-i-preserved c = (
  omega (arith, c.loop-i-test.true),
  c.turn-h.ensures.1,
  c.loop-i.invariant.2 ∙ mix_more c.loop-i.h c.args.name.now
      c.loop-i.i (omega (arith, c.loop-i-test.true)) ∙ rw (c.turn-h.ensures.0, c.four.ensures.0),
)

pub rest-requires : goal.rest-requires
rest-requires c = record {
  from_in_bounds = c.loop-i.invariant.0;
  start_lt_hashes = c.loop-i.invariant.1;
}

pub returns : goal.returns
returns c =
    c.rest.ensures ∙ sym (c.loop-i.invariant.2
    ∙ mix-rest c.loop-i.h c.args.name.now c.loop-i.i (omega (arith, c.loop-i-test.false)))
