-- What is left of the hash stays the same while the bytes before the place are taken in one by one.
use native.Mathlib.Omega.{arith}
use mathlib.Core.Path.{refl, sym, ◌∙◌}
use Rattle.names.proofs.Laws.{rest_more, rest_all}
use Rattle.names.proofs.finding.rest.Goals as goal

pub loop-i-init : goal.loop-i-init
loop-i-init c = (c.requires.start_lt_hashes, refl)

pub turn-h-requires : goal.turn-h-requires
turn-h-requires c = record {
  h_lt_hashes = c.loop-i.invariant.0;
  x_lt_hashes = omega (arith, c.byte.ensures.1);
}

pub loop-i-preserved : goal.loop-i-preserved
loop-i-preserved c = (
  c.turn-h.ensures.1,
  c.loop-i.invariant.1 ∙ rest_more _ _ _ c.loop-i-test.true ∙ rw (c.turn-h.ensures.0, c.byte.ensures.0),
)

pub returns : goal.returns
returns c = sym (c.loop-i.invariant.1 ∙ rest_all _ _ _ c.loop-i-test.false)
