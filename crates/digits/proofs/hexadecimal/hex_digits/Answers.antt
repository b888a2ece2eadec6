-- v is the value of the digits passed, which are good and hold in 32 bits, so the digits from each place on after v say what
-- all of them say.
use Rattle.digits.proofs.HexDigits.{hex_end, hex_bad, hex_over, hex_more}
use mathlib.Core.Path.{refl, sym, ◌∙◌}
use native.Mathlib.Omega.{arith}
use Rattle.digits.proofs.hexadecimal.hex_digits.Goals as goal

pub loop-i-init : goal.loop-i-init
loop-i-init c = (refl, omega arith)

pub returns-then-d-ge-RADIX : goal.returns-then-d-ge-RADIX
returns-then-d-ge-RADIX c =
    hex_bad _ _ _ _ c.loop-i-test.true c.digit-d.ensures c.if-d-ge-RADIX.true
    ∙ sym c.loop-i.invariant.0

pub returns-then-next-ge-OVERFLOW_FROM : goal.returns-then-next-ge-OVERFLOW_FROM
returns-then-next-ge-OVERFLOW_FROM c =
    hex_over _ _ _ _ c.loop-i-test.true c.digit-d.ensures c.if-d-ge-RADIX.false c.if-next-ge-OVERFLOW_FROM.true
    ∙ sym c.loop-i.invariant.0

pub loop-i-preserved : goal.loop-i-preserved
loop-i-preserved c = (
  c.loop-i.invariant.0
      ∙ hex_more _ _ _ _ c.loop-i-test.true
      c.digit-d.ensures c.if-d-ge-RADIX.false c.if-next-ge-OVERFLOW_FROM.false,
  c.if-next-ge-OVERFLOW_FROM.false,
)

pub returns : goal.returns
returns c = hex_end _ _ _ c.loop-i-test.false ∙ sym c.loop-i.invariant.0
