-- What `decode_at` says of the front of the bytes is the definition's front.
use native.Mathlib.Omega.{arith}
use Rattle.spellings.proofs.PastFailing.{past_none, decoded_within, past_one}
use Rattle.spellings.proofs.failing.past_failing.Goals as goal

pub returns-then-detail-eq-NO_DIGITS : goal.returns-then-detail-eq-NO_DIGITS
returns-then-detail-eq-NO_DIGITS c = past_none _ _ c.args.rest.now c.if-detail-eq-NO_DIGITS.true

pub overflow_add-result : goal.overflow_add-result
overflow_add-result c =
    omega (arith, decoded_within c.args.rest.now c.decode_at.ensures _ c.in-Char.is, c.requires)

pub returns-in-Char : goal.returns-in-Char
returns-in-Char c = past_one c.args.rest.now
    c.decode_at.ensures _ c.in-Char.is _ _ c.if-detail-eq-NO_DIGITS.false

pub returns-in-Bad : goal.returns-in-Bad
returns-in-Bad c =
    omega (
      arith,
      past_one c.args.rest.now c.decode_at.ensures _
          c.in-Bad.is c.args.detail c.args.at c.if-detail-eq-NO_DIGITS.false,
    )

pub returns-in-Cut : goal.returns-in-Cut
returns-in-Cut c =
    omega (
      arith,
      past_one c.args.rest.now c.decode_at.ensures _
          c.in-Cut.is c.args.detail c.args.at c.if-detail-eq-NO_DIGITS.false,
    )

pub returns-in-End : goal.returns-in-End
returns-in-End c =
    omega (
      arith,
      past_one c.args.rest.now c.decode_at.ensures _
          c.in-End.is c.args.detail c.args.at c.if-detail-eq-NO_DIGITS.false,
    )
