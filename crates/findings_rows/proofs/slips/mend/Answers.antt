-- The search says where the closing quote stands; each of its answers is a case of the definition.
use native.Mathlib.Omega.{arith}
use Rattle.findings_rows.proofs.Mends.{behind_inside, mend_behind, mend_nowhere}
use Rattle.findings_rows.proofs.slips.mend.Goals as goal

pub overflow_cast-e : goal.overflow_cast-e
overflow_cast-e c =
    omega (
      arith,
      c.requires,
      behind_inside c.args.source.now c.args.r c.args.after c.quote_of-quote.result
          c.rest_from.result
          c.past_quote.result c.quote_of-quote.ensures
          c.rest_from.ensures c.past_quote.ensures
          c.in-Some.e c.in-Some.is c.requires.1,
    )

pub returns-in-Some : goal.returns-in-Some
returns-in-Some c =
    mend_behind c.args.source.now c.args.r c.args.after c.quote_of-quote.result c.rest_from.result
    c.past_quote.result c.quote_of-quote.ensures c.rest_from.ensures c.past_quote.ensures
    c.in-Some.e c.in-Some.is c.ended.result c.spot_at.result c.ended.ensures c.spot_at.ensures

pub returns-in-None : goal.returns-in-None
returns-in-None c =
    mend_nowhere c.args.source.now c.args.r c.args.after c.quote_of-quote.result
    c.rest_from.result
    c.past_quote.result c.quote_of-quote.ensures
    c.rest_from.ensures c.past_quote.ensures
    c.in-None.is c.unclosed.result c.spot_at-in-None.result c.unclosed.ensures c.spot_at-in-None.ensures
