use mathlib.Core.Path.{sym, ◌∙◌}
use native.Mathlib.Omega.{arith}
use Rattle.items_exports.proofs.Back.{fit_fails, fit_earlier, fit_none}
use Rattle.items_exports.proofs.records.mihadrena_records_fit.Goals as goal

pub returns-then-not-record_fits : goal.returns-then-not-record_fits
returns-then-not-record_fits c =
    fit_fails c.args.records.now c.args.source c.args.text _ (omega arith) (cc) ∙ c.loop-p.invariant.1

pub loop-p-preserved : goal.loop-p-preserved
loop-p-preserved c = (
  omega (arith, c.loop-p.invariant.0),
  fit_earlier c.args.records.now c.args.source c.args.text c.loop-p.p c.loop-p-test.true
      (sym c.record_fits.ensures ∙ c.if-not-record_fits.false) ∙ c.loop-p.invariant.1,
)

pub returns : goal.returns
returns c =
    fit_none c.args.records.now c.args.source c.args.text c.loop-p.p (omega (arith, c.loop-p-test.false)) ∙ c.loop-p.invariant.1
