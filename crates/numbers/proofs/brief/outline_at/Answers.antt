-- Each field is what its callee answers, and each place lies in the text, so that the value has no more digits than a short text.
use Rattle.numbers.proofs.Outlines.{run_in, sign_in, fraction_end_in, value_short}
use Rattle.digits.proofs.DecimalRuns.{ten_some}
use native.Mathlib.Omega.{arith}
use Rattle.numbers.proofs.brief.outline_at.Goals as goal

pub decimal_run-run-requires : goal.decimal_run-run-requires
decimal_run-run-requires c = (c.requires.0, ten_some _)

pub returns : goal.returns
returns c =
    let run = c.decimal_run-run.ensures in
    let starts = sign_in c.args.t.now c.args.from c.requires.1 in
    let ends = run_in c.args.t.now c.sign_end-start.result (omega (arith, c.sign_end-start.ensures)) in
    let last = fraction_end_in c.args.t.now c.decimal_run-run.result.end (omega (arith, run.0)) in (
      (c.starts_at-negative.ensures, c.sign_end-start.ensures, run.0, c.fraction_end-end.ensures, run.1),
      value_short _ _ _ c.requires.0 (omega (arith, run.0)) run.2,
      omega (arith, c.fraction_end-end.ensures, last.0),
      omega (arith, c.fraction_end-end.ensures, last.1),
    )
