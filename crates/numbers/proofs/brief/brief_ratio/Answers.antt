-- Digits, a slash, and digits to the end of the text that do not begin with zero; both are short, so that each value fits.
use Rattle.numbers.proofs.Outlines.{run_in, value_short, ratio_told}
use Rattle.digits.specs.Digits.{short}
use Rattle.digits.proofs.DecimalRuns.{ten_some, short-top}
use Prim.Native.Nat.{◌+◌}
use mathlib.Core.Path.{refl}
use mathlib.Core.Bool.{false}
use mathlib.Core.Logic.{inl}
use native.Mathlib.Omega.{arith}
use Rattle.numbers.proofs.brief.brief_ratio.Goals as goal

pub decimal_run-run-requires : goal.decimal_run-run-requires
decimal_run-run-requires c = (c.requires.0.0, ten_some _)

pub small-requires : goal.small-requires
small-requires c =
    short-top c.args.one.negative short short _ (omega arith) refl c.requires.0.2

pub small-requires-2 : goal.small-requires-2
small-requires-2 c =
    let d = c.decimal_run-run.ensures.0 in
    let in_text = run_in c.args.t.now (c.args.one.end + 1) (omega (arith, c.if-t-start.false)) in
    short-top false short short _ (omega arith) refl (value_short _ _ _ c.requires.0.0 (omega arith) c.decimal_run-run.ensures.2)

pub returns : goal.returns
returns c =
    let told = c.decimal_run-run.ensures in
    let begun = c.requires.0 in
    let i = c.if-t-start.false in
    let in_text = run_in c.args.t.now (c.args.one.end + 1) (omega arith) in
    inl (ratio_told c.args.t.now c.args.one begun.1 begun.5 begun.2 begun.4 c.requires.1 c.requires.2 _ _ i
    c.if-t-start-le48.false told.0 c.if-run-t.false told.1
    (short-top false short short _ (omega arith) refl (value_short _ _ _ begun.0 (omega (arith, told.0)) told.2)) _ _ c.small.ensures
    c.small-2.ensures)
