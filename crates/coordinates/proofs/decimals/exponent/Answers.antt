-- Digits to the end after the sign are the exponent, and its value counts as the definition's does; anything else is none.
use Rattle.coordinates.proofs.Shapes.{not_begun, not_ended, exponent_bad, exponent_told}
use Rattle.digits.proofs.DecimalRuns.{ten_some}
use Rattle.std.proofs.Common.{◌∙◌, arith}
use Rattle.coordinates.proofs.decimals.exponent.Goals as goal

pub long_run-e-requires : goal.long_run-e-requires
long_run-e-requires c = (omega arith, ten_some _)

pub returns-then-e-start : goal.returns-then-e-start
returns-then-e-start c =
    c.no_coordinate.ensures
    ∙ exponent_bad _ _ _ _ _ _ _ c.starts_at-down.ensures c.sign_end-start.ensures
    (not_begun _ _ _ c.long_run-e.ensures.0 c.if-e-start.true)

pub shifted-requires : goal.shifted-requires
shifted-requires c =
    (c.long_run-e.ensures.2.0, c.requires)

pub returns-then-e-t : goal.returns-then-e-t
returns-then-e-t c =
    let told = c.long_run-e.ensures in
    exponent_told _ _ _ _ _ _ _ c.starts_at-down.ensures c.sign_end-start.ensures _ _ told.0
    c.if-e-start.false c.if-e-t.true told.1
    c.requires _ c.shifted.ensures

pub returns : goal.returns
returns c =
    c.no_coordinate-2.ensures
    ∙ exponent_bad _ _ _ _ _ _ _ c.starts_at-down.ensures c.sign_end-start.ensures
    (not_ended _ _ _ c.long_run-e.ensures.0 c.if-e-t.false)
