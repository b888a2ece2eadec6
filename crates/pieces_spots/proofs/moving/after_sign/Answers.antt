-- Each letter leads on by computation (Runs).
use native.Mathlib.Omega.{arith}
use Rattle.pieces_spots.proofs.Runs as runs
use Rattle.pieces_spots.proofs.moving.after_sign.Goals as goal

pub returns-then-raw-ne1 : goal.returns-then-raw-ne1
returns-then-raw-ne1 c = λ h. absurd (omega arith)

pub returns-then-raw-ne35 : goal.returns-then-raw-ne35
returns-then-raw-ne35 c = λ h. absurd (omega arith)

pub returns-in-40 : goal.returns-in-40
returns-in-40 c = λ h.
    let raw = c.args.raw.now in
    runs.vector_closes _ _ raw (runs.one_byte raw _ (omega (arith, c.if-raw-ne1.false)) (omega (arith, c.if-raw-ne35.false))) c.in-40.is

pub returns-in-116 : goal.returns-in-116
returns-in-116 c = λ h. runs.t_closes _ _ _ c.in-116.is

pub returns-in-102 : goal.returns-in-102
returns-in-102 c = λ h. runs.f_closes _ _ _ c.in-102.is

pub returns-in_default : goal.returns-in_default
returns-in_default c = λ h. absurd (omega arith)
