-- What closes quotes closes them, a newline a comment; after a number sign the byte tells (Runs).
use native.Mathlib.Omega.{arith}
use mathlib.Core.Path.{sym, subst}
use Prim.Native.Nat.{ℕ}
use Rattle.pieces_spots.specs.Spots.{Closes}
use Rattle.pieces_spots.proofs.Runs as runs
use Rattle.pieces_spots.proofs.moving.closes.Goals as goal

pub returns-then-stage-eq-QUOTED : goal.returns-then-stage-eq-QUOTED
returns-then-stage-eq-QUOTED c = λ h.
    let a = c.args in
    subst (λ (x : ℕ). Closes x a.which a.b c.closes_quotes.result a.raw.now) (sym c.if-stage-eq-QUOTED.true) (c.closes_quotes.ensures h a.raw.now)

pub returns-then-b-eq10 : goal.returns-then-b-eq10
returns-then-b-eq10 c = λ h. runs.newline_closes _ _ _ _ (omega arith) (omega arith)

pub returns-then-stage-eq-IN_LINE : goal.returns-then-stage-eq-IN_LINE
returns-then-stage-eq-IN_LINE c = λ h. absurd (omega arith)

pub returns-then-stage-eq-AFTER_HASH : goal.returns-then-stage-eq-AFTER_HASH
returns-then-stage-eq-AFTER_HASH c = λ h.
    let a = c.args in
    subst (λ (x : ℕ). Closes x a.which a.b c.after_sign.result a.raw.now) (sym c.if-stage-eq-AFTER_HASH.true) (c.after_sign.ensures h)

pub returns : goal.returns
returns c = λ h. absurd (omega arith)
