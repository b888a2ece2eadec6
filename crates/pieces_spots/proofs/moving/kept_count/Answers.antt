-- Each run is that of the phase of its stage (Runs).
use native.Mathlib.Omega.{arith}
use Prim.Native.Nat.{ℕ, ◌≤◌, ◌<◌}
use mathlib.Core.Path.{sym, subst}
use lib.ListN.{length}
use Rattle.pieces_spots.specs.Spots.{Keeps}
use Rattle.pieces_spots.proofs.Runs as runs
use Rattle.pieces_spots.proofs.moving.kept_count.Goals as goal

pub returns-then-stage-eq-IN_WORD : goal.returns-then-stage-eq-IN_WORD
returns-then-stage-eq-IN_WORD c = runs.word_kept _ _ _ _ (omega arith) c.ascii_run.ensures

pub returns-then-stage-eq-IN_RUN : goal.returns-then-stage-eq-IN_RUN
returns-then-stage-eq-IN_RUN c = runs.run_kept _ _ _ _ (omega arith) c.ascii_run-then-stage-eq-IN_RUN.ensures

pub returns-then-stage-eq-IN_LINE : goal.returns-then-stage-eq-IN_LINE
returns-then-stage-eq-IN_LINE c = runs.line_kept _ _ _ _ (omega arith) c.ascii_run-then-stage-eq-IN_LINE.ensures

pub returns-then-stage-eq-QUOTED : goal.returns-then-stage-eq-QUOTED
returns-then-stage-eq-QUOTED c =
    let a = c.args in
    let n = c.quoted_count.result in
    subst (λ (x : ℕ). (n ≤ length a.bytes.now) × (0 < n → Keeps x a.which n a.bytes.now)) (sym c.if-stage-eq-QUOTED.true) c.quoted_count.ensures

pub returns : goal.returns
returns c = runs.none_kept _ _ _
