-- In an item the run is one of what its phase keeps; elsewhere it is told apart.
use native.Mathlib.Omega.{arith}
use Prim.Native.Nat.{◌≤◌}
use mathlib.Core.Path.{sym, subst}
use Rattle.laws.specs.Texts.{span}
use Rattle.steps.specs.Runs.{keeps}
use Rattle.pieces.specs.declared.Stage.{Stage}
use Rattle.pieces_turns.specs.Passed.{kept}
use Rattle.pieces_turns.proofs.passing.kept_count.Goals as goal

pub returns-in-Busy : goal.returns-in-Busy
returns-in-Busy c =
    let f = c.args in
    let fits : c.ascii_run.result ≤ span (keeps c.in-Busy.phase) f.bytes.now = omega (arith, c.ascii_run.ensures) in
    subst (λ (g : Stage). c.ascii_run.result ≤ span (kept g) f.bytes.now) (sym c.in-Busy.is) fits
