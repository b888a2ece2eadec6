-- In a first line the run is one of ASCII before the newline, between items one of blanks; elsewhere nothing is passed.
use native.Mathlib.Omega.{arith}
use Prim.Native.Nat.{◌≤◌}
use mathlib.Core.Path.{sym, subst}
use Rattle.laws.specs.Texts.{span}
use Rattle.laws.specs.Quoted.{code}
use Rattle.byte_runs.specs.Runs.{plain, blank}
use Rattle.pieces.specs.declared.Stage.{Stage}
use Rattle.pieces_turns.specs.Passed.{kept}
use Rattle.pieces_turns.proofs.passing.between_count.Goals as goal

pub returns-in-FirstLine : goal.returns-in-FirstLine
returns-in-FirstLine c =
    let f = c.args in
    let fits : c.plain_end.result ≤ span (plain (code "\n") (code "\n")) f.bytes.now = omega (arith, c.plain_end.ensures) in
    subst (λ (g : Stage). c.plain_end.result ≤ span (kept g) f.bytes.now) (sym c.in-FirstLine.is) fits

pub returns-in-Idle : goal.returns-in-Idle
returns-in-Idle c =
    let f = c.args in
    let fits : c.blank_end.result ≤ span blank f.bytes.now = omega (arith, c.blank_end.ensures) in
    subst (λ (g : Stage). c.blank_end.result ≤ span (kept g) f.bytes.now) (sym c.in-Idle.is) fits
