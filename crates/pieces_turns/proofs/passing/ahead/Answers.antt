-- What is looked at is what there is room for, so that the run within it has room, and it is a run of the piece.
use Prim.Native.Nat.{ℕ, ◌+◌, ◌-◌}
use native.Mathlib.Omega.{arith}
use Rattle.pieces_turns.specs.Passed.{kept}
use Rattle.pieces_turns.proofs.Passes.{run_part}
use Rattle.pieces_turns.proofs.passing.ahead.Goals as goal

pub returns : goal.returns
returns c =
    let f = c.args in
    let seen : ℕ = f.from + c.room.result - f.from in
    let k = run_part (kept f.m.stage) f.piece.now f.from seen c.kept_count.result c.kept_count.ensures in
    let fits = c.room.ensures in (k.0, omega (arith, k.1, fits.1), omega (arith, k.1, fits.2), λ _. c.if-m-ne0.false)
