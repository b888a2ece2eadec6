-- Blanks leave the reader between items (Moves: past-on).
use native.Mathlib.Omega.{arith}
use Prim.Native.Nat.{◌+◌, ◌-◌}
use lib.ListN.{take, drop}
use Rattle.byte_runs.specs.Runs.{blank}
use Rattle.laws.proofs.Runs.{span_le}
use Rattle.pieces_turns.proofs.Passes.{run_part}
use Rattle.pieces_spots.proofs.Runs.{looked}
use Rattle.pieces_spots.proofs.Moves.{past_fits, past_on}
use Rattle.pieces_spots.proofs.moving.past.Goals as goal

pub overflow_add-result : goal.overflow_add-result
overflow_add-result c =
    let n = c.blank_end-n.result in
    let f = looked c.args.s.i c.min.result n c.args.piece.now c.requires.inside
    (omega (arith, c.blank_end-n.ensures, span_le blank (take (c.args.s.i + c.min.result - c.args.s.i) (drop c.args.s.i c.args.piece.now)))) in
    omega (arith, f.1, c.requires.far)

pub overflow_add-result-2 : goal.overflow_add-result-2
overflow_add-result-2 c =
    let n = c.blank_end-n.result in
    let f = looked c.args.s.i c.min.result n c.args.piece.now c.requires.inside
    (omega (arith, c.blank_end-n.ensures, span_le blank (take (c.args.s.i + c.min.result - c.args.s.i) (drop c.args.s.i c.args.piece.now)))) in
    omega (arith, f.1)

pub returns : goal.returns
returns c =
    let n = c.blank_end-n.result in
    let i = c.args.s.i in
    let part = run_part blank c.args.piece.now i (i + c.min.result - i) n (omega (arith, c.blank_end-n.ensures)) in (
      past_fits c.args.s c.args.buf.now c.args.piece.now c.requires (omega arith) (omega arith) n (omega (arith, part.1)) part.0,
      past_on c.args.s c.args.buf.now c.args.piece.now c.requires (omega arith) (omega arith) n (omega (arith, part.1)) part.0,
    )
