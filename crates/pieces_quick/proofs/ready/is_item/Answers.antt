-- The tests say it.
use native.Mathlib.Omega.{arith}
use Rattle.pieces_quick.proofs.ready.is_item.Goals as goal

pub returns-then-is_placed : goal.returns-then-is_placed
returns-then-is_placed c = λ e.
    let w = c.args.w in
    let placed = c.is_placed.ensures c.if-is_placed.true in
    record {
      small = omega (arith, placed);
      deep = omega (arith, placed);
      known = c.is_phase.ensures e w.start w.at (omega (arith, placed)) (omega (arith, placed));
    }
