-- The search keeps: line `low` starts at or before the place, and line `high`, if there is one, past it. In a list that rises no other
-- line is the last that starts at or before the place (`line_found`).
use native.Mathlib.Omega.{arith}
use Prim.Native.Nat.{◌+◌}
use mathlib.Core.Path.{◌≡◌}
use Rattle.lines.proofs.Line.{search_first, line_found}
use Rattle.lines_calls.proofs.asking.line_at.Goals as goal

pub loop-high-init : goal.loop-high-init
loop-high-init c = let f = search_first c.requires in (omega (arith, f.0), omega arith, f.1, λ h. absurd (omega arith))

pub loop-high-preserved-then-wide-place : goal.loop-high-preserved-then-wide-place
loop-high-preserved-then-wide-place c = let v = c.loop-high.invariant in (omega arith, v.1, omega (arith, c.wide.ensures), v.3)

pub loop-high-preserved : goal.loop-high-preserved
loop-high-preserved c = let v = c.loop-high.invariant in (omega arith, omega arith, v.2, λ h. omega (arith, c.wide.ensures))

pub returns : goal.returns
returns c =
    let l = c.loop-high in let v = l.invariant in let e : l.high ≡ l.low + 1 = omega arith in
    (omega arith, v.2, line_found c.args.index.now c.args.place l.low c.requires (omega arith) v.2 (rw e at v.3))
