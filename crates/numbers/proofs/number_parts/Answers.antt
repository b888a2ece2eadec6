-- The prefix gives the radix and the place where the number starts.
use Rattle.numbers.proofs.Judged.{prefix_le, parts_ten, parts_radix}
use Prim.Native.Nat.{◌≤◌}
use native.Mathlib.Omega.{arith}
use Rattle.numbers.proofs.number_parts.Goals as goal

pub complex_at-requires-else-radix-eq-NO_RADIX : goal.complex_at-requires-else-radix-eq-NO_RADIX
complex_at-requires-else-radix-eq-NO_RADIX g c = let h : c.prefix-radix.result ≤ 16 = rw c.prefix-radix.ensures (prefix_le _) in omega arith

pub returns-then-radix-eq-NO_RADIX : goal.returns-then-radix-eq-NO_RADIX
returns-then-radix-eq-NO_RADIX g c = parts_ten g.G.NumberGrammar.complex _ _ c.prefix-radix.ensures _ c.if-radix-eq-NO_RADIX.true c.complex_at.ensures

pub returns-else-radix-eq-NO_RADIX : goal.returns-else-radix-eq-NO_RADIX
returns-else-radix-eq-NO_RADIX g c = parts_radix g.G.NumberGrammar.complex _ _ c.prefix-radix.ensures _ c.if-radix-eq-NO_RADIX.false c.complex_at-else-radix-eq-NO_RADIX.ensures
