use Prim.Native.Nat.{◌+◌, ◌-◌, ◌≤◌}
use mathlib.Core.Path.{◌≡◌}
use Rattle.findings_render_parts.specs.Printed.{tens_up_to}
use Rattle.findings_render_parts.proofs.numbers.digit_count.Given as goal

abbrev pub invariant-loop-k : goal.invariant-loop-k
invariant-loop-k l = (l.count ≡ 1 + tens_up_to (l.k - 1) l.n) × (l.count ≤ l.k)
