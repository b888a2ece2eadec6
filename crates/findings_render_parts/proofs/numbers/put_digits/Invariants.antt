use Prim.Native.Nat.{◌-◌}
use Rattle.findings_render_parts.specs.Printed.{digits}
use Rattle.findings_render_parts.proofs.OneByOne.{Left}
use Rattle.findings_render_parts.proofs.numbers.put_digits.Given as goal

abbrev pub invariant-loop-k : goal.invariant-loop-k
invariant-loop-k l = Left l.quoted (digits l.hex (l.w - l.k) l.n) l.next l.out (digits l.hex l.w l.n) l.at l.initial.out
