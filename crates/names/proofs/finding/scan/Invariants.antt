use Prim.Native.Nat.{◌-◌}
use mathlib.Core.Path.{◌≡◌}
use Rattle.names.specs.Call.{scan, scanned}
use Rattle.names.proofs.finding.scan.Given as goal

abbrev pub invariant-loop-k : goal.invariant-loop-k
invariant-loop-k l = scan (l.n - l.k) l.words l.bytes l.party l.name l.k ≡ scanned l.words l.bytes l.party l.name
