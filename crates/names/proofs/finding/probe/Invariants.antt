use Prim.Native.Nat.{◌-◌, ◌<◌}
use mathlib.Core.Path.{◌≡◌}
use Rattle.names.specs.Layout.{index_slots}
use Rattle.names.specs.Call.{looks, tag_of, probe, probe_of}
use Rattle.names.proofs.finding.probe.Given as goal

abbrev pub invariant-loop-step : goal.invariant-loop-step
invariant-loop-step l = (l.s < index_slots) × (l.tag ≡ tag_of l.name) × (probe (looks - l._step) l.words l.bytes l.party l.name l.s ≡ probe_of l.words l.bytes l.party l.name)
