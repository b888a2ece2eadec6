use Prim.Native.Nat.{◌≤◌}
use mathlib.Core.Path.{◌≡◌}
use Rattle.items_exports.specs.Records.{count_of, first_fit, records_fit}
use Rattle.items_exports.proofs.records.mihadrena_records_fit.Given as goal

abbrev pub invariant-loop-p : goal.invariant-loop-p
invariant-loop-p l = (l.p ≤ count_of l.records) × (first_fit l.records l.source l.text l.p ≡ records_fit l.records l.source l.text)
