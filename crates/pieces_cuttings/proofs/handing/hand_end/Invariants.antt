use Rattle.std.proofs.Common.{◌≡◌, ◌-◌, length}
use Rattle.pieces_cuttings.specs.Notes.{most, standing, hand_end}
use Rattle.pieces_cuttings.proofs.handing.hand_end.Given as goal

abbrev pub invariant-loop : goal.invariant-loop
invariant-loop l = (length l.records ≡ length l.initial.records) × (length l.counts ≡ length l.initial.counts) × (length l.texts ≡ length l.initial.texts)
    × (hand_end (most - l.counter) (standing l.now l.records l.counts l.texts) ≡ hand_end most (standing l.initial.now l.initial.records l.initial.counts l.initial.texts))
