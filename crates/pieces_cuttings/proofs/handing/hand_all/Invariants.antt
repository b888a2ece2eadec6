use Rattle.std.proofs.Common.{◌≡◌, ◌-◌, length}
use Rattle.pieces_cuttings.specs.Notes.{most, standing, hand_all}
use Rattle.pieces_cuttings.proofs.handing.hand_all.Given as goal

abbrev pub invariant-loop : goal.invariant-loop
invariant-loop l = (length l.records ≡ length l.initial.records)
    × (length l.counts ≡ length l.initial.counts) × (length l.texts ≡ length l.initial.texts)
    × (hand_all l.source l.cutting (most - l.counter) l.size (standing l.now l.records l.counts l.texts) ≡ hand_all l.source l.cutting most l.initial.size (standing l.initial.now l.initial.records l.initial.counts l.initial.texts))
