-- The datum reader and the sequence reader call each other, each where the measure has fallen: remaining records, then remaining depth.
use Prim.Native.Nat.{ℕ, ◌*◌, ◌+◌, ◌-◌}
use Rattle.nested.specs.Items.{count_of}
use Rattle.nested.specs.Grammar.{deepest}
use Rattle.nested.proofs.Loops.{Going}
use Rattle.nested.proofs.+datum_sequence.Given as goal

-- the two as one number: no depth weighs as much as a record
abbrev records-then-depth : ℕ → ℕ → ℕ
records-then-depth records depth = records * (deepest + 2) + depth

-- the records from the datum on, and the levels that may still be opened in it
abbrev pub decreases-datum : goal.decreases-datum
decreases-datum l = records-then-depth (count_of l.records.now - l.at) (deepest - l.depth)

-- the same of a sequence, which is a level itself: its data have one less
abbrev pub decreases-sequence : goal.decreases-sequence
decreases-sequence l = records-then-depth (count_of l.records.now - l.from) (deepest + 1 - l.depth)

abbrev pub invariant-sequence-loop-at : goal.invariant-sequence-loop-at
invariant-sequence-loop-at l = Going l.records l.from l.depth l.fn.f l.first l.initial.nodes l.nodes l.at l.v l.g

abbrev pub decreases-sequence-loop-at : goal.decreases-sequence-loop-at
decreases-sequence-loop-at l = count_of l.records - l.at
