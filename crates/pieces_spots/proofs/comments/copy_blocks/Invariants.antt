use Prim.Native.Nat.{◌-◌, ◌≤◌}
use mathlib.Core.Path.{◌≡◌}
use lib.ListN.{length}
use Rattle.pieces_spots.specs.Lines.{CopiedBlocks}
use Rattle.pieces_spots.proofs.comments.copy_blocks.Given as goal

abbrev pub invariant-loop-text : goal.invariant-loop-text
invariant-loop-text l = (length l.text ≡ length l.initial.text) × (l.i ≤ length l.raw) × CopiedBlocks l.raw l.initial.text l.text l.i

abbrev pub decreases-loop-text : goal.decreases-loop-text
decreases-loop-text l = length l.raw - l.i
