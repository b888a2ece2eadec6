-- Whether the key's piece of the table has a byte.
use mathlib.Core.Path.{ap, ◌∙◌}
use lib.Dec.{ltb}
use lib.ListN.{length}
use mathlib.Core.List.{List}
use Prim.Native.Nat.{ℕ}
use Rattle.findings_render_messages.proofs.Worded.{some_text}
use Rattle.findings_render_messages.specs.Messages.{table, is_told}
use Rattle.findings_render_messages.proofs.is_told.Goals as goal

pub returns : goal.returns
unfolding table is_told
returns c =
    ap (λ (l : List ℕ). ltb 0 (length l)) (rw c.key_of-key.ensures at c.piece.ensures) ∙ some_text _
