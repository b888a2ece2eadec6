-- Two answers that a contract permits are one, and so is what they leave in the lent memory.
use Prim.Native.Nat.{ℕ}
use mathlib.Core.List.{List}
use mathlib.Core.Path.{◌≡◌, sym, ◌∙◌}
use Rattle.findings_render_parts.specs.Laid.{counted, over}

pub one_answer_written : (bs old : List ℕ) (n m : ℕ) (out memory : List ℕ)
    → (n ≡ counted bs) × (out ≡ over bs old) → (m ≡ counted bs) × (memory ≡ over bs old) → (n ≡ m) × (out ≡ memory)
one_answer_written bs old n m out memory e f = (e.0 ∙ sym f.0, e.1 ∙ sym f.1)
