-- The answer's value is laid, and its number handed back.
use Prim.Native.Nat.{ℕ}
use mathlib.Core.Path.{ap, ◌∙◌}
use mathlib.Core.List.{[], ◌∷◌}
use Rattle.chars.specs.Encode.{lay}
use Rattle.lines_exports.proofs.tell.Goals as goal

pub returns : goal.returns
returns c = (
  c.number.ensures,
  c.put_values.ensures
      ∙ ap (λ (v : ℕ). lay (v ∷ 0 ∷ []) c.args.values.now)
      c.value.ensures,
)
