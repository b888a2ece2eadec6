-- No real has no form and no figure.
use Prim.Native.Nat.{ℕ}
use mathlib.Core.Path.{ap, ◌∙◌}
use mathlib.Core.List.{List}
use Rattle.numbers_words.specs.Words.{nothing, formed}
use Rattle.numbers_words.proofs.no_real.Goals as goal

pub returns : goal.returns
returns c = c.simple.ensures ∙ ap (λ (x : List ℕ). formed 0 x nothing nothing) c.nothing.ensures
