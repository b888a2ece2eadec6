-- A character's width is the length of its encoding.
use mathlib.Core.Path.{◌∙◌}
use Rattle.escapes.proofs.Laying.{code_length}
use Rattle.escapes.proofs.given_length.Goals as goal

pub returns-in-Code : goal.returns-in-Code
returns-in-Code c = let h = rw c.in-Code.is at c.requires in rw c.in-Code.is (c.char_width.ensures ∙ code_length _ h)
