-- A text's first bad sequence goes first; else it is read.
use Rattle.numbers.specs.Call.{given}
use Rattle.numbers_standard.proofs.Call.{not_utf8_holds, served}
use mathlib.Core.Path.{sym, ap, ◌∙◌}
use Rattle.numbers_standard.proofs.by_standard.Goals as goal

pub returns-in-Some : goal.returns-in-Some
returns-in-Some c =
    sym (not_utf8_holds _ c.requires _ (sym c.first_bad.ensures ∙ c.in-Some.is))

pub returns-in-None : goal.returns-in-None
returns-in-None c =
    c.serve.ensures
    ∙ ap given c.parse_standard.ensures
    ∙ sym (served _ c.requires (sym c.first_bad.ensures ∙ c.in-None.is))
