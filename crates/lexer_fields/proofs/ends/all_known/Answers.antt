-- By what the source's UTF-8 is.
use Rattle.std.proofs.Common.{ℕ, Option}
use mathlib.Core.Path.{sym, ap, ◌∙◌}
use Rattle.lexer_fields.specs.Answers.{well_cut}
use Rattle.lexer_fields.proofs.ends.all_known.Goals as goal

pub returns-in-None : goal.returns-in-None
returns-in-None c =
    ap (λ (u : Option ℕ). well_cut u c.args.clean) (sym c.in-None.is ∙ c.first_bad.ensures)

pub returns-in-Some : goal.returns-in-Some
returns-in-Some c =
    ap (λ (u : Option ℕ). well_cut u c.args.clean) (sym c.in-Some.is ∙ c.first_bad.ensures)
