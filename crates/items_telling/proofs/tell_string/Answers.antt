-- The definition's text of a string without an escape is what stands between its quotes.
use mathlib.Core.Path.{sym, ◌∙◌, subst}
use Rattle.items.specs.declared.Outcome.TheVariants.{Str}
use Rattle.items.specs.declared.Quotes.TheVariants.{Double}
use Rattle.items_telling.specs.Tells.{Tells}
use Rattle.items_telling.specs.declared.Quick.{Quick}
use Rattle.items_telling.proofs.Tells.{quoted_tells}
use Rattle.items_telling.proofs.tell_string.Goals as goal

pub returns : goal.returns
returns c =
    subst (λ (q : Quick). Tells Str c.args.at c.args.raw.now q) (sym c.named.ensures)
    (quoted_tells c.args.at c.args.end c.args.raw.now c.requires.1 Double (sym c.has_escape.ensures ∙ c.if-has_escape.false))
