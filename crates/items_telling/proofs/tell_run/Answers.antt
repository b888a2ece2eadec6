-- A plain run is a number (numbers/proofs/Plain), and has that one meaning.
use mathlib.Core.Path.{sym, ◌∙◌, subst}
use Rattle.numbers.proofs.Plain.{plain_is}
use Rattle.items.specs.declared.Outcome.TheVariants.{Run}
use Rattle.items_telling.specs.Tells.{Tells}
use Rattle.items_telling.specs.declared.Quick.{Quick}
use Rattle.items_telling.proofs.Tells.{run_tells}
use Rattle.items_telling.proofs.tell_run.Goals as goal

pub returns-then-is_plain : goal.returns-then-is_plain
returns-then-is_plain c =
    let n = plain_is c.args.raw.now (sym c.is_plain.ensures ∙ c.if-is_plain.true) in
    subst (λ (q : Quick). Tells Run c.args.at c.args.raw.now q) (sym c.bare.ensures)
    (run_tells c.args.at c.args.end c.args.raw.now c.requires n.0 n.1)
