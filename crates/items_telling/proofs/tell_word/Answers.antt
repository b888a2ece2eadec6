-- A word that begins with no plus has one meaning: that of its row of the table, or an identifier whose text it is.
use borrow.Author.Tests.{ne_eqb}
use mathlib.Core.Path.{sym, ◌∙◌, subst}
use lib.ListN.{get_or}
use Rattle.laws.specs.Quoted.{code}
use Rattle.items.specs.Kinds as kind
use Rattle.items.specs.declared.Outcome.TheVariants.{Word}
use Rattle.items_telling.specs.Tells.{Tells}
use Rattle.items_telling.specs.declared.Quick.{Quick}
use Rattle.items_telling.proofs.Tells.{identifier_tells, word_tells}
use Rattle.items_telling.proofs.tell_word.Goals as goal

pub returns-then-kind-eq-IDENTIFIER : goal.returns-then-kind-eq-IDENTIFIER
returns-then-kind-eq-IDENTIFIER c =
    subst (λ (q : Quick). Tells Word c.args.at c.args.raw.now q) (sym c.named.ensures)
    (identifier_tells c.args.at c.args.end c.args.raw.now c.requires.1 (ne_eqb (get_or c.args.raw.now 0 0)
    (code "+") c.if-raw-eq43.false) (sym c.word_kind-kind.ensures ∙ c.if-kind-eq-IDENTIFIER.true))

pub returns : goal.returns
returns c =
    let k = c.word_kind-kind in
    subst (λ (q : Quick). Tells Word c.args.at c.args.raw.now q) (sym c.bare.ensures)
    (word_tells c.args.at c.args.end c.args.raw.now c.requires.1 k.result (sym k.ensures) (ne_eqb k.result kind.Identifier c.if-kind-eq-IDENTIFIER.false))
