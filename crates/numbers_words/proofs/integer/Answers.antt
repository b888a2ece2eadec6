-- Each arm puts together the words that `int_words` names for its case.
use mathlib.Core.Path.{◌≡◌, sym, ap, ◌∙◌}
use lib.IntN.{nat_abs}
use mir.Syntax.{w64}
use mir.Val.{to_z, of_z}
use borrow.Author.Rules.{rules}
use Rattle.numbers_words.specs.Words.{minus, int_words}
use Rattle.numbers_words.proofs.Words.{value_is}
use Rattle.numbers_words.proofs.integer.Goals as goal

pub returns-in-Small : goal.returns-in-Small
unfolding int_words
returns-in-Small c =
    let v = c.in-Small.v in
    let f : to_z w64 (of_z w64 v) ≡ v = search rules in
    value_is v (c.minus.ensures ∙ ap minus f) (c.magnitude.ensures ∙ ap nat_abs f)
    ∙ ap int_words (sym c.in-Small.is)

pub returns-in-Big : goal.returns-in-Big
unfolding int_words
returns-in-Big c = c.placed.ensures ∙ ap int_words (sym c.in-Big.is)
