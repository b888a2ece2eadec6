-- Each arm tells the words that `parts_words` names for its case.
use Rattle.numbers_words.specs.Words.{parts_words}
use Rattle.numbers_words.proofs.Words.{joined_is, served_as}
use mathlib.Core.Path.{sym, ap, ◌∙◌}
use Rattle.numbers_words.proofs.tell_parts.Goals as goal

pub returns-in-Just : goal.returns-in-Just
unfolding parts_words
returns-in-Just c =
    served_as _ _ (joined_is 0 c.real_words.ensures c.no_real.ensures ∙ ap parts_words (sym c.in-Just.is)) c.tell_served.ensures

pub returns-in-Complex : goal.returns-in-Complex
unfolding parts_words
returns-in-Complex c =
    served_as _ _ (joined_is 1 c.real_words-in-Complex.ensures c.real_words-in-Complex-2.ensures ∙ ap parts_words (sym c.in-Complex.is)) c.tell_served-in-Complex.ensures

pub returns-in-Polar : goal.returns-in-Polar
unfolding parts_words
returns-in-Polar c =
    served_as _ _ (joined_is 2 c.real_words-in-Polar.ensures c.real_words-in-Polar-2.ensures ∙ ap parts_words (sym c.in-Polar.is)) c.tell_served-in-Polar.ensures
