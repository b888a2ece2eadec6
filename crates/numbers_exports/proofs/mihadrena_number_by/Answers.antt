-- The answer of a known choice is told; an unknown one has no word.
use Rattle.numbers_standard.specs.declared.NumberByError.TheVariants.{Number, UnknownChoice}
use Rattle.numbers_standard.proofs.Call.{refused_as}
use mathlib.Core.Path.{refl, sym, ap, ◌∙◌}
use Rattle.numbers_words.specs.Words.{refusal_words, flattened, number_or}
use Rattle.numbers_words.proofs.Words.{none_laid, told_of}
use Rattle.numbers_standard.specs.Call.{answered_by}
use Rattle.numbers_exports.proofs.mihadrena_number_by.Goals as goal

pub returns-in-Ok : goal.returns-in-Ok
returns-in-Ok c = told_of _ (ap answered_by (sym c.in-Ok.is) ∙ c.number_by.ensures) c.tell.ensures

pub returns-in-Err-Number : goal.returns-in-Err-Number
returns-in-Err-Number c =
    told_of _ (ap answered_by (sym (refused_as _ _ (Number _) c.in-Err-Number.is c.in-Err-Number.field-0-is))
    ∙ c.number_by.ensures) c.tell-in-Err-Number.ensures

pub returns-in-Err-UnknownChoice : goal.returns-in-Err-UnknownChoice
unfolding refusal_words flattened number_or
returns-in-Err-UnknownChoice c =
    told_of _ (ap answered_by (sym (refused_as _ _ UnknownChoice c.in-Err-UnknownChoice.is c.in-Err-UnknownChoice.field-0-is))
    ∙ c.number_by.ensures) (refl, none_laid _)
