-- The first word is stored where there is one.
use mathlib.Core.Path.{refl}
use Rattle.numbers_words.proofs.Words.{refused_none, refused_one}
use Rattle.numbers_words.proofs.tell_refused.Goals as goal

pub returns-then-words-lt1 : goal.returns-then-words-lt1
returns-then-words-lt1 c = (refl, refused_none _ _ c.if-words-lt1.true)

pub returns : goal.returns
returns c = (refl, refused_one _ _ c.if-words-lt1.false)
