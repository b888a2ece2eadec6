-- The first figure is the one given, the other two have nothing.
use mathlib.Core.Path.{refl}
use Rattle.numbers_words.proofs.Words.{real_is}
use Rattle.numbers_words.proofs.simple.Goals as goal

pub returns : goal.returns
returns c = real_is _ _ _ _ refl c.nothing.ensures c.nothing-2.ensures
