-- A denominator is an integer.
use Rattle.numbers.proofs.RealParts.{denominator_is}
use Rattle.numbers.proofs.grammar.BoughtNumberGrammar.denominator_at.Goals as goal

pub returns : goal.returns
returns c = denominator_is _ _ _ c.integer.ensures
