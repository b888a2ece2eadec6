-- Another sign past k cuts it.
use Rattle.numbers.proofs.Cuts.{again_is}
use Rattle.numbers.proofs.grammar.BoughtNumberGrammar.is_cut_again.Goals as goal

pub returns : goal.returns
returns c = again_is _ _ _ c.requires.0 _ c.to_sign-another.ensures
