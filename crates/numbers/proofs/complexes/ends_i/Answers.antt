-- An empty part ends with nothing; else the text's last byte is the part's.
use Rattle.numbers.proofs.Grammars.{ends_past, ends_told}
use Rattle.numbers.proofs.complexes.ends_i.Goals as goal

pub returns-then-t-from : goal.returns-then-t-from
returns-then-t-from g c = ends_past g.met.G.NumberGrammar.letters _ _ c.if-t-from.true

pub returns : goal.returns
returns g c = ends_told g.met.G.NumberGrammar.letters _ _ c.if-t-from.false _ c.spells.ensures
