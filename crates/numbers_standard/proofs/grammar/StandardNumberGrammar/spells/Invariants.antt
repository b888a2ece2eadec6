use Rattle.laws.specs.Texts.{same}
use Rattle.laws.specs.Letters.{lower}
use mathlib.Core.Path.{◌≡◌}
use mathlib.Core.List.{map}
use lib.ListN.{drop}
use Rattle.numbers_standard.proofs.grammar.StandardNumberGrammar.spells.Given as goal

abbrev pub invariant-loop-letter : goal.invariant-loop-letter
invariant-loop-letter l = same (map lower (drop l.from l.t)) l.w ≡ same (map lower (drop l.i l.t)) (drop l.letter-index l.w)
