use mathlib.Core.Path.{◌≡◌}
use mathlib.Core.List.{map}
use lib.ListN.{drop}
use Rattle.laws.specs.Texts.{same}
use Rattle.items.specs.Meaning.{lower}
use Rattle.spellings.proofs.names.equal_lower.Given as goal

abbrev pub invariant-loop-i : goal.invariant-loop-i
invariant-loop-i l = same (map lower l.t) l.name ≡ same (map lower (drop l.i l.t)) (drop l.i l.name)
