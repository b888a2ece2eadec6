use mathlib.Core.Path.{◌≡◌}
use mathlib.Core.List.{map}
use lib.ListN.{drop}
use Rattle.items.specs.Meaning.{lower, lookup, char_names, unnamed}
use Rattle.spellings.proofs.names.name_code.Given as goal

abbrev pub invariant-loop-k : goal.invariant-loop-k
invariant-loop-k l = lookup char_names (map lower l.t) unnamed ≡ lookup (drop l.k char_names) (map lower l.t) unnamed
