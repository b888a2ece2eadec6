use mathlib.Core.Path.{◌≡◌}
use lib.ListN.{drop}
use Rattle.laws.specs.Quoted.{one_of}
use Rattle.chars.specs.Blank.{blanks, is_blank}
use Rattle.chars.proofs.blank.is_blank.Given as goal

abbrev pub invariant-loop-row : goal.invariant-loop-row
invariant-loop-row l = is_blank l.c ≡ one_of (drop l.row blanks) l.c
