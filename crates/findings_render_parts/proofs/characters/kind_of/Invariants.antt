use mathlib.Core.Path.{◌≡◌}
use lib.ListN.{drop}
use Rattle.findings_render_parts.specs.Shown.{ranges, kind_in}
use Rattle.findings_render_parts.proofs.characters.kind_of.Given as goal

abbrev pub invariant-loop-low : goal.invariant-loop-low
invariant-loop-low l = kind_in ranges l.c ≡ kind_in (drop l.low-index ranges) l.c
