-- The next newline, without its carriage return.
use mathlib.Core.Path.{◌∙◌}
use native.Mathlib.Omega.{arith}
use lib.ListN.{drop, length-drop}
use Rattle.laws.proofs.Runs.{before_le}
use Rattle.findings_render_parts.specs.Spots.{newline, end_of}
use Rattle.findings_render_parts.proofs.places.line_end.Goals as goal

pub cut_return-requires : goal.cut_return-requires
cut_return-requires c =
    omega (arith, c.find.ensures, before_le newline (drop c.args.at c.args.s.now), length-drop c.args.at c.args.s.now)

pub returns : goal.returns
unfolding end_of
returns c = c.cut_return.ensures ∙ rw (c.find.ensures, c.line_start.ensures.0)
