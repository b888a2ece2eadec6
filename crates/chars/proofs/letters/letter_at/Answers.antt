-- The blanks past ASCII begin with four bytes (Wide); 0 says nothing.
use mathlib.Core.Path.{sym, ◌∙◌}
use lib.ListN.{drop}
use Rattle.chars.specs.Wide.{Wide}
use Rattle.chars.proofs.Wide.{no_solid, solid_at, wide_or}
use Rattle.chars.proofs.letters.letter_at.Goals as goal

pub returns-then-s-at : goal.returns-then-s-at
returns-then-s-at c = (tt, no_solid _)

pub returns-then-b : goal.returns-then-b
returns-then-b c = (tt, no_solid _)

pub returns : goal.returns
returns c =
    let a = c.args in
    let w : Wide (drop a.at a.s.now) c.unwrap_or.result = rw c.unwrap_or.ensures (wide_or (drop a.at a.s.now) c.wide_at.result c.wide_at.ensures) in
    (w, solid_at a.s.now a.at c.unwrap_or.result c.if-s-at.false c.if-b.false (sym c.between.ensures ∙ c.if-between.false) w)
