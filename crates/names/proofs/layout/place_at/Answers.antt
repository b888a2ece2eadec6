-- The two bounds decide: each of the three returns is one arm of `place_at`.
use mathlib.Core.Path.{◌∙◌}
use Rattle.names.proofs.Laws.{place_back, place_past, place_part}
use Rattle.names.proofs.layout.place_at.Goals as goal

pub returns-then-e-s : goal.returns-then-e-s
returns-then-e-s c = c.nowhere.ensures ∙ place_back _ _ _ c.word-s.ensures c.word-e.ensures c.if-e-s.true

pub returns-then-e-gt-HALF_BYTES : goal.returns-then-e-gt-HALF_BYTES
returns-then-e-gt-HALF_BYTES c = c.nowhere-then-e-gt-HALF_BYTES.ensures ∙ place_past _ _ _ c.word-s.ensures
    c.word-e.ensures c.if-e-s.false c.if-e-gt-HALF_BYTES.true

pub returns : goal.returns
returns c = place_part _ _ _ c.word-s.ensures c.word-e.ensures c.if-e-s.false c.if-e-gt-HALF_BYTES.false
