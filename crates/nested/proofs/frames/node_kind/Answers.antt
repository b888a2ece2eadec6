-- The places of the frames part them as `node_kind` does: with a dot, brackets without one, marks, the others.
use mathlib.Core.Path.{sym, ◌∙◌}
use Rattle.nested.proofs.Steps.{kind_dotted, kind_shape, kind_mark, kind_none}
use Rattle.nested.proofs.frames.node_kind.Goals as goal

pub returns-then-g-gt-HOLDS : goal.returns-then-g-gt-HOLDS
returns-then-g-gt-HOLDS c = kind_dotted c.args.f (rw c.stage_of-g.ensures at c.if-g-gt-HOLDS.true)

pub returns-then-g-ge-FRESH : goal.returns-then-g-ge-FRESH
returns-then-g-ge-FRESH c =
    c.shape_kind.ensures ∙ rw c.bracket_of.ensures (kind_shape c.args.f (rw c.stage_of-g.ensures at
    c.if-g-ge-FRESH.true) (rw c.stage_of-g.ensures at c.if-g-gt-HOLDS.false))

pub returns-then-g-eq-QUOTING : goal.returns-then-g-eq-QUOTING
returns-then-g-eq-QUOTING c = kind_mark c.args.f (sym c.stage_of-g.ensures ∙ c.if-g-eq-QUOTING.true)

pub returns : goal.returns
returns c = kind_none c.args.f (rw c.stage_of-g.ensures at c.if-g-ge-FRESH.false)
    (λ q. c.if-g-eq-QUOTING.false (c.stage_of-g.ensures ∙ q))
