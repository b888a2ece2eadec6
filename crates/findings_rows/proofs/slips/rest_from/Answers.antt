-- An unclosed hex escape goes back by one, which at 0 is 0.
use mathlib.Core.Path.{refl}
use native.Mathlib.Omega.{arith}
use Rattle.findings_rows.proofs.Escapes.{rest_same, rest_before}
use Rattle.findings_rows.proofs.slips.rest_from.Goals as goal

pub returns-then-kind : goal.returns-then-kind
returns-then-kind c = rest_same _ _ c.if-kind.true

pub returns-then-at-eq0 : goal.returns-then-at-eq0
returns-then-at-eq0 c = rest_before _ _ c.if-kind.false (omega arith)

pub returns : goal.returns
returns c = rest_before _ _ c.if-kind.false refl
