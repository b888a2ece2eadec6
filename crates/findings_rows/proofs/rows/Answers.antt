-- A text over the limit has no rows; else they are those from where reading starts.
use Prim.Native.Nat.{ℕ}
use mathlib.Core.Path.{ap, ◌∙◌}
use mathlib.Core.List.{List}
use Rattle.lexer.specs.declared.Position.{Position}
use Rattle.findings_rows.specs.Laid.{all_laid}
use Rattle.findings_rows.proofs.Lays.{rows_none, rows_all}
use Rattle.findings_rows.proofs.rows.Goals as goal

pub returns-then-source-gt-LIMIT : goal.returns-then-source-gt-LIMIT
returns-then-source-gt-LIMIT c = rows_none _ _ c.if-source-gt-LIMIT.true

pub returns : goal.returns
returns c =
    c.lay_from.ensures
    ∙ ap (λ (l : List (List ℕ)). all_laid l c.args.words.now)
    (rows_all c.args.source.now c.if-source-gt-LIMIT.false _
    (ap (λ (x : Position). x.spot) c.start-at.ensures))
