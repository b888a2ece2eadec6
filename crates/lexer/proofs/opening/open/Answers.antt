-- The tests go in the order of the refusals: 25, 20, 21.
use Rattle.std.proofs.Common.{None, Some}
use mathlib.Core.Path.{sym, ap, ◌∙◌}
use Rattle.lexer.specs.Opening.{opened}
use Rattle.lexer.proofs.Opens.{open_mode, open_long, open_utf8}
use Rattle.lexer.proofs.opening.open.Goals as goal

pub returns-then-mode-gt-REPORT : goal.returns-then-mode-gt-REPORT
returns-then-mode-gt-REPORT c =
    open_mode c.args.source.now c.args.mode c.args.skip c.if-mode-gt-REPORT.true

pub returns-then-source-gt-LIMIT : goal.returns-then-source-gt-LIMIT
returns-then-source-gt-LIMIT c =
    open_long c.args.source.now c.args.mode c.args.skip c.if-mode-gt-REPORT.false c.if-source-gt-LIMIT.true

pub returns-in-None : goal.returns-in-None
returns-in-None c =
    ap opened c.start.ensures
    ∙ open_utf8 c.args.source.now c.args.mode c.args.skip c.if-mode-gt-REPORT.false
    c.if-source-gt-LIMIT.false None (sym c.in-None.is ∙ c.first_bad.ensures)

pub returns-in-Some : goal.returns-in-Some
returns-in-Some c =
    open_utf8 c.args.source.now
    c.args.mode c.args.skip c.if-mode-gt-REPORT.false c.if-source-gt-LIMIT.false
    (Some c.in-Some.at) (sym c.in-Some.is ∙ c.first_bad.ensures)
