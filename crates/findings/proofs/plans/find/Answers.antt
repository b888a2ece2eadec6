-- The three cases are the definition's.
use mathlib.Core.Path.{sym, ◌∙◌}
use native.Mathlib.Omega.{arith}
use Rattle.lexer_fields.proofs.Parts.{first_bad_ahead}
use Rattle.findings.proofs.Calls.{call_long, call_bad, call_good}
use Rattle.findings.proofs.plans.find.Goals as goal

pub returns-then-source-gt-LIMIT : goal.returns-then-source-gt-LIMIT
returns-then-source-gt-LIMIT c =
    c.alone.ensures ∙ call_long c.args.source.now c.args.rows.now c.args.findings.now c.if-source-gt-LIMIT.true

pub not_utf8-requires : goal.not_utf8-requires
not_utf8-requires c =
    omega (arith, first_bad_ahead c.args.source.now c.in-Some.b (sym c.first_bad.ensures ∙ c.in-Some.is), c.if-source-gt-LIMIT.false)

pub returns-in-None : goal.returns-in-None
returns-in-None c =
    c.find_good.ensures
    ∙ call_good c.args.source.now c.args.rows.now c.args.findings.now c.if-source-gt-LIMIT.false (sym c.first_bad.ensures ∙ c.in-None.is)

pub returns-in-Some : goal.returns-in-Some
returns-in-Some c =
    c.alone-in-Some.ensures
    ∙ rw c.not_utf8.ensures
    (call_bad c.args.source.now c.args.rows.now c.args.findings.now c.if-source-gt-LIMIT.false c.in-Some.b (sym c.first_bad.ensures ∙ c.in-Some.is))
