-- By the cases of `is_index`.
use mathlib.Core.Path.{sym, ◌∙◌}
use Rattle.lines_calls.proofs.Answers.{index_long, index_bad, index_good}
use Rattle.lines_calls.proofs.asking.is_index.Goals as goal

pub returns-then-text-gt-LIMIT : goal.returns-then-text-gt-LIMIT
returns-then-text-gt-LIMIT c = index_long c.args.text.now c.args.index.now c.if-text-gt-LIMIT.true

pub returns-in-Some : goal.returns-in-Some
returns-in-Some c =
    index_bad c.args.text.now
    c.args.index.now c.if-text-gt-LIMIT.false (sym c.first_bad.ensures ∙ c.in-Some.is)

pub returns-in-None : goal.returns-in-None
returns-in-None c =
    index_good c.args.text.now c.args.index.now c.if-text-gt-LIMIT.false
    (sym c.first_bad.ensures ∙ c.in-None.is) c.same_starts.ensures
