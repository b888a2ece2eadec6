-- Each arm is a case of `judged`.
use Rattle.numbers.proofs.Judged.{judge_zero, judge_is, judge_no}
use mathlib.Core.Path.{sym, ◌∙◌}
use Rattle.numbers.proofs.judge.Goals as goal

pub returns-then-zero_parts : goal.returns-then-zero_parts
returns-then-zero_parts c = judge_zero _ _ c.in-Some.is (sym c.if-zero_parts.true ∙ c.zero_parts.ensures)

pub returns-else-zero_parts : goal.returns-else-zero_parts
returns-else-zero_parts c = judge_is _ _ c.in-Some.is (sym c.if-zero_parts.false ∙ c.zero_parts.ensures)

pub returns-in-None : goal.returns-in-None
returns-in-None c = judge_no _ c.in-None.is
