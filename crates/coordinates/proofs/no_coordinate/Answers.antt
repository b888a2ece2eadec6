-- A text past the limit, then the first bad sequence, then 28. A text of ASCII has no bad sequence.
use Rattle.coordinates.proofs.Ascii.{ascii_whole}
use Rattle.coordinates.proofs.Calls.{judged_long, judged_good, judged_bad}
use Rattle.std.proofs.Common.{sym, ◌∙◌}
use Rattle.coordinates.proofs.no_coordinate.Goals as goal

pub returns-then-t-gt-LIMIT : goal.returns-then-t-gt-LIMIT
returns-then-t-gt-LIMIT c = judged_long _ _ c.if-t-gt-LIMIT.true

pub returns-then-is_ascii : goal.returns-then-is_ascii
returns-then-is_ascii c = judged_good _ _ c.if-t-gt-LIMIT.false (ascii_whole _ (sym c.if-is_ascii.true ∙ c.is_ascii.ensures))

pub returns-in-None : goal.returns-in-None
returns-in-None c = judged_good _ _ c.if-t-gt-LIMIT.false (sym c.in-None.is
    ∙ c.first_bad.ensures)

pub returns-in-Some : goal.returns-in-Some
returns-in-Some c =
    judged_bad _ _ c.if-t-gt-LIMIT.false _ (sym c.in-Some.is
    ∙ c.first_bad.ensures)
