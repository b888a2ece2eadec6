-- By the cases of `locate_all_of`.
use mathlib.Core.Path.{sym, ◌∙◌}
use Rattle.lines_calls.proofs.Answers.{all_other, all_short, all_served}
use Rattle.lines_calls.proofs.asking.locate_all.Goals as goal

pub returns-then-found-n : goal.returns-then-found-n
returns-then-found-n c =
    let a = c.args in
    all_short a.text.now a.index.now a.places.now a.found.now (sym c.is_index.ensures ∙ c.if-is_index.true) c.if-found-n.true

pub put_answers-requires : goal.put_answers-requires
put_answers-requires c = (sym c.is_index.ensures ∙ c.if-is_index.true, c.if-found-n.false)

pub returns-then-is_index : goal.returns-then-is_index
returns-then-is_index c =
    let a = c.args in
    all_served a.text.now a.index.now a.places.now a.found.now
    (sym c.is_index.ensures ∙ c.if-is_index.true) c.if-found-n.false c.put_answers.ensures

pub returns : goal.returns
returns c =
    let a = c.args in
    all_other a.text.now a.index.now a.places.now a.found.now (sym c.is_index.ensures ∙ c.if-is_index.false)
