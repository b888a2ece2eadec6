-- By whether the index is the text's.
use mathlib.Core.Path.{sym, ◌∙◌}
use Rattle.lines_calls.proofs.Answers.{locates_other, locates}
use Rattle.lines_calls.proofs.asking.locate.Goals as goal

pub place_at-requires : goal.place_at-requires
place_at-requires c = sym c.is_index.ensures ∙ c.if-is_index.true

pub returns-then-is_index : goal.returns-then-is_index
returns-then-is_index c = let a = c.args in
    locates a.text.now a.index.now a.place (sym c.is_index.ensures ∙ c.if-is_index.true) c.place_at.ensures

pub returns : goal.returns
returns c = let a = c.args in locates_other a.text.now a.index.now a.place (sym c.is_index.ensures ∙ c.if-is_index.false)
