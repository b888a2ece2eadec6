-- The byte ends the text, begins an escape or stands for itself, by the definition's two tests.
use mathlib.Core.Path.{sym, ◌∙◌}
use Rattle.escapes.proofs.Cases.{is_end, is_backslash, is_plain, quotes_end, quotes_plain, quotes_escape}
use Rattle.escapes.proofs.elements.read_element.Goals as goal

pub returns-then-b-delimiter : goal.returns-then-b-delimiter
returns-then-b-delimiter c = let a = c.args in rw c.give.ensures (quotes_end a.k a.raw.now
    a.at c.requires (is_end _ _ (c.if-b-delimiter.true ∙ c.delimiter.ensures)))

pub returns-then-b-eq92 : goal.returns-then-b-eq92
returns-then-b-eq92 c = let a = c.args in
    quotes_escape a.k a.raw.now a.at c.requires
    (is_backslash _ _ (λ h. c.if-b-delimiter.false (h ∙ sym c.delimiter.ensures)) c.if-b-eq92.true)
    c.read_string_escape.ensures

pub returns : goal.returns
returns c = let a = c.args in
    rw c.give-2.ensures (quotes_plain a.k a.raw.now a.at c.requires
    (is_plain _ _ (λ h. c.if-b-delimiter.false (h ∙ sym c.delimiter.ensures)) c.if-b-eq92.false))
