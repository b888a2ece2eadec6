-- A small letter belongs to a word (Kept), a space or a bracket to none; else the tests are those of the definition, in its order.
use borrow.Author.Tests.{lt-ltb, le-ltb}
use mathlib.Core.Path.{sym, ap, ◌∙◌}
use Rattle.chars.specs.Blank.{is_blank}
use Rattle.items.specs.Classes.{breaks_word}
use Rattle.steps.proofs.Kept.{letter_words}
use Rattle.steps.proofs.runs.of_word.Goals as goal

pub returns-then-between : goal.returns-then-between
returns-then-between c = sym (letter_words c.args.c (sym c.between.ensures ∙ c.if-between.true))

pub returns-then-c-eq32 : goal.returns-then-c-eq32
unfolding breaks_word is_blank
returns-then-c-eq32 c = rw c.if-c-eq32.true

pub returns-then-c-eq41 : goal.returns-then-c-eq41
unfolding breaks_word is_blank
returns-then-c-eq41 c = rw c.if-c-eq41.true

pub returns-then-c-ge-ASCII_END : goal.returns-then-c-ge-ASCII_END
returns-then-c-ge-ASCII_END c = rw (le-ltb c.args.c 0x80 c.if-c-ge-ASCII_END.true)

pub returns-then-breaks_word : goal.returns-then-breaks_word
returns-then-breaks_word c =
    rw (lt-ltb c.args.c 0x80 c.if-c-ge-ASCII_END.false, sym (c.breaks_word.ensures ∙ ap breaks_word c.from.ensures) ∙ c.if-breaks_word.true)

pub returns : goal.returns
returns c =
    rw (lt-ltb c.args.c 0x80 c.if-c-ge-ASCII_END.false, sym (c.breaks_word.ensures ∙ ap breaks_word c.from.ensures) ∙ c.if-breaks_word.false)
