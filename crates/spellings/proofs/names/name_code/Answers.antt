-- `name_code` looks through the rows from the first on: what the rows from here on say is what the whole table says.
use mathlib.Core.Path.{refl, sym, ◌∙◌}
use Rattle.items.proofs.LoneCharacters.{letter_unnamed}
use Rattle.spellings.proofs.Table.{named_here, named_later, named_never}
use Rattle.spellings.proofs.names.name_code.Goals as goal

pub returns-then-t-le1 : goal.returns-then-t-le1
returns-then-t-le1 c = sym (letter_unnamed c.args.t.now c.if-t-le1.true)

pub loop-k-init : goal.loop-k-init
loop-k-init c = refl

pub returns-then-is_name : goal.returns-then-is_name
returns-then-is_name c =
    c.row_code.ensures ∙ sym (c.loop-k.invariant
    ∙ named_here _ c.loop-k.k c.loop-k-test.true (sym c.is_name.ensures ∙ c.if-is_name.true))

pub loop-k-preserved : goal.loop-k-preserved
loop-k-preserved c = c.loop-k.invariant ∙ named_later _ c.loop-k.k c.loop-k-test.true (sym c.is_name.ensures ∙ c.if-is_name.false)

pub returns : goal.returns
returns c = sym (c.loop-k.invariant ∙ named_never _ c.loop-k.k c.loop-k-test.false)
