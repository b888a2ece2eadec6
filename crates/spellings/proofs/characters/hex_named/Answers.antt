-- `hex_named` asks the definition's tests one by one; the closing brace is not the opening one, so that there is a part between them.
use mathlib.Core.Path.{◌∙◌}
use native.Mathlib.Omega.{arith}
use Rattle.spellings.proofs.Forms.{hex_x_lem, hex_u_lem, hex_unclosed, hex_room, hex_braces}
use Rattle.spellings.proofs.characters.hex_named.Goals as goal

pub returns-then-t-ne117 : goal.returns-then-t-ne117
returns-then-t-ne117 c = c.hex_part.ensures ∙ hex_x_lem c.args.t.now c.if-t-ne117.true

pub returns-then-t-ne123 : goal.returns-then-t-ne123
returns-then-t-ne123 c = c.hex_part-then-t-ne123.ensures ∙ hex_u_lem c.args.t.now c.if-t-ne117.false c.if-t-ne123.true

pub returns-then-t-last-ne125 : goal.returns-then-t-last-ne125
returns-then-t-last-ne125 c = hex_unclosed c.args.t.now c.if-t-ne117.false c.if-t-ne123.false c.if-t-last-ne125.true

pub hex_part-requires-2 : goal.hex_part-requires-2
hex_part-requires-2 c =
    (hex_room c.args.t.now c.if-t-ne117.false c.if-t-ne123.false c.if-t-last-ne125.false c.requires, omega arith)

pub returns : goal.returns
returns c = c.hex_part-2.ensures ∙ hex_braces c.args.t.now
    c.if-t-ne117.false c.if-t-ne123.false c.if-t-last-ne125.false
