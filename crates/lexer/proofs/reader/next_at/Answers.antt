-- Each return is a case of the definition: the source is too long, the end, a text that does not fit, an item.
use mathlib.Core.Path.{sym, ◌∙◌}
use native.Mathlib.Omega.{arith}
use Rattle.lexer.proofs.Delivered.{reply_long, reply_end, reply_room, reply_fits, reply_item}
use Rattle.lexer.proofs.reader.next_at.Goals as goal

pub returns-then-source-gt-LIMIT : goal.returns-then-source-gt-LIMIT
returns-then-source-gt-LIMIT c =
    reply_long c.args.source.now c.args.position c.args.text.now c.if-source-gt-LIMIT.true

pub next_item-requires : goal.next_item-requires
next_item-requires c = (c.if-source-gt-LIMIT.false, omega arith)

pub returns-then-text-bytes : goal.returns-then-text-bytes
returns-then-text-bytes c =
    reply_room c.args.source.now c.args.position c.args.text.now c.if-source-gt-LIMIT.false
    c.in-Some.found.nine c.in-Some.found.after (sym c.in-Some.is ∙ c.next_item.ensures)
    c.free_after-bytes.result c.free_after-bytes.ensures c.if-text-bytes.true

pub put_text-requires : goal.put_text-requires
put_text-requires c =
    reply_fits c.args.source.now c.args.position c.args.text.now c.if-source-gt-LIMIT.false
    c.in-Some.found.nine c.in-Some.found.after (sym c.in-Some.is ∙ c.next_item.ensures)
    c.free_after-bytes.result c.free_after-bytes.ensures c.if-text-bytes.false

pub returns : goal.returns
returns c =
    reply_item c.args.source.now c.args.position c.args.text.now c.if-source-gt-LIMIT.false
    c.in-Some.found.nine c.in-Some.found.after (sym c.in-Some.is ∙ c.next_item.ensures)
    c.free_after-bytes.result c.free_after-bytes.ensures c.if-text-bytes.false
    c.depth_after.result c.depth_after.ensures c.put_text.ensures

pub returns-in_default : goal.returns-in_default
returns-in_default c =
    reply_end c.args.source.now c.args.position
    c.args.text.now c.if-source-gt-LIMIT.false (sym c.in_default.is ∙ c.next_item.ensures)
