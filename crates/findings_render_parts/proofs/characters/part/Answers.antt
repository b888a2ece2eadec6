-- A part that is not there is empty, and one that the text cuts is the rest.
use Rattle.findings_render_parts.proofs.Walks.{part_past, part_none, part_end}
use Rattle.findings_render_parts.proofs.characters.part.Goals as goal

pub returns-then-t-from : goal.returns-then-t-from
returns-then-t-from c = part_past c.args.t.now c.args.from c.args.to c.if-t-from.true

pub returns-then-to-from : goal.returns-then-to-from
returns-then-to-from c =
    part_none c.args.t.now c.args.from c.args.to c.if-to-from.true

pub returns-then-t-to : goal.returns-then-t-to
returns-then-t-to c =
    part_end c.args.t.now c.args.from c.args.to c.if-t-to.true
