-- Too few rows or records, too little text memory, or all is written: the cases of the definition, whose counts are those of the counting pass.
use Rattle.lexer_fields.proofs.Delivered.{few_rows, few_records, little_text_holds, room, delivered}
use Rattle.lexer_fields.proofs.whole.deliver_counted.Goals as goal
use Rattle.lexer_fields.proofs.whole.deliver_counted.Goals.{then-rows-parts-via-then-rows-parts, then-rows-parts-via-else-rows-parts+then-recs-needed, then-rows-parts-via-else-rows-parts+else-recs-needed+then-text-needed}

pub returns-then-rows-parts : goal.returns-then-rows-parts
returns-then-rows-parts c =
    elim c.then-rows-parts.branch [
      | then-rows-parts-via-then-rows-parts w ↦ few_rows c.args.parts.source.now c.args.parts.ends.now c.args.parts.mode c.args.parts.skip c.args.rows.now c.args.recs.now c.args.text.now c.count-needed.result c.count-needed.ensures w.if-rows-parts.true
      | then-rows-parts-via-else-rows-parts+then-recs-needed w ↦ few_records c.args.parts.source.now c.args.parts.ends.now c.args.parts.mode c.args.parts.skip c.args.rows.now c.args.recs.now c.args.text.now c.count-needed.result c.count-needed.ensures w.if-rows-parts.false w.if-recs-needed.true
      | then-rows-parts-via-else-rows-parts+else-recs-needed+then-text-needed w ↦ little_text_holds c.args.parts.source.now c.args.parts.ends.now c.args.parts.mode c.args.parts.skip c.args.rows.now c.args.recs.now c.args.text.now c.count-needed.result c.count-needed.ensures w.if-rows-parts.false w.if-recs-needed.false w.if-text-needed.true
    ]

pub write-requires : goal.write-requires
write-requires c = record {
  fine = c.requires.fine;
  all_known = c.requires.all_known;
  room = room c.args.parts.source.now c.args.parts.ends.now c.args.parts.mode c.args.parts.skip c.args.rows.now c.args.recs.now c.args.text.now
      c.count-needed.result c.count-needed.ensures c.if-rows-parts.false c.if-recs-needed.false c.if-text-needed.false;
}

pub returns : goal.returns
returns c =
    delivered c.args.parts.source.now c.args.parts.ends.now c.args.parts.mode c.args.parts.skip c.args.rows.now c.args.recs.now c.args.text.now
    c.count-needed.result c.count-needed.ensures c.if-rows-parts.false c.if-recs-needed.false c.if-text-needed.false
    c.write.ensures.rows_after c.write.ensures.recs_after c.write.ensures.text_after
