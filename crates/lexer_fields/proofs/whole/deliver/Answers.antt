-- With a row for each part, and a record and a byte of text memory for each byte of the source, the parts fit, and writing counts their items;
-- else they are counted first.
use Rattle.lexer_fields.proofs.Delivered.{ample_room, ample}
use Rattle.lexer_fields.proofs.whole.deliver.Goals as goal

pub write-requires : goal.write-requires
write-requires c = record {
  fine = c.requires.fine;
  all_known = c.requires.all_known;
  room = ample_room c.args.parts.source.now c.args.parts.ends.now c.args.parts.mode c.args.parts.skip c.args.rows.now c.args.recs.now c.args.text.now
      c.requires.fine c.if-rows-parts.false c.if-recs-parts.false c.if-text-parts.false;
}

pub returns : goal.returns
returns c =
    ample c.args.parts.source.now c.args.parts.ends.now c.args.parts.mode c.args.parts.skip c.args.rows.now c.args.recs.now c.args.text.now
    c.requires.fine c.if-rows-parts.false c.if-recs-parts.false c.if-text-parts.false c.write.result
    c.write.ensures.value c.write.ensures.rows_after c.write.ensures.recs_after c.write.ensures.text_after
