-- Too few records, too little text memory, or all is written: the cases of the definition, whose counts are those of the counting pass.
use Rattle.lexer.specs.Reading.{all_items}
use Rattle.lexer.proofs.Delivered.{few_records, little_text_holds, room, delivered}
use Rattle.lexer.proofs.whole.deliver_counted.Goals as goal
use Rattle.lexer.proofs.whole.deliver_counted.Goals.{then-recs-needed-via-then-recs-needed, then-recs-needed-via-else-recs-needed+then-text-needed}

pub returns-then-recs-needed : goal.returns-then-recs-needed
returns-then-recs-needed c =
    let is = all_items c.args.source.now c.args.spot in
    elim c.then-recs-needed.branch [
      | then-recs-needed-via-then-recs-needed w ↦
          few_records is c.args.recs.now c.args.text.now c.count-needed.result c.count-needed.ensures w.if-recs-needed.true
      | then-recs-needed-via-else-recs-needed+then-text-needed w ↦
          little_text_holds is c.args.recs.now c.args.text.now c.count-needed.result c.count-needed.ensures w.if-recs-needed.false w.if-text-needed.true
    ]

pub write-requires : goal.write-requires
write-requires c = let rest =
    room (all_items c.args.source.now c.args.spot) c.args.recs.now c.args.text.now
    c.count-needed.result c.count-needed.ensures c.if-recs-needed.false c.if-text-needed.false in record {
      source_len_bound = c.requires;
      spot_in_bounds = rest.0;
      spot_in_bounds_2 = rest.1;
    }

pub returns : goal.returns
returns c =
    delivered (all_items c.args.source.now c.args.spot) c.args.recs.now c.args.text.now
    c.count-needed.result c.count-needed.ensures c.if-recs-needed.false
    c.if-text-needed.false c.write.ensures.recs_after c.write.ensures.text_after
