-- With a record and a byte of text memory for each byte of the source the items fit, and writing counts them (Delivered); else they are
-- counted first.
use Rattle.lexer.specs.Reading.{all_items}
use Rattle.lexer.proofs.Delivered.{ample}
use Rattle.lexer.proofs.whole.deliver.Goals as goal

pub returns : goal.returns
returns c =
    let f = c.args in
    let done = c.write in
    ample (all_items f.source.now f.spot) f.recs.now f.text.now
    done.result done.ensures.value f.source.now c.requires.1 c.if-recs-source.false
    c.if-text-source.false done.ensures.recs_after done.ensures.text_after
