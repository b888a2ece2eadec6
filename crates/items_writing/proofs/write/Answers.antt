-- Each answer is a case of the definition: 48 and 47 by the judge, then 20 and 22 by the length, else the text.
use Rattle.std.proofs.lemmas.Result.{err_from_is_err_and}
use Rattle.items_writing.proofs.Answers.{answer_refused, answer_right, answer_long, answer_room, answer_few, answer_written}
use Rattle.items_writing.proofs.write.Goals as goal

pub returns-in_err-judge : goal.returns-in_err-judge
returns-in_err-judge c =
    let p = err_from_is_err_and c.from_residual.result c.from_residual.ensures.1 in
    rw (p.1, p.2) (answer_refused c.args.records.now c.args.source.now c.args.text.now c.args.out.now _ c.in_err-judge.ensures)

pub measure-n-requires : goal.measure-n-requires
measure-n-requires c =
    answer_right c.args.records.now c.args.source.now c.args.text.now c.args.out.now c.in_ok-judge.ensures

pub returns-then-n-gt-LIMIT : goal.returns-then-n-gt-LIMIT
returns-then-n-gt-LIMIT c =
    answer_long c.args.records.now c.args.source.now c.args.text.now c.args.out.now
    c.in_ok-judge.ensures c.measure-n.ensures c.if-n-gt-LIMIT.true

pub returns-then-out-n : goal.returns-then-out-n
returns-then-out-n c =
    answer_few c.args.records.now c.args.source.now c.args.text.now c.args.out.now
    c.in_ok-judge.ensures c.measure-n.ensures
    c.if-n-gt-LIMIT.false c.if-out-n.true

pub put-requires : goal.put-requires
put-requires c = record {
  all_right = answer_right c.args.records.now c.args.source.now c.args.text.now c.args.out.now c.in_ok-judge.ensures;
  true_in_bounds = answer_room c.args.records.now
      c.args.source.now c.args.text.now c.args.out.now c.in_ok-judge.ensures
      c.measure-n.ensures c.if-n-gt-LIMIT.false c.if-out-n.false;
}

pub returns : goal.returns
returns c =
    answer_written c.args.records.now c.args.source.now c.args.text.now c.args.out.now
    c.in_ok-judge.ensures c.measure-n.ensures
    c.if-n-gt-LIMIT.false c.if-out-n.false c.put.ensures
