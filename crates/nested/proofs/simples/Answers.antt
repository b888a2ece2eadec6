-- Where not even one node has room, the promise asks for nothing to be written; else the writing scan says it all.
use Rattle.nested.proofs.Runs.{run_unwritten}
use Rattle.nested.proofs.simples.Goals as goal

pub returns-then-nodes-lt-NODE_WORDS : goal.returns-then-nodes-lt-NODE_WORDS
returns-then-nodes-lt-NODE_WORDS c =
    run_unwritten c.args.records.now
    c.args.from c.args.w c.simples_end.result c.args.nodes.now c.if-nodes-lt-NODE_WORDS.true c.simples_end.ensures
