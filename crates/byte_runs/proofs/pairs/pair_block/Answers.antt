-- The loop keeps: where all passed, the bytes before i are paired with the next (Together).
use Rattle.byte_runs.proofs.Together.{paired_next}
use Rattle.byte_runs.proofs.pairs.pair_block.Goals as goal

pub loop-i-preserved : goal.loop-i-preserved
loop-i-preserved c =
    let l = c.loop-i in
    let f = c.args in
    paired_next f.t.now f.at l.i l.all c.is_paired-all.result l.invariant c.is_paired-all.ensures
