-- One store says it (Ended).
use Rattle.exports.proofs.Ended.{end_stored}
use Rattle.exports.proofs.quick.put_end.Goals as goal

pub returns : goal.returns
returns c = end_stored c.args.words.now c.requires
