-- The ten words that stand there (`ten_at`).
use Rattle.items_files.proofs.Records.{ten_at}
use Rattle.items_files.proofs.storing.record_at.Goals as goal

pub returns : goal.returns
returns c =
    ten_at c.args.words.now c.args.i c.requires
