-- A byte below 128 is a number of one group (`one_group`).
use Rattle.items_files.proofs.Reader.{one_group}
use Rattle.items_files.proofs.loading.number_at.Goals as goal

pub returns-then-c-lt128 : goal.returns-then-c-lt128
returns-then-c-lt128 c =
    one_group c.args.file.now c.args.at c.requires c.if-c-lt128.true
