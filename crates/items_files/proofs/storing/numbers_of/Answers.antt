-- A record that does not go back has no end before its start (`onward`).
use Rattle.items_files.proofs.Records.{onward}
use Rattle.items_files.proofs.storing.numbers_of.Goals as goal

pub overflow_sub-result : goal.overflow_sub-result
overflow_sub-result c = (onward c.args.last c.args.r.nine c.requires).start

pub overflow_sub-result-2 : goal.overflow_sub-result-2
overflow_sub-result-2 c = (onward c.args.last c.args.r.nine c.requires).extent

pub overflow_sub-result-3 : goal.overflow_sub-result-3
overflow_sub-result-3 c = (onward c.args.last c.args.r.nine c.requires).place

pub overflow_sub-result-4 : goal.overflow_sub-result-4
overflow_sub-result-4 c = (onward c.args.last c.args.r.nine c.requires).text
