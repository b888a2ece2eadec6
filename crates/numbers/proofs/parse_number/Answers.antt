-- The parts are judged.
use Rattle.numbers.proofs.Judged.{parse_parts}
use Rattle.numbers.proofs.parse_number.Goals as goal

pub returns : goal.returns
returns c = parse_parts _ _ _ c.number_parts.ensures c.judge.ensures
