-- The parts are judged.
use Rattle.numbers_standard.proofs.Call.{parse_parts}
use Rattle.numbers_standard.proofs.parse_standard.Goals as goal

pub returns : goal.returns
returns c = parse_parts _ _ _ c.number_parts.ensures c.judge.ensures
