-- A word by what it spells, a run by whether it is a number; all others are none (law `other_none`).
use Rattle.numbers.specs.declared.ParseError.TheVariants as parsed
use Rattle.numbers.proofs.Refused.{unparsed}
use borrow.Enum.Refused.{opened}
use Rattle.items_writing.specs.Decide.{is_name}
use Rattle.items_writing.proofs.WordTurns.{name_number, name_none, name_zero, other_none}
use Rattle.items_writing.proofs.word.is_name.Goals as goal

pub returns-in-Word : goal.returns-in-Word
unfolding is_name
returns-in-Word c = rw c.in-Word.is c.name_word.ensures

pub returns-in-Ok : goal.returns-in-Ok
unfolding is_name
returns-in-Ok c = rw c.in-Run.is (name_number _ _ c.parse_number.ensures c.in-Ok.is)

pub returns-in-Err-NoNumber : goal.returns-in-Err-NoNumber
unfolding is_name
returns-in-Err-NoNumber c =
    rw c.in-Run.is
    (name_none _ c.parse_number.ensures (unparsed _ _ parsed.NoNumber c.in-Err-NoNumber.is c.in-Err-NoNumber.field-0-is) c.name_word-in-Err-NoNumber.ensures)

pub returns-in-Err-ZeroDenominator : goal.returns-in-Err-ZeroDenominator
unfolding is_name
returns-in-Err-ZeroDenominator c = rw c.in-Run.is (name_zero _ c.parse_number.ensures (unparsed _ _ parsed.ZeroDenominator c.in-Err-ZeroDenominator.is c.in-Err-ZeroDenominator.field-0-is))

pub returns-in_default : goal.returns-in_default
returns-in_default c = let f = c.args in (other_none f.what (opened c.in_default.in_default-own.keys3) f.raw.now).0
