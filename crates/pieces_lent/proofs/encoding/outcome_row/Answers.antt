-- An arm for each outcome.
use Rattle.pieces_lent.proofs.encoding.outcome_row.Goals as goal

pub returns-in-Token : goal.returns-in-Token
returns-in-Token c = rw c.in-Token.is c.row.ensures

pub returns-in-Str : goal.returns-in-Str
returns-in-Str c = rw c.in-Str.is c.row-in-Str.ensures

pub returns-in-HereStr : goal.returns-in-HereStr
returns-in-HereStr c = rw c.in-HereStr.is c.row-in-HereStr.ensures

pub returns-in-Word : goal.returns-in-Word
returns-in-Word c = rw c.in-Word.is c.row-in-Word.ensures

pub returns-in-Run : goal.returns-in-Run
returns-in-Run c = rw c.in-Run.is c.row-in-Run.ensures

pub returns-in-Lined : goal.returns-in-Lined
returns-in-Lined c = rw c.in-Lined.is c.row-in-Lined.ensures

pub returns-in-Keyword : goal.returns-in-Keyword
returns-in-Keyword c = rw c.in-Keyword.is c.row-in-Keyword.ensures

pub returns-in-Character : goal.returns-in-Character
returns-in-Character c = rw c.in-Character.is c.row-in-Character.ensures

pub returns-in-Error : goal.returns-in-Error
returns-in-Error c = rw c.in-Error.is c.row-in-Error.ensures

pub returns-in-ErrorAt : goal.returns-in-ErrorAt
returns-in-ErrorAt c = rw c.in-ErrorAt.is c.row-in-ErrorAt.ensures
