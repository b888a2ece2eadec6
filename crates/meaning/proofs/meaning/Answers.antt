-- Each outcome is a case of the definition; an error's number is one of 01's, so its kind fits a word.
use Rattle.meaning.specs.Meant.{error_of}
use native.Mathlib.Omega.{arith}
use mathlib.Core.Path.{ap}
use Rattle.meaning.proofs.meaning.Goals as goal

pub overflow_add-error : goal.overflow_add-error
overflow_add-error c = omega (arith, ap error_of c.in-Error.is)

pub overflow_add-error-in-ErrorAt : goal.overflow_add-error-in-ErrorAt
overflow_add-error-in-ErrorAt c = omega (arith, ap error_of c.in-ErrorAt.is)

pub returns-in-Token : goal.returns-in-Token
returns-in-Token c = rw (c.in-Token.is, c.one.ensures)

pub returns-in-Str : goal.returns-in-Str
returns-in-Str c = rw (c.in-Str.is, c.one-in-Str.ensures, c.string_text.ensures)

pub returns-in-HereStr : goal.returns-in-HereStr
returns-in-HereStr c = rw (c.in-HereStr.is, c.one-in-HereStr.ensures, c.here_text.ensures)

pub returns-in-Word : goal.returns-in-Word
returns-in-Word c = rw c.in-Word.is c.word.ensures

pub returns-in-Run : goal.returns-in-Run
returns-in-Run c = rw c.in-Run.is c.run.ensures

pub returns-in-Lined : goal.returns-in-Lined
returns-in-Lined c = rw (c.in-Lined.is, c.one-in-Lined.ensures, c.lined_text.ensures)

pub returns-in-Keyword : goal.returns-in-Keyword
returns-in-Keyword c = rw (c.in-Keyword.is, c.one-in-Keyword.ensures)

pub returns-in-Character : goal.returns-in-Character
returns-in-Character c = rw c.in-Character.is c.character_item.ensures

pub returns-in-Error : goal.returns-in-Error
returns-in-Error c = rw (c.in-Error.is, c.one-in-Error.ensures)

pub returns-in-ErrorAt : goal.returns-in-ErrorAt
returns-in-ErrorAt c = rw (c.in-ErrorAt.is, c.one-in-ErrorAt.ensures)
