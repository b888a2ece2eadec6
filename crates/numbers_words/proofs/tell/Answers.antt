-- Each arm tells the number and the words that `number_or` and `flattened` name for its case.
use Rattle.numbers.specs.declared.NumberError.TheVariants as answer
use Rattle.numbers.proofs.Refused.{refused_as}
use mathlib.Core.Path.{sym, ap}
use Rattle.numbers.specs.Call.{answered}
use Rattle.numbers_words.specs.Words.{refusal_words, flattened, number_or}
use Rattle.numbers_words.proofs.Words.{told_of}
use Rattle.numbers_words.proofs.tell.Goals as goal

pub returns-in-Ok : goal.returns-in-Ok
unfolding flattened number_or
returns-in-Ok c = told_of _ (ap answered (sym c.in-Ok.is)) c.tell_parts.ensures

pub returns-in-Err-NoNumber : goal.returns-in-Err-NoNumber
unfolding flattened number_or
returns-in-Err-NoNumber c = told_of _ (ap answered (sym (refused_as _ _ answer.NoNumber c.in-Err-NoNumber.is (rw c.in-Err-NoNumber.is at c.in-Err-NoNumber.field-0-is)))) c.tell_bare.ensures

pub returns-in-Err-ZeroDenominator : goal.returns-in-Err-ZeroDenominator
unfolding flattened number_or
returns-in-Err-ZeroDenominator c = told_of _ (ap answered (sym (refused_as _ _ answer.ZeroDenominator c.in-Err-ZeroDenominator.is (rw c.in-Err-ZeroDenominator.is at c.in-Err-ZeroDenominator.field-0-is)))) c.tell_bare-in-Err-ZeroDenominator.ensures

pub returns-in-Err-TooLong : goal.returns-in-Err-TooLong
unfolding flattened refusal_words number_or
returns-in-Err-TooLong c = told_of _ (ap answered (sym (refused_as _ _ answer.TooLong c.in-Err-TooLong.is (rw c.in-Err-TooLong.is at c.in-Err-TooLong.field-0-is)))) c.tell_refused.ensures

pub returns-in-Err-NotUtf8 : goal.returns-in-Err-NotUtf8
unfolding flattened refusal_words number_or
returns-in-Err-NotUtf8 c = told_of _ (ap answered (sym (refused_as _ _ (answer.NotUtf8 _) c.in-Err-NotUtf8.is (rw c.in-Err-NotUtf8.is at c.in-Err-NotUtf8.field-0-is)))) c.tell_refused-in-Err-NotUtf8.ensures
