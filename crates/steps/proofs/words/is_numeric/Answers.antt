-- Each answer of the number parser is a case of the definition.
use Rattle.numbers.specs.declared.ParseError.TheVariants as parsed
use Rattle.numbers.proofs.Refused.{unparsed}
use mathlib.Core.Path.{sym, ◌∙◌}
use Rattle.steps.proofs.words.is_numeric.Goals as goal

pub returns-in-Ok : goal.returns-in-Ok
returns-in-Ok c = rw (sym c.parse_number.ensures ∙ c.in-Ok.is)

pub returns-in-Err-NoNumber : goal.returns-in-Err-NoNumber
returns-in-Err-NoNumber c = rw (sym c.parse_number.ensures ∙ unparsed _ _ parsed.NoNumber c.in-Err-NoNumber.is c.in-Err-NoNumber.field-0-is)

pub returns-in-Err-ZeroDenominator : goal.returns-in-Err-ZeroDenominator
returns-in-Err-ZeroDenominator c = rw (sym c.parse_number.ensures ∙ unparsed _ _ parsed.ZeroDenominator c.in-Err-ZeroDenominator.is c.in-Err-ZeroDenominator.field-0-is)
