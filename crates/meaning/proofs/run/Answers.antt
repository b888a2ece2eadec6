-- One of the plainest numbers is a number; else each answer of the number parser is a case of the definition.
use Rattle.numbers.specs.declared.ParseError.TheVariants as parsed
use Rattle.numbers.proofs.Refused.{unparsed}
use Rattle.numbers.proofs.Plain.{plain_is}
use Rattle.items.specs.Meaning.{run_means}
use mathlib.Core.Path.{sym, ◌∙◌}
use Rattle.meaning.proofs.run.Goals as goal

pub returns-then-is_plain : goal.returns-then-is_plain
unfolding run_means
returns-then-is_plain c = rw ((plain_is c.args.raw.now (sym c.is_plain.ensures ∙ c.if-is_plain.true)).1, c.one.ensures)

pub returns-in-Ok : goal.returns-in-Ok
unfolding run_means
returns-in-Ok c = rw (sym c.parse_number.ensures ∙ c.in-Ok.is, c.one-in-Ok.ensures)

pub returns-in-Err-NoNumber : goal.returns-in-Err-NoNumber
unfolding run_means
returns-in-Err-NoNumber c = rw (sym c.parse_number.ensures ∙ unparsed _ _ parsed.NoNumber c.in-Err-NoNumber.is c.in-Err-NoNumber.field-0-is) c.word.ensures

pub returns-in-Err-ZeroDenominator : goal.returns-in-Err-ZeroDenominator
unfolding run_means
returns-in-Err-ZeroDenominator c = rw (sym c.parse_number.ensures ∙ unparsed _ _ parsed.ZeroDenominator c.in-Err-ZeroDenominator.is c.in-Err-ZeroDenominator.field-0-is, c.one-in-Err-ZeroDenominator.ensures)
