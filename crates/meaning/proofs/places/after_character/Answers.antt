-- Each answer of the character reader is a case of the definition.
use Rattle.std.proofs.Common.{Err}
use mathlib.Core.Path.{sym, ap, ◌∙◌}
use Rattle.items.specs.Meaning.{character_of}
use Rattle.meaning.proofs.Errors.{failing_within}
use Rattle.meaning.proofs.places.after_character.Goals as goal

pub failing_at-requires : goal.failing_at-requires
failing_at-requires c = (
  rw c.in-Err-WrongAt.field-0-is
      (failing_within c.args.report c.args.raw.now
      (sym (ap (character_of c.args.report) c.rest.ensures) ∙ sym c.character.ensures ∙ c.in-Err-WrongAt.is ∙ ap Err c.in-Err-WrongAt.field-0-is)),
  c.requires,
)

pub returns-else-report : goal.returns-else-report
returns-else-report c = rw (
  sym c.rest.ensures,
  sym c.character.ensures ∙ c.in-Err-WrongAt.is ∙ ap Err c.in-Err-WrongAt.field-0-is,
  c.if-report.false,
)
