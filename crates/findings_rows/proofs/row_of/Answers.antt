-- By whether the kind is an error's.
use mathlib.Core.Path.{sym}
use borrow.Author.Tests.{le-leb, lt-leb}
use Rattle.items.specs.Kinds as kind
use Rattle.findings_rows.proofs.row_of.Goals as goal

pub returns-then-r-lt-FIRST_ERROR : goal.returns-then-r-lt-FIRST_ERROR
returns-then-r-lt-FIRST_ERROR c = sym (rw (lt-leb kind.first_error _ c.if-r-lt-FIRST_ERROR.true))

pub returns : goal.returns
returns c = sym (rw (le-leb kind.first_error _ c.if-r-lt-FIRST_ERROR.false))
