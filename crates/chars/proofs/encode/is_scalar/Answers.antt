-- Below the surrogates every number is a character's, among them none; past them the first range is out, and the second ends where the
-- test does (Scalar).
use borrow.Author.Tests.{lt-ltb, lt-leb}
use mathlib.Core.Path.{sym, ◌∙◌}
use Rattle.chars.proofs.Scalar.{scalar_low, scalar_gap, scalar_past}
use Rattle.chars.proofs.encode.is_scalar.Goals as goal

pub returns-then-c-lt-SURROGATES : goal.returns-then-c-lt-SURROGATES
returns-then-c-lt-SURROGATES c = lt-ltb _ _ c.if-c-lt-SURROGATES.true ∙ sym (scalar_low _ c.if-c-lt-SURROGATES.true)

pub returns-then-c-ge-SURROGATES_END : goal.returns-then-c-ge-SURROGATES_END
returns-then-c-ge-SURROGATES_END c = sym (scalar_past _ c.if-c-ge-SURROGATES_END.true)

pub returns-else-c-ge-SURROGATES_END : goal.returns-else-c-ge-SURROGATES_END
returns-else-c-ge-SURROGATES_END c = lt-leb _ _ c.if-c-ge-SURROGATES_END.false ∙ sym (scalar_gap _ c.if-c-lt-SURROGATES.false c.if-c-ge-SURROGATES_END.false)
