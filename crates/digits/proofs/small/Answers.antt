-- A negative number is -1 minus its magnitude less 1, so that -2^63 is reached without leaving 64 bits.
use Rattle.digits.proofs.Integers.{signed_zero, signed_pos, signed_neg, signed_fits}
use mathlib.Core.Path.{◌∙◌}
use mir.Facts.{to_z-of_z}
use mir.Syntax.{w64}
use borrow.Author.Rules.{sfits_of}
use Rattle.digits.proofs.small.Goals as goal

pub returns-then-m-eq0 : goal.returns-then-m-eq0
returns-then-m-eq0 c = signed_zero _ _ c.if-m-eq0.true

pub overflow_cast-result : goal.overflow_cast-result
overflow_cast-result c = sfits_of (signed_neg _ _ c.if-neg.true c.if-m-eq0.false c.requires).0

pub overflow_sub-result-then-neg : goal.overflow_sub-result-then-neg
overflow_sub-result-then-neg c = rw (signed_neg _ _ c.if-neg.true c.if-m-eq0.false c.requires).1 (signed_fits _ _ c.requires)

pub returns-then-neg : goal.returns-then-neg
returns-then-neg c =
    let e = (signed_neg _ _ c.if-neg.true c.if-m-eq0.false c.requires).1 in
    to_z-of_z {w = w64} (rw e (signed_fits _ _ c.requires)) ∙ e

pub overflow_cast-result-2 : goal.overflow_cast-result-2
overflow_cast-result-2 c = sfits_of (signed_pos _ _ c.if-neg.false c.requires).0

pub returns : goal.returns
returns c = (signed_pos _ _ c.if-neg.false c.requires).1
