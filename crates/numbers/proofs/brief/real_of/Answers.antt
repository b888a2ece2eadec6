-- Each return is a branch of `outlined`.
use Rattle.numbers.proofs.Outlines.{outlined_integer, outlined_decimal}
use Rattle.digits.specs.Digits.{short}
use Rattle.digits.proofs.DecimalRuns.{short-top}
use mathlib.Core.Path.{refl}
use native.Mathlib.Omega.{arith}
use Rattle.numbers.proofs.brief.real_of.Goals as goal

pub small-requires : goal.small-requires
small-requires c = short-top c.args.o.negative short short _ (omega arith) refl c.requires.0

pub returns-then-dot-end : goal.returns-then-dot-end
returns-then-dot-end c = outlined_integer _ _ c.if-dot-end.true c.requires.0 c.small.ensures

pub returns : goal.returns
returns c = outlined_decimal _ c.if-dot-end.false
