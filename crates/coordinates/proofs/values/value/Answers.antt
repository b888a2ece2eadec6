-- The same with integers, whose value is that of the decimal that each is with a dot behind it.
use Rattle.coordinates.proofs.Wholes.{value_long, value_told}
use Rattle.std.proofs.Common.{◌∙◌, arith}
use Rattle.coordinates.proofs.values.value.Goals as goal

pub returns-then-t-gt-LIMIT : goal.returns-then-t-gt-LIMIT
returns-then-t-gt-LIMIT c = value_long _ c.if-t-gt-LIMIT.true

pub read-requires : goal.read-requires
read-requires c = let l = c.if-t-gt-LIMIT.false in omega arith

pub returns : goal.returns
returns c = c.read.ensures ∙ value_told _ c.if-t-gt-LIMIT.false
