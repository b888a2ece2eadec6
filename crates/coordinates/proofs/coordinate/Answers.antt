-- A text past the limit is refused; any other is read by its parts, without integers.
use Rattle.coordinates.proofs.Calls.{call_long, call_told}
use Rattle.std.proofs.Common.{◌∙◌, arith}
use Rattle.coordinates.proofs.coordinate.Goals as goal

pub returns-then-t-gt-LIMIT : goal.returns-then-t-gt-LIMIT
returns-then-t-gt-LIMIT c = call_long _ c.if-t-gt-LIMIT.true

pub read-requires : goal.read-requires
read-requires c = let l = c.if-t-gt-LIMIT.false in omega arith

pub returns : goal.returns
returns c = c.read.ensures ∙ call_told _ c.if-t-gt-LIMIT.false
