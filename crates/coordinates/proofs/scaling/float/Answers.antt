-- A whole number up to 2^53 is exact as a float, and the sign is put on what is rounded, zero included.
use Rattle.std.proofs.Common.{le→leb}
use lib.Ieee.{binary64, of_int, in_float}
use Rattle.coordinates.proofs.Floats.{neg-round}
use Rattle.coordinates.proofs.scaling.float.Goals as goal

pub int_to_float-x : goal.int_to_float-x
unfolding in_float
int_to_float-x c = le→leb _ _ c.requires

pub returns-then-neg : goal.returns-then-neg
unfolding of_int
returns-then-neg c = rw c.if-neg.true (neg-round binary64 c.args.m 1)

pub returns : goal.returns
unfolding of_int
returns c = rw c.if-neg.false
