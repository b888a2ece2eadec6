-- A part to the end is what is left; past the end that is nothing.
use lib.ListN.{drop_of_length-le}
use lib.Seq.{drop-length}
use Rattle.laws.proofs.Lent.{part_rest}
use native.Mathlib.Omega.{arith}
use Rattle.spellings.proofs.failing.rest.Goals as goal

pub returns-then-raw-n : goal.returns-then-raw-n
returns-then-raw-n c = rw (part_rest, drop-length, drop_of_length-le c.args.raw.now {i = c.args.n} (omega arith))

pub returns : goal.returns
returns c = part_rest c.args.raw.now c.args.n
