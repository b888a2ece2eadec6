-- By the form; two marks stand around the bytes.
use native.Mathlib.Omega.{arith}
use mathlib.Core.Path.{ap}
use lib.ListN.{length}
use Rattle.items_writing.proofs.QuotedBytes.{quoted_size, quoted_by_lem}
use Rattle.items_writing.proofs.quoting.shown_length.Goals as goal

pub returns-in-None : goal.returns-in-None
returns-in-None c = rw c.in-None.is

pub returns-in-Some : goal.returns-in-Some
returns-in-Some c =
    rw c.in-Some.is (omega (
      arith,
      c.escaped_length.ensures.0,
      quoted_size c.closing.result c.args.t.now,
      ap length
          (quoted_by_lem c.in-Some.k c.args.t.now c.closing.ensures),
    ))
