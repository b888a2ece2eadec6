-- By the form.
use mathlib.Core.Path.{ap}
use lib.ListN.{length}
use native.Mathlib.Omega.{arith}
use Rattle.items_writing.proofs.QuotedBytes.{quoted_by_lem}
use Rattle.items_writing.proofs.quoting.put_shown.Goals as goal

pub put_plain-requires : goal.put_plain-requires
put_plain-requires c = rw c.in-None.is at c.requires

pub put_quoted-requires : goal.put_quoted-requires
put_quoted-requires c =
    let e = quoted_by_lem c.in-Some.k c.args.t.now c.closing.ensures in let h = rw
    c.in-Some.is at c.requires in omega (arith, ap length e)

pub returns-in-None : goal.returns-in-None
returns-in-None c = rw c.in-None.is c.put_plain.ensures

pub returns-in-Some : goal.returns-in-Some
returns-in-Some c =
    let e = quoted_by_lem c.in-Some.k c.args.t.now c.closing.ensures in
    rw c.in-Some.is (rw e c.put_quoted.ensures)
