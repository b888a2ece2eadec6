-- One store or two.
use native.Mathlib.Omega.{arith}
use mathlib.Core.Path.{refl, sym, ap, ◌∙◌}
use lib.ListN.{length, length-set}
use Rattle.items_writing.proofs.QuotedBytes.{few_bytes, two_bytes, one_byte, put_one, put_two}
use Rattle.items_writing.proofs.quoting.put_byte.Goals as goal

pub bounds-out-0 : goal.bounds-out-0
bounds-out-0 c = omega (arith, (few_bytes c.args.mark c.args.b).0)

pub bounds-out-1 : goal.bounds-out-1
bounds-out-1 c =
    simp length-set (omega (arith, ap length (two_bytes c.args.mark c.args.b (sym c.is_marked.ensures ∙ c.if-is_marked.true))))

pub returns-then-is_marked : goal.returns-then-is_marked
returns-then-is_marked c =
    let e = two_bytes c.args.mark c.args.b (sym c.is_marked.ensures ∙ c.if-is_marked.true) in rw e
    (refl, put_two c.args.out.now _ _ (omega (arith, ap length e)))

pub bounds-out-0-2 : goal.bounds-out-0-2
bounds-out-0-2 c = omega (arith, (few_bytes c.args.mark c.args.b).0)

pub returns : goal.returns
returns c =
    let e = one_byte c.args.mark c.args.b (sym c.is_marked.ensures ∙ c.if-is_marked.false) in rw e (refl, put_one c.args.out.now _ (omega (arith, ap length e)))
