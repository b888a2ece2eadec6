-- A number below 128 has one group.
use native.Mathlib.Omega.{arith}
use Rattle.items_files.proofs.Groups.{groups_some, one_stored}
use Rattle.items_files.proofs.storing.put_number.Goals as goal

pub bounds-out-0 : goal.bounds-out-0
bounds-out-0 c = omega (arith, groups_some 4 c.args.n, c.requires)

pub returns-then-n-lt128 : goal.returns-then-n-lt128
returns-then-n-lt128 c = one_stored c.args.n c.args.out.now c.if-n-lt128.true (omega (arith, groups_some 4 c.args.n, c.requires))
