-- One store or none.
use native.Mathlib.Omega.{arith}
use mathlib.Core.Path.{refl}
use Rattle.items_writing.proofs.QuotedBytes.{put_one}
use Rattle.items_writing.proofs.quoting.put_lone.Goals as goal

pub bounds-out-0 : goal.bounds-out-0
bounds-out-0 c = let h = rw c.if-there.true at c.requires in omega arith

pub returns-then-there : goal.returns-then-there
returns-then-there c = let h = rw c.if-there.true at c.requires in rw c.if-there.true (refl, put_one c.args.out.now c.args.b (omega arith))

pub returns : goal.returns
returns c = rw c.if-there.false (refl, refl)
