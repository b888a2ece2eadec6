-- The loop keeps: from the place i on stand carriage returns alone.
use native.Mathlib.Omega.{arith}
use Prim.Native.Nat.{ℕ, ◌+◌, ◌-◌}
use mathlib.Core.Path.{◌≡◌, sym, ap, ◌∙◌}
use lib.ListN.{take}
use Rattle.items.specs.Readers.{unreturned}
use Rattle.steps.proofs.Sought.{cut_back}
use Rattle.steps.proofs.search.kept_end.Goals as goal

pub loop-i-preserved : goal.loop-i-preserved
loop-i-preserved c =
    let l = c.loop-i in
    let line = c.args.line.now in
    let e : l.i ≡ l.i - 1 + 1 = omega arith in
    (omega arith, sym (ap (λ (k : ℕ). unreturned (take k line)) e ∙ cut_back line (l.i - 1) (omega arith) c.if-line-i-ne13.false) ∙ l.invariant.1)
