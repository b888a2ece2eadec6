-- A prefix, a sign and digits of its radix to the end of the text, which is short in any radix, so that their value fits.
use Rattle.numbers.proofs.Judged.{prefix_le}
use Rattle.numbers.proofs.RadixNumbers.{prefixed_told, run_end_in}
use Rattle.digits.proofs.RadixRuns.{radix_top}
use Prim.Native.Nat.{◌≤◌}
use mathlib.Core.Logic.{inr}
use Rattle.numbers.proofs.brief.brief_radix.Goals as goal

pub short_run-run-requires : goal.short_run-run-requires
short_run-run-requires c =
    let h : c.prefix-radix.result ≤ 16 = rw c.prefix-radix.ensures (prefix_le _) in
    (c.if-t-gt-SHORT_IN_ANY.false, h)

pub small-requires : goal.small-requires
small-requires c =
    radix_top c.starts_at-negative.result _ _ _ c.if-t-gt-SHORT_IN_ANY.false (run_end_in _ _ _ _ c.short_run-run.ensures.0 c.if-t-start.false) c.short_run-run.ensures.2

pub returns : goal.returns
returns c =
    let told = c.short_run-run.ensures in
    inr
    (prefixed_told _ _ _ _ _ _ _ c.prefix-radix.ensures c.if-radix-eq-NO_RADIX.false c.starts_at-negative.ensures c.sign_end-start.ensures
    told.0 c.if-t-start.false c.if-run-t.false (told.1 c.if-run-t.false)
    (radix_top c.starts_at-negative.result _ _ _ c.if-t-gt-SHORT_IN_ANY.false (run_end_in _ _ _ _ told.0 c.if-t-start.false) told.2) c.small.ensures)
