-- The part is no longer than the extent, so its places are words.
use mathlib.Core.Path.{ap, ◌∙◌}
use mathlib.Core.List.{List}
use Prim.Native.Nat.{ℕ, ◌-◌, ◌≤◌}
use native.Mathlib.Omega.{arith}
use lib.ListN.{length, drop}
use Rattle.laws.proofs.Places.{take_short}
use Rattle.chars.specs.Utf8.{sequences}
use Rattle.findings.specs.Slips.{first_odd}
use Rattle.findings.proofs.slips.odd_in.Goals as goal

pub first_odd-requires : goal.first_odd-requires
first_odd-requires c =
    let a = c.args in
    let h : length c.part-part.result.now ≤ a.end - a.start = rw c.part-part.ensures (take_short (a.end - a.start) (drop a.start a.source.now)) in
    omega arith

pub returns : goal.returns
returns c =
    let args = c.args in
    c.first_odd.ensures ∙ ap (λ (l : List ℕ). first_odd (sequences 0 args.start l)) c.part-part.ensures
