-- Small facts that the proofs of the functions share.
use Rattle.std.proofs.Common.{Option, Some}
use Prim.Native.Nat.{ℕ, ◌+◌}
use mathlib.Core.Path.{◌≡◌, subst}
use mathlib.Core.List.{List}
use lib.ListN.{length, take}
use lib.Seq.{length-take-le}
use native.Mathlib.Omega.{arith}
use Rattle.pieces.specs.declared.Marks.{Marks}
use Rattle.pieces.specs.declared.State.{State}
use Rattle.pieces.specs.Calls.{What, off}
use Rattle.pieces_giving.specs.Inner.{HoldsItem, CharFits, BeyondFits}

pub off_both : {s t : State} {w v : What} → s ≡ t → w ≡ v → off s w ≡ off t v
off_both e f = cc

pub beyond_fits : (b : Option ℕ) (c at : ℕ) → b ≡ Some c → BeyondFits b at → CharFits c at
beyond_fits b c at e h = subst (λ (x : Option ℕ). BeyondFits x at) e h

pub ends_at : (m : Marks) (buf text : List ℕ) (start : ℕ) → HoldsItem m buf text start → start + length (take m.len buf) ≡ m.at
ends_at m buf text start h =
    let l : length (take m.len buf) ≡ m.len = length-take-le m.len buf (omega (arith, h.small, h.full)) in omega (arith, h.ends)
