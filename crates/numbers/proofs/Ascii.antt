-- A text of ASCII has no bad sequence.
use Rattle.std.proofs.Common.{None}
use Prim.Native.Nat.{ℕ, suc, ◌+◌, ◌<◌}
use mathlib.Core.Path.{◌≡◌, refl, sym, ap}
use mathlib.Core.List.{List, [], ◌∷◌}
use native.Mathlib.Nat.{zero-add}
use native.Mathlib.Omega.{arith}
use lib.ListN.{length}
use Rattle.laws.specs.Texts.{span}
use Rattle.laws.proofs.Places.{past}
use Rattle.chars.specs.Utf8.{ascii, sequences, first_bad}
use Rattle.chars.proofs.Ascii.{ascii_yes, ascii_pass}

abbrev pub Ascii : List ℕ → Type 0
Ascii [] = Unit {0}
Ascii (c ∷ s) = (c < 0x80) × Ascii s

-- it is passed to its end
ascii-span : (s : List ℕ) → Ascii s → span ascii s ≡ length s
unfolding span
ascii-span [] h = refl
ascii-span (c ∷ s) h = rw (ascii_yes c h.0) (ap suc (ascii-span s h.1))

pub ascii_good : (s : List ℕ) → Ascii s → first_bad s ≡ None
unfolding first_bad sequences
ascii_good s h =
    let e = ascii-span s h in
    let z : 0 + length s ≡ length s = zero-add (length s) in
    sym (rw (past s (length s) (omega arith)) at (rw (e, z) at (ascii_pass s 0)))
