-- The place past what fails, by what stands at the front of the bytes there.
use Prim.Native.Nat.{ℕ, ◌+◌, ◌≤◌}
use mathlib.Core.Path.{◌≡◌, refl, sym, ap, ◌∙◌}
use mathlib.Core.List.{List}
use lib.ListN.{length}
use native.Mathlib.Nat.{zero-add}
use borrow.Author.Tests.{ne_eqb}
use Rattle.chars.specs.Utf8 as Utf8
use Rattle.chars.specs.Utf8.{Front, front, placed}
use Rattle.chars.specs.declared.Decoded.{Decoded}
use Rattle.chars.specs.declared.Decoded.TheVariants as decoded
use Rattle.digits.specs.Hex.{empty}
use Rattle.items.specs.Readers.{front_width, past_failing}
use Rattle.items.proofs.Failing.{front_within}

-- where digits should stand nothing does
pub past_none : (d at : ℕ) (t : List ℕ) → d ≡ empty → at ≡ past_failing d at t
unfolding past_failing
past_none d at t h = rw h

-- how many bytes the character has that was decoded
abbrev pub width_of : Decoded → ℕ
width_of (decoded.Char c n) = n
width_of decoded.Bad = 0
width_of decoded.Cut = 0
width_of decoded.End = 0

width_front : (f : Front) → width_of (placed 0 f) ≡ front_width f
width_front (Utf8.char c n) = zero-add n
width_front (Utf8.bad n) = refl
width_front Utf8.cut = refl
width_front Utf8.none = refl

module _ (t : List ℕ) {o : Decoded} (e : o ≡ placed 0 (front t)) (a : Decoded) (f : o ≡ a) where
  decoded_width : width_of a ≡ front_width (front t)
  decoded_width = ap width_of (sym f ∙ e) ∙ width_front (front t)

  pub decoded_within : width_of a ≤ length t
  decoded_within = rw decoded_width (front_within t)

  pub past_one : (d at : ℕ) → (d ≡ empty → ⊥) → at + width_of a ≡ past_failing d at t
  unfolding past_failing
  past_one d at h = rw (ne_eqb d empty h) (ap (λ (n : ℕ). at + n) decoded_width)
