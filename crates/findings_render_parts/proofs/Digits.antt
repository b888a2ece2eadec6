-- Digits, one after the other.
use Prim.Native.Nat.{ℕ, zero, suc, ◌+◌, ◌-◌, ◌/◌, ◌%◌, ◌^◌, ◌≤◌, ◌<◌}
use mathlib.Core.Bool.{Bool}
use mathlib.Core.List.{[], ◌∷◌, ◌++◌}
use mathlib.Core.Path.{◌≡◌, refl, ap, ◌∙◌}
use native.Mathlib.Numerals.{add-one, sub-one}
use native.Mathlib.Omega.{arith}
use borrow.Author.Tests.{le-leb, lt-leb}
use Rattle.findings_render_parts.specs.Printed.{digit, base, digits, tens_up_to}

pub digits_on : (hex : Bool) (w n : ℕ) → 0 < w → digits hex w n ≡ (digit ((n / base hex ^ (w - 1)) % base hex) ∷ []) ++ digits hex (w - 1) n
unfolding digits
digits_on hex zero n h = absurd (omega arith)
digits_on hex (suc w) n h = rw (sub-one (suc w))

pub digits_end : (hex : Bool) (w n : ℕ) → w ≤ 0 → digits hex w n ≡ []
unfolding digits
digits_end hex zero n h = refl
digits_end hex (suc w) n h = absurd (omega arith)

pub tens_hit : (k n : ℕ) → 10 ^ (k + 1) ≤ n → tens_up_to (k + 1) n ≡ tens_up_to k n + 1
unfolding tens_up_to
tens_hit k n h = ap (λ (j : ℕ). tens_up_to j n) (add-one k) ∙ rw (le-leb (10 ^ (k + 1)) n h)

pub tens_miss : (k n : ℕ) → n < 10 ^ (k + 1) → tens_up_to (k + 1) n ≡ tens_up_to k n
unfolding tens_up_to
tens_miss k n h = ap (λ (j : ℕ). tens_up_to j n) (add-one k) ∙ rw (lt-leb (10 ^ (k + 1)) n h) (omega arith)
