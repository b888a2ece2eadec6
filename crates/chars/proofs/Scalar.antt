-- Which numbers are characters': the two ranges, the surrogates between them, and what lies past.
use Prim.Native.Nat.{ℕ, ◌≤◌, ◌<◌}
use native.Mathlib.Omega.{arith}
use mathlib.Core.Path.{◌≡◌, refl, sym, ◌∙◌}
use mathlib.Core.Bool.{Bool, true, false, ◌||◌}
use mathlib.Core.Logic.{◌⊎◌, inl, inr}
use lib.Dec.{ltb}
use borrow.Author.Tests.{ltb-true, ltb-false}
use Rattle.laws.proofs.Choice.{by_bool, within_is}
use Rattle.laws.specs.Quoted.{within}
use Rattle.chars.specs.Encode.{is_scalar}
use Rattle.chars.proofs.Table.{within_in, within_below, within_above}

pub scalar_true : (c : ℕ) → is_scalar c ≡ true → (c < 0xD800) ⊎ ((0xE000 ≤ c) × (c < 0x110000))
unfolding is_scalar
scalar_true c = go (within 0x0000 0xD7FF c) refl
  where
    go : (x : Bool) → within 0x0000 0xD7FF c ≡ x → (x || within 0xE000 0x10FFFF c) ≡ true → (c < 0xD800) ⊎ ((0xE000 ≤ c) × (c < 0x110000))
    go true e f = let h = within_is 0x0000 0xD7FF c e in inl (omega arith)
    go false e f = let h = within_is 0xE000 0x10FFFF c f in inr (h.0, omega arith)

or_true : (x : Bool) → (x || true) ≡ true
or_true true = refl
or_true false = refl

pub scalar_low : (c : ℕ) → c < 0xD800 → is_scalar c ≡ true
unfolding is_scalar
scalar_low c h = rw (within_in 0x0000 0xD7FF c (omega arith) (omega arith))

pub scalar_high : (c : ℕ) → 0xE000 ≤ c → c < 0x110000 → is_scalar c ≡ true
unfolding is_scalar
scalar_high c l h = rw (within_in 0xE000 0x10FFFF c l (omega arith)) (or_true (within 0x0000 0xD7FF c))

pub scalar_gap : (c : ℕ) → 0xD800 ≤ c → c < 0xE000 → is_scalar c ≡ false
unfolding is_scalar
scalar_gap c l h = rw (within_above 0x0000 0xD7FF c l, within_below 0xE000 0x10FFFF c h)

-- past the surrogates only the end of the second range is left to test
pub scalar_past : (c : ℕ) → 0xE000 ≤ c → is_scalar c ≡ ltb c 0x110000
unfolding is_scalar
scalar_past c l =
    by_bool (ltb c 0x110000)
    (λ e. let h : c < 0x110000 = ltb-true c 0x110000 e in scalar_high c l h ∙ sym e)
    (λ e. let h : 0x110000 ≤ c = ltb-false c 0x110000 e in rw (within_above 0x0000 0xD7FF c (omega arith), within_above 0xE000 0x10FFFF c h) (sym e))
