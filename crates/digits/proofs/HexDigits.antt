-- The hexadecimal digits from a place on, after digits of the value v.
use Rattle.std.proofs.Common.{Ok, Err}
use Rattle.digits.specs.Digits.{digit_of}
use Rattle.digits.specs.Hex.{Hex, wrong, empty, bad_digit, overflow, hex_digits, hex_after_plus, hex_value}
use Rattle.laws.specs.Quoted.{code}
use Rattle.laws.proofs.Places.{past, here}
use Prim.Native.Nat.{ℕ, ◌+◌, ◌*◌, ◌^◌, ◌≤◌, ◌<◌}
use mathlib.Core.Path.{◌≡◌, ap}
use mathlib.Core.List.{List}
use lib.ListN.{length, get_or, drop}
use native.Mathlib.Omega.{arith}
use borrow.Author.Tests.{lt-ltb, le-ltb, ne_eqb}

module _ (t : List ℕ) (p v : ℕ) where
  pub hex_end : length t ≤ p → Ok v ≡ hex_digits p v (drop p t)
  unfolding hex_digits
  hex_end h = simp (past t p h)

  module _ (d : ℕ) (h : p < length t) (e : d ≡ digit_of (get_or t p 0)) where
    pub hex_bad : 16 ≤ d → wrong bad_digit p ≡ hex_digits p v (drop p t)
    unfolding hex_digits
    hex_bad l = simp (here t p h, ← e, le-ltb d 16 l)

    pub hex_over : d < 16 → 2 ^ 32 ≤ v * 16 + d → wrong overflow p ≡ hex_digits p v (drop p t)
    unfolding hex_digits
    hex_over l k = simp (here t p h, ← e, lt-ltb d 16 l, le-ltb (v * 16 + d) (2 ^ 32) k)

    pub hex_more : d < 16 → v * 16 + d < 2 ^ 32 → hex_digits p v (drop p t) ≡ hex_digits (p + 1) (v * 16 + d) (drop (p + 1) t)
    unfolding hex_digits
    hex_more l k = simp (here t p h, ← e, lt-ltb d 16 l, lt-ltb (v * 16 + d) (2 ^ 32) k)

-- the first byte of the text
module _ (t : List ℕ) where
  pub hex_empty : length t ≡ 0 → wrong empty 0 ≡ hex_value t
  unfolding hex_value
  hex_empty h = rw (past t 0 (omega arith))

  module _ (h : length t ≡ 0 → ⊥) where
    pub hex_plain : (get_or t 0 0 ≡ code "+" → ⊥) → hex_digits 0 0 t ≡ hex_value t
    unfolding hex_value
    hex_plain e = rw (here t 0 (omega arith)) (simp (ne_eqb (get_or t 0 0) (code "+") e))

    module _ (e : get_or t 0 0 ≡ code "+") where
      pub hex_lone : length t ≡ 1 → wrong bad_digit 0 ≡ hex_value t
      unfolding hex_value hex_after_plus
      hex_lone l = rw (here t 0 (omega arith), e, past t 1 (omega arith))

      pub hex_plus : (length t ≡ 1 → ⊥) → hex_digits 1 0 (drop 1 t) ≡ hex_value t
      unfolding hex_value hex_after_plus
      hex_plus l = rw (here t 0 (omega arith), e, here t 1 (omega arith))

-- two errors that are one have one detail and one place
abbrev detail_in : Hex → ℕ
detail_in (Ok v) = 0
detail_in (Err w) = w.detail

abbrev place_in : Hex → ℕ
place_in (Ok v) = 0
place_in (Err w) = w.place

pub same_wrong : (d e p q : ℕ) → wrong d p ≡ wrong e q → (d ≡ e) × (p ≡ q)
same_wrong d e p q h = (ap detail_in h, ap place_in h)
