-- Digits: what each call of crate `digits` ensures is `r ≡` its definition, so that no other answer is permitted.
use Rattle.digits.specs.declared.Int.{Int}
use Rattle.std.specs.Prelude.{ℕ, ◌≡◌, refl, Bool, true, false, [], pos, negsuc, None, Option, Some, Ok, Err}
use Rattle.std.proofs.Common.{ap, ◌∙◌, arith}
use Rattle.laws.specs.Quoted.{codes, within}
use Rattle.laws.specs.Texts.{span, starts}
use Rattle.digits.specs.Digits.{digit_of, sign, uinteger, value, signed, whole_of, integer}
use Rattle.digits.specs.Hex.{empty, bad_digit, overflow, hex_digits, hex_after_plus, hex_value, Hex, wrong}
use Rattle.digits.specs.declared.Span.{Span}
use Rattle.digits.specs.declared.Int.TheVariants.{Small, Big}

-- the places from a to before b
abbrev places : ℕ → ℕ → Span
places a b = record { start = a; end = b }

pub record Rows : Type 0 where
  -- hex_value: a value, in either case and with a plus; no digit; a bad digit, alone and where the value would overflow; an overflow
  pub hex : hex_value (codes "+aF") ≡ Ok 0xAF
  pub hex_empty : hex_value [] ≡ wrong empty 0
  pub hex_plus : hex_value (codes "+") ≡ wrong bad_digit 0
  pub hex_bad : hex_value (codes "4G") ≡ wrong bad_digit 1
  pub hex_bad_last : hex_value (codes "10000000G") ≡ wrong bad_digit 8
  pub hex_overflow : hex_value (codes "100000000") ≡ wrong overflow 8
  -- integer: the least and the greatest that are Small, and those past them, whose places are those of their digits
  pub least : integer 10 0 (codes "-9223372036854775808") ≡ Some (Small (negsuc 9223372036854775807))
  pub past_least : integer 10 0 (codes "-9223372036854775809") ≡ Some (Big true (places 1 20))
  pub greatest : integer 10 0 (codes "9223372036854775807") ≡ Some (Small (pos 9223372036854775807))
  pub past_greatest : integer 10 3 (codes "9223372036854775808") ≡ Some (Big false (places 3 22))
  pub no_digits : integer 10 0 (codes "-") ≡ None
  -- whole: a sign is no digit
  pub whole : whole_of 16 true 1 (codes "fF") ≡ Some (Small (negsuc 254))
  pub whole_signed : whole_of 10 false 0 (codes "+1") ≡ None

rows : Rows
unfolding within span starts digit_of sign uinteger value signed whole_of integer hex_digits hex_after_plus hex_value
rows = record {
  hex = refl;
  hex_empty = refl;
  hex_plus = refl;
  hex_bad = refl;
  hex_bad_last = refl;
  hex_overflow = refl;
  least = refl;
  past_least = refl;
  greatest = refl;
  past_greatest = refl;
  no_digits = refl;
  whole = refl;
  whole_signed = refl;
}

-- ---- programs that meet no promise of `hex_value`

-- what is wrong, 0 where nothing is, and where
abbrev detail_of : Hex → ℕ
detail_of (Ok v) = 0
detail_of (Err w) = w.detail

abbrev place_of : Hex → ℕ
place_of (Ok v) = 0
place_of (Err w) = w.place

-- a bad digit is let through
never_lets_through : (v : ℕ) → Ok v ≡ hex_value (codes "4G") → ⊥
never_lets_through v h = omega (arith, ap detail_of (h ∙ rows.hex_bad))

-- an overflow is told where a bad digit stands
never_overflow_first : (p : ℕ) → wrong overflow p ≡ hex_value (codes "10000000G") → ⊥
never_overflow_first p h = omega (arith, ap detail_of (h ∙ rows.hex_bad_last))

-- a lone plus fails elsewhere than at itself, or an overflow elsewhere than at the digit that it comes with
never_behind_plus : (d p : ℕ) → wrong d p ≡ hex_value (codes "+") → p ≡ 0
never_behind_plus d p h = ap place_of (h ∙ rows.hex_plus)

never_elsewhere : (d p : ℕ) → wrong d p ≡ hex_value (codes "100000000") → p ≡ 8
never_elsewhere d p h = ap place_of (h ∙ rows.hex_overflow)

-- ---- nor of `integer`

-- 1 for a Big, and the first place of its digits
abbrev is_big : Option Int → ℕ
is_big None = 0
is_big (Some (Small v)) = 0
is_big (Some (Big n s)) = 1

abbrev first_place : Option Int → ℕ
first_place None = 0
first_place (Some (Small v)) = 0
first_place (Some (Big n s)) = s.start

-- the least Small is made Big
never_big : (n : Bool) (s : Span) → Some (Big n s) ≡ integer 10 0 (codes "-9223372036854775808") → ⊥
never_big n s h = omega (arith, ap is_big (h ∙ rows.least))

-- a Big's digits start elsewhere
never_misplaced : (n : Bool) (s : Span) → Some (Big n s) ≡ integer 10 3 (codes "9223372036854775808") → s.start ≡ 3
never_misplaced n s h = ap first_place (h ∙ rows.past_greatest)
