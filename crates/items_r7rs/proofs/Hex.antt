-- Hexadecimal digits: they are ASCII, and their value is the standard's.
use Rattle.std.proofs.Common.{Ok}
use Prim.Native.Nat.{ℕ, ◌+◌, ◌-◌, ◌*◌, ◌^◌, ◌≤◌, ◌<◌}
use mathlib.Core.Path.{◌≡◌, refl}
use mathlib.Core.Bool.{true, false}
use mathlib.Core.List.{List, map}
use mathlib.Core.Logic.{⊎_elim}
use lib.ListN.{length}
use lib.Dec.{eqb, ltb}
use native.Mathlib.Omega.{arith}
use native.Mathlib.Nat.{le_refl}
use borrow.Author.Tests.{lt-ltb, eqb-true}
use Rattle.laws.specs.Quoted.{codes, code, within}
use Rattle.chars.specs.Blank.{is_blank}
use Rattle.chars.specs.Encode.{is_scalar, bytes_of}
use Rattle.chars.proofs.Scalar.{scalar_true}
use Rattle.digits.specs.Hex.{hex_value, hex_digits}
use Rattle.digits.specs.Digits.{digit_of}
use Rattle.items.specs.declared.Quotes.{Quotes}
use Rattle.items.specs.declared.Quotes.TheVariants.{Double, Lines}
use Rattle.items.specs.Classes.{stops_hex, in_hex, ends_hash, in_hash, digit, stays_hash}
use Rattle.items.specs.Readers.{scalar_of}
use Rattle.items_r7rs.specs.Escape.{digits, HexDigit, decimal, lower, upper, HexDigits, no_more, and_more, HexScalar, scalar}
use Rattle.items_r7rs.specs.Repeated.{Many, done, more}
use Rattle.items_r7rs.proofs.Bytes.{utf8_low}
use Rattle.items_r7rs.proofs.Classes.{at_one_of}

-- what holds of each hexadecimal digit holds of one
module _ {A : Type 0} (f : ℕ → A) (a : A) where
  pub at_digit : map f digits ≡ map (λ k. a) digits → map f (codes "abcdef") ≡ map (λ k. a) (codes "abcdef")
      → map f (codes "ABCDEF") ≡ map (λ k. a) (codes "ABCDEF") → (c : ℕ) {d : ℕ} → HexDigit c d → f c ≡ a
  at_digit e₁ e₂ e₃ c (decimal h) = at_one_of f a digits c e₁ h
  at_digit e₁ e₂ e₃ c (lower h) = at_one_of f a (codes "abcdef") c e₂ h
  at_digit e₁ e₂ e₃ c (upper h) = at_one_of f a (codes "ABCDEF") c e₃ h

digit_value : (c : ℕ) {d : ℕ} → HexDigit c d → digit_of c ≡ d
unfolding digit_of within
digit_value c (decimal h) = eqb-true _ _ (at_one_of (λ k. eqb (digit_of k) (k - code "0")) true digits c refl h)
digit_value c (lower h) = eqb-true _ _ (at_one_of (λ k. eqb (digit_of k) (k - code "a" + 10)) true (codes "abcdef") c refl h)
digit_value c (upper h) = eqb-true _ _ (at_one_of (λ k. eqb (digit_of k) (k - code "A" + 10)) true (codes "ABCDEF") c refl h)

digit_fits : (c : ℕ) {d : ℕ} → HexDigit c d → ltb (digit_of c) 16 ≡ true
unfolding digit_of within
digit_fits c h = at_digit (λ k. ltb (digit_of k) 16) true refl refl refl c h

-- the value grows
grows : {n v : ℕ} {t : List ℕ} → HexDigits n t v → n ≤ v
grows (no_more {n = n}) = le_refl n
grows (and_more {n = n} {d = d} h m) = omega (arith, grows m)

digits_value : (p : ℕ) {n v : ℕ} {t : List ℕ} → HexDigits n t v → v < 2 ^ 32 → hex_digits p n t ≡ Ok v
unfolding hex_digits
digits_value p no_more l = refl
digits_value p (and_more {n = n} {c = c} {d = d} h m) l =
    let b : n * 16 + d < 2 ^ 32 = omega (arith, grows m) in
    rw (digit_fits c h) (rw (digit_value c h) (rw (lt-ltb (n * 16 + d) (2 ^ 32) b) (digits_value (p + 1) m l)))

scalar_small : (v : ℕ) → is_scalar v ≡ true → v < 2 ^ 32
scalar_small v h = ⊎_elim (λ e. omega arith) (λ e. omega arith) (scalar_true v h)

pub scalar_value : {h : List ℕ} {v : ℕ} → HexScalar h v → hex_value h ≡ Ok v
unfolding hex_value
scalar_value (scalar {c = c} {v = v} (and_more x m) s) =
    rw (at_digit (λ k. eqb k (code "+")) false refl refl refl c x) (digits_value 0 (and_more x m) (scalar_small v s))

pub is_scalar_lem : {h : List ℕ} {v : ℕ} → HexScalar h v → is_scalar v ≡ true
is_scalar_lem (scalar m s) = s

pub scalar_of_lem : {h : List ℕ} {v : ℕ} → HexScalar h v → scalar_of (hex_value h) ≡ Ok v
unfolding scalar_of
scalar_of_lem s = rw (scalar_value s) (rw (is_scalar_lem s))

pub scalar_some : {h : List ℕ} {v : ℕ} → HexScalar h v → 0 < length h
scalar_some (scalar m s) = omega arith

-- ---- what digits are where they stand

-- the digits of a hexadecimal number, one by one
pub data Hexadecimal : ℕ → Type 0 where
  a_digit : {c d : ℕ} → HexDigit c d → Hexadecimal c

all_digits : {n v : ℕ} {t : List ℕ} → HexDigits n t v → Many Hexadecimal t
all_digits no_more = done
all_digits (and_more h m) = more (a_digit h) (all_digits m)

pub scalar_digits : {h : List ℕ} {v : ℕ} → HexScalar h v → Many Hexadecimal h
scalar_digits (scalar m s) = all_digits m

-- they are their bytes
pub digits_bytes : {t : List ℕ} → Many Hexadecimal t → bytes_of t ≡ t
unfolding bytes_of
digits_bytes done = refl
digits_bytes (more {c = c} (a_digit h) m) = rw (utf8_low c (at_digit (λ k. ltb k 0x80) true refl refl refl c h), digits_bytes m)

-- they go on in an escape
pub digit_in_escape : (k : Quotes) {c : ℕ} → Hexadecimal c → in_hex k (code ";") c ≡ digit
unfolding in_hex stops_hex
digit_in_escape Double (a_digit {c = c} h) = at_digit (in_hex Double (code ";")) digit refl refl refl c h
digit_in_escape Lines (a_digit {c = c} h) = at_digit (in_hex Lines (code ";")) digit refl refl refl c h

-- and in a word that starts with `#`
pub digit_stays : {c : ℕ} → Hexadecimal c → in_hash c ≡ stays_hash
unfolding in_hash ends_hash is_blank
digit_stays (a_digit {c = c} h) = at_digit in_hash stays_hash refl refl refl c h
