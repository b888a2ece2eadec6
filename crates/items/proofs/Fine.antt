-- What an outcome says of its item: a string's bytes stand between quotes, an error's range lies in the text, a detail is a small number
-- or a character of the text. That it holds of the items that are read, stands in `Outcomes`.
use Rattle.std.proofs.Common.{Ok, Err, Result}
use Rattle.items.specs.declared.Outcome.{Outcome}
use Rattle.items.specs.declared.Outcome.TheVariants.{Token, Str, HereStr, Word, Run, Lined, Keyword, Character, Error, ErrorAt}
use Rattle.items.specs.declared.CharError.{CharError}
use Rattle.items.specs.declared.CharError.TheVariants.{Wrong, WrongAt}
use Rattle.items.specs.Readers.{last_is, scalar_of}
use Rattle.items.specs.Readers.{here_ends}
use Rattle.laws.specs.Quoted.{code}
use Rattle.laws.proofs.Choice.{if_all, if_is}
use Rattle.chars.specs.Encode.{is_scalar}
use Rattle.digits.specs.Hex.{hex_value, hex_digits, hex_after_plus, Hex}
use Rattle.digits.specs.Digits.{digit_of}
use Prim.Native.Nat.{ℕ, ◌+◌, ◌*◌, ◌^◌, ◌≤◌, ◌<◌}
use mathlib.Core.Path.{◌≡◌}
use mathlib.Core.Bool.{true}
use mathlib.Core.List.{List, [], ◌∷◌}
use lib.ListN.{length}
use lib.Dec.{eqb, ltb}
use native.Mathlib.Omega.{arith}
use borrow.Author.Tests.{ltb-true}
use Rattle.items.specs.Kinds as kind

-- two bytes at least, the last of them b
abbrev pub Between : ℕ → List ℕ → Type 0
Between b raw = (2 ≤ length raw) × (last_is b raw ≡ true)

-- an error's number and detail, and a range in a text of n bytes
abbrev pub Numbered : (ℕ → Type 0) → ℕ → ℕ → Type 0
Numbered D e d = (e ≤ kind.last_error) × D d

abbrev pub Ranged : ℕ → ℕ → ℕ → Type 0
Ranged n a b = (a ≤ b) × (b ≤ n)

-- an outcome, of the bytes raw in a text of n bytes; D is what is known of a detail
abbrev pub Fine : (ℕ → Type 0) → ℕ → List ℕ → Outcome → Type 0
Fine D n raw (Token k d) = (k < kind.first_error) × D d
Fine D n raw Str = Between (code "\"") raw
Fine D n raw HereStr = here_ends raw ≡ true
Fine D n raw Word = Unit {0}
Fine D n raw Run = Unit {0}
Fine D n raw Lined = Between (code "|") raw
Fine D n raw Keyword = Unit {0}
Fine D n raw Character = Unit {0}
Fine D n raw (Error e d) = Numbered D e d
Fine D n raw (ErrorAt e d a b) = Numbered D e d × Ranged n a b

-- a character's value, and the value of hex digits
abbrev pub FineValue : (ℕ → Type 0) → Result ℕ CharError → Type 0
FineValue D (Ok c) = D c
FineValue D (Err (Wrong e d)) = Numbered D e d
FineValue D (Err (WrongAt e d p)) = Numbered D e d

abbrev pub FineHex : Hex → Type 0
FineHex (Ok v) = v < 2 ^ 32
FineHex (Err w) = w.detail < 2 ^ 32

-- ---- numbers

hex_digits_lem : (p v : ℕ) (s : List ℕ) → v < 2 ^ 32 → FineHex (hex_digits p v s)
unfolding hex_digits
hex_digits_lem p v [] h = h
hex_digits_lem p v (c ∷ s) h =
    if_all FineHex (ltb (digit_of c) 16)
    (if_is FineHex (ltb (v * 16 + digit_of c) (2 ^ 32)) (λ e. hex_digits_lem (p + 1) (v * 16 + digit_of c) s (ltb-true _ _ e)) (λ e. omega arith))
    (omega arith)

hex_plus : (s : List ℕ) → FineHex (hex_after_plus s)
unfolding hex_after_plus
hex_plus [] = omega arith
hex_plus (c ∷ s) = hex_digits_lem 1 0 (c ∷ s) (omega arith)

pub hex_value_lem : (s : List ℕ) → FineHex (hex_value s)
unfolding hex_value
hex_value_lem [] = omega arith
hex_value_lem (c ∷ s) = if_all FineHex (eqb c (code "+")) (hex_plus s) (hex_digits_lem 0 0 (c ∷ s) (omega arith))

-- ---- D holds of numbers below 2^32

module _ (D : ℕ → Type 0) (small : (d : ℕ) → d < 2 ^ 32 → D d) where
  fine_hex : (h : Hex) → FineHex h → FineValue D (scalar_of h)
  unfolding scalar_of
  fine_hex (Ok v) h = if_all (FineValue D) (is_scalar v) (small v h) (omega arith, small v h)
  fine_hex (Err w) h = (omega arith, small w.detail h)

  pub fine_scalar : (s : List ℕ) → FineValue D (scalar_of (hex_value s))
  fine_scalar s = fine_hex (hex_value s) (hex_value_lem s)
