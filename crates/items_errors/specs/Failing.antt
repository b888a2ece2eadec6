-- What error 11 points at in report mode, in a user's words (02 (vii)). `whole` are the text's bytes; a and b are the item's place.
use Rattle.std.specs.Prelude.{ℕ, ◌+◌, ◌-◌, ◌^◌, ◌≤◌, ◌<◌, ◌≡◌, true, List, [], ◌∷◌, ◌++◌, length, drop}
use Rattle.chars.specs.Encode.{utf8, width, is_scalar}
use Rattle.digits.specs.Digits.{digit_of, value}
use Rattle.digits.specs.Hex.{empty, bad_digit, overflow}
use Rattle.items.specs.Kinds as kind
use Rattle.items.specs.Items.{Item}
use Rattle.items.proofs.Every.{Every}

abbrev pub IsDigit : ℕ → Type 0
IsDigit c = digit_of c < 16

-- the empty place where digits should stand, right after a byte k of ASCII: `"\x;"`
pub record NoDigits (whole : List ℕ) (a b : ℕ) : Type 0 where
  pub k : ℕ
  pub after : List ℕ
  pub back : 0 < a
  pub stands : drop (a - 1) whole ≡ k ∷ after
  pub ascii : k < 0x80
  pub empty : b ≡ a

-- one character c of the text, which is no hexadecimal digit: `"\x4G1;"`
pub record BadDigit (whole : List ℕ) (a b : ℕ) : Type 0 where
  pub c : ℕ
  pub after : List ℕ
  pub stands : drop a whole ≡ utf8 c ++ after
  pub one : b ≡ a + width c
  pub scalar : is_scalar c ≡ true
  pub wrong : 16 ≤ digit_of c

-- a digit c after the digits ds, whose value fits 32 bits without it and not with it: `"\x100000000;"`
pub record Overflow (whole : List ℕ) (a b : ℕ) : Type 0 where
  pub ds : List ℕ
  pub c : ℕ
  pub after : List ℕ
  pub back : length ds ≤ a
  pub stands : drop (a - length ds) whole ≡ ds ++ c ∷ after
  pub one : b ≡ a + 1
  pub digits : Every IsDigit ds
  pub digit : IsDigit c
  pub fits : value 16 0 ds < 2 ^ 32
  pub large : 2 ^ 32 ≤ value 16 0 (ds ++ c ∷ [])

-- what an item of error 11 points at, by its detail
pub data Fails (whole : List ℕ) (a b : ℕ) : ℕ → Type 0 where
  none : NoDigits whole a b → Fails whole a b empty
  bad : BadDigit whole a b → Fails whole a b bad_digit
  over : Overflow whole a b → Fails whole a b overflow

abbrev pub Pointed : List ℕ → Item → Type 0
Pointed whole i = i.kind ≡ kind.first_error + kind.InvalidHexEscapeLiteral → Fails whole i.place.from i.place.to i.detail
