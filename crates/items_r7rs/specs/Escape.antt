-- R7RS 7.1.1, what strings and identifiers in vertical lines share, and characters in part:
--   <inline hex escape> → \x<hex scalar value>;
--   <hex scalar value> → <hex digit>+
--   <hex digit> → <digit> | a | b | c | d | e | f
--   <mnemonic escape> → \a | \b | \t | \n | \r
-- The case of a letter is significant in <mnemonic escape>, and not in <hex digit>. Departure: to the standard it is not in the x of
-- an escape either; the Rust has error 6 for the string "\X0;"
use Rattle.std.specs.Prelude.{ℕ, ◌+◌, ◌-◌, ◌*◌, ◌≡◌, true, List, [], ◌∷◌}
use Rattle.laws.specs.Quoted.{codes, code, one_of}
use Rattle.chars.specs.Encode.{is_scalar}

abbrev pub digits : List ℕ
digits = codes "0123456789"

-- the letter of a <mnemonic escape>, and the character that 6.7 says it denotes
pub data Mnemonic : ℕ → ℕ → Type 0 where
  alarm : Mnemonic (code "a") 0x07
  backspace : Mnemonic (code "b") 0x08
  tab : Mnemonic (code "t") (code "\t")
  linefeed : Mnemonic (code "n") (code "\n")
  return : Mnemonic (code "r") (code "\r")

-- a <hex digit> and its value
pub data HexDigit : ℕ → ℕ → Type 0 where
  decimal : {c : ℕ} → one_of digits c ≡ true → HexDigit c (c - code "0")
  lower : {c : ℕ} → one_of (codes "abcdef") c ≡ true → HexDigit c (c - code "a" + 10)
  upper : {c : ℕ} → one_of (codes "ABCDEF") c ≡ true → HexDigit c (c - code "A" + 10)

-- some digits after others of the value n, and the value of them all: of 3bb after 0 it is 0x3bb
pub data HexDigits : ℕ → List ℕ → ℕ → Type 0 where
  no_more : {n : ℕ} → HexDigits n [] n
  and_more : {n c d v : ℕ} {t : List ℕ} → HexDigit c d → HexDigits (n * 16 + d) t v → HexDigits n (c ∷ t) v

-- a <hex scalar value> and the character whose code it is
pub data HexScalar : List ℕ → ℕ → Type 0 where
  scalar : {c v : ℕ} {t : List ℕ} → HexDigits 0 (c ∷ t) v → is_scalar v ≡ true → HexScalar (c ∷ t) v
