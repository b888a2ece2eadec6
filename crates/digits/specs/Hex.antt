-- The hexadecimal digits of an escape or of a character `#\x..`: document 01, "Rules that bite". "One leading `+` is allowed. Digits are
-- read left to right; the first failing position decides, bad digit before overflow. A lone `+` is a bad digit."
use Rattle.std.specs.Prelude.{Result, Ok, Err, ℕ, ◌+◌, ◌*◌, ◌^◌, List, [], ◌∷◌, ltb, eqb, if◌then◌else◌}
use Rattle.laws.specs.Quoted.{code}
use Rattle.digits.specs.declared.HexError.{HexError}
use Rattle.digits.specs.Digits.{digit_of}

-- the details of error 11 (01, An item)
abbrev pub empty : ℕ
empty = 1

abbrev pub bad_digit : ℕ
bad_digit = 2

abbrev pub overflow : ℕ
overflow = 3

-- the value of digits, or what is wrong with them
abbrev pub Hex : Type 0
Hex = Result ℕ HexError

-- a detail and the failing place
abbrev pub wrong : ℕ → ℕ → Hex
wrong d p = Err (record { detail = d; place = p })

-- the digits s from the place p on, after digits of the value v. At one position a bad digit goes before an overflow:
-- 100000000 overflows at its last digit, 10000000G has a bad digit there, and 100000000G overflows before its bad digit is seen
unfoldable pub hex_digits : ℕ → ℕ → List ℕ → Hex
hex_digits p v [] = Ok v
hex_digits p v (c ∷ s) =
    if ltb (digit_of c) 16
    then (if ltb (v * 16 + digit_of c) (2 ^ 32) then hex_digits (p + 1) (v * 16 + digit_of c) s else wrong overflow p)
    else wrong bad_digit p

-- what follows a leading `+`; where nothing does, the `+` itself is the bad digit
unfoldable pub hex_after_plus : List ℕ → Hex
hex_after_plus [] = wrong bad_digit 0
hex_after_plus (c ∷ s) = hex_digits 1 0 (c ∷ s)

-- the value of the digits' text, or the detail of error 11 and the failing place, counted from the start of that text
unfoldable pub hex_value : List ℕ → Hex
hex_value [] = wrong empty 0
hex_value (c ∷ s) = if eqb c (code "+") then hex_after_plus s else hex_digits 0 0 (c ∷ s)
