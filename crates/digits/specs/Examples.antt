-- Texts of hexadecimal digits with what they are: one table, one statement, proved by computation.
use Prim.Native.String.{String}
use Rattle.std.specs.Prelude.{Ok, ◌≡◌, refl, List, [], ◌∷◌, map}
use Rattle.laws.specs.Quoted.{codes, within}
use Rattle.digits.specs.Digits.{digit_of}
use Rattle.digits.specs.Hex.{Hex, wrong, empty, bad_digit, overflow, hex_digits, hex_after_plus, hex_value}

record Row : Type 0 where
  text : String
  answer : Hex

abbrev row : String → Hex → Row
row t a = record { text = t; answer = a }

table : List Row
table =
    row "41" (Ok 0x41) ∷
    row "+41" (Ok 0x41) ∷  -- E11
    row "0000000000aF" (Ok 0xAF) ∷
    row "FFFFFFFF" (Ok 0xFFFFFFFF) ∷
    row "" (wrong empty 0) ∷
    row "+" (wrong bad_digit 0) ∷
    row "++1" (wrong bad_digit 1) ∷
    row "-1" (wrong bad_digit 0) ∷
    row "4G" (wrong bad_digit 1) ∷
    row "+G" (wrong bad_digit 1) ∷
    row "λ" (wrong bad_digit 0) ∷
    row "100000000" (wrong overflow 8) ∷
    row "+100000000" (wrong overflow 9) ∷
    row "10000000G" (wrong bad_digit 8) ∷
    row "100000000G" (wrong overflow 8) ∷
    []

computed : map (λ r. hex_value (codes r.text)) table ≡ map (λ r. r.answer) table
unfolding table within digit_of hex_digits hex_after_plus hex_value
computed = refl
