-- A text of each production that is easily left out, read by the theorem on tokens.
use Prim.Native.Nat.{ℕ, ◌<◌}
use mathlib.Core.Path.{refl}
use mathlib.Core.Bool.{Bool}
use mathlib.Core.List.{List, [], ◌∷◌}
use lib.Dec.{lit<}
use native.Mathlib.Omega.{arith}
use Rattle.laws.specs.Quoted.{codes, code, within}
use Rattle.digits.specs.Digits.{digit_of}
use Rattle.numbers.specs.Grammar.{zero_parts, zero_real}
use Rattle.laws.specs.Letters.{lower, is_sign}
use Rattle.numbers_difference.specs.Productions.{Letter, Digits, UInteger, Sign, Prefix}
use Rattle.numbers_difference.specs.R7rs.{URealAt, RealAt, ImaginaryAt, ComplexAt}
use Rattle.numbers_difference.specs.Conditions.{somewhere, is_capital, is_n, sign_after, odd_e}
use Rattle.chars.specs.Encode.{bytes_of}
use Rattle.items.specs.Kinds as kind
use Rattle.items_r7rs.specs.Reading.{bytes, nothing, ReadAs}
use Rattle.items_r7rs.specs.Delimiter.{at_end}
use Rattle.items_r7rs.specs.Repeated.{done}
use Rattle.items_r7rs.specs.Written.{written}
use Rattle.items_r7rs.specs.String as string
use Rattle.items_r7rs.specs.Identifier as identifier
use Rattle.items_r7rs.specs.Token as token
use Rattle.items_r7rs.proofs.Token.{read_as}

-- `"\|"`
pub line_in_string : (report : Bool) (cs : List ℕ) → ReadAs report (codes "\"\\|\"") cs kind.StringLiteral 0 (bytes (bytes_of (codes "|")))
line_in_string report cs = read_as report cs (token.string (string.quoted (string.vertical string.no_more)))

-- `|\"|`
pub quote_in_lines : (report : Bool) (cs : List ℕ) → ReadAs report (codes "|\\\"|") cs kind.Identifier 0 (bytes (bytes_of (codes "\"")))
quote_in_lines report cs = read_as report cs (token.lined (identifier.lined (identifier.doublequote identifier.no_more) identifier.some))

-- `|\\|`
pub backslash_in_lines : (report : Bool) (cs : List ℕ) → ReadAs report (codes "|\\\\|") cs kind.Identifier 0 (bytes (bytes_of (codes "\\")))
backslash_in_lines report cs = read_as report cs (token.lined (identifier.lined (identifier.backslash identifier.no_more) identifier.some))

-- `||`, and a line that goes on: `|\ newline a|`
pub nothing_in_lines : (report : Bool) (cs : List ℕ) → ReadAs report (codes "||") cs kind.Identifier 0 (bytes [])
unfolding bytes_of
nothing_in_lines report cs = read_as report cs (token.lined (identifier.lined identifier.no_more identifier.empty))

pub line_goes_on_in_lines : (report : Bool) (cs : List ℕ) → ReadAs report (codes "|\\\na|") cs kind.Identifier 0 (bytes (bytes_of (codes "a")))
line_goes_on_in_lines report cs =
    read_as report cs (token.lined (identifier.lined (identifier.goes_on [] [] done done refl (identifier.itself refl identifier.no_more)) identifier.some))

-- ---- numbers: `#b1`, `#o7`, `#d9`, `#xF`, `1+2i`, `-i`, `1@2`

one_digit : (R c : ℕ) → digit_of c < R → UInteger R (c ∷ [])
one_digit R c h = UInteger.uint h Digits.none

pub binary : (report : Bool) → ReadAs report (codes "#b1") [] kind.Number 0 nothing
unfolding digit_of within lower somewhere is_capital is_n zero_parts zero_real
binary report =
    read_as report []
    (token.any_number
    (written {s = codes "1"} (Prefix.binary (Letter.letter refl)) (ComplexAt.real (RealAt.ureal Sign.empty (URealAt.integer (one_digit 2 (code "1") (lit< tt))))) refl (λ e. absurd (omega arith)) refl)
    at_end)

pub octal : (report : Bool) → ReadAs report (codes "#o7") [] kind.Number 0 nothing
unfolding digit_of within lower somewhere is_capital is_n zero_parts zero_real
octal report =
    read_as report []
    (token.any_number
    (written {s = codes "7"} (Prefix.octal (Letter.letter refl)) (ComplexAt.real (RealAt.ureal Sign.empty (URealAt.integer (one_digit 8 (code "7") (lit< tt))))) refl (λ e. absurd (omega arith)) refl)
    at_end)

pub decimal : (report : Bool) → ReadAs report (codes "#d9") [] kind.Number 0 nothing
unfolding digit_of within lower somewhere is_capital is_n zero_parts zero_real
decimal report =
    read_as report []
    (token.any_number
    (written {s = codes "9"} (Prefix.decimal (Letter.letter refl))
    (ComplexAt.real (RealAt.ureal Sign.empty (URealAt.integer (one_digit 10 (code "9") (lit< tt))))) refl (λ e. absurd (omega arith)) refl)
    at_end)

pub hexadecimal : (report : Bool) → ReadAs report (codes "#xF") [] kind.Number 0 nothing
unfolding digit_of within lower somewhere is_capital is_n sign_after odd_e is_sign zero_parts zero_real
hexadecimal report =
    read_as report []
    (token.any_number
    (written {s = codes "F"} (Prefix.hex (Letter.letter refl)) (ComplexAt.real (RealAt.ureal Sign.empty (URealAt.integer (one_digit 16 (code "F") (lit< tt))))) refl (λ e. refl) refl)
    at_end)

pub rectangular : (report : Bool) → ReadAs report (codes "1+2i") [] kind.Number 0 nothing
unfolding digit_of within lower somewhere is_capital is_n zero_parts zero_real
rectangular report =
    read_as report []
    (token.any_number
    (written {s = codes "1+2i"} Prefix.empty
    (ComplexAt.rectangular {a = codes "1"} {b = codes "+2"} (RealAt.ureal Sign.empty (URealAt.integer (one_digit 10 (code "1") (lit< tt))))
    (ImaginaryAt.positive (URealAt.integer (one_digit 10 (code "2") (lit< tt)))) (Letter.letter refl))
    refl (λ e. absurd (omega arith)) refl)
    at_end)

pub imaginary : (report : Bool) → ReadAs report (codes "-i") [] kind.Number 0 nothing
unfolding lower within somewhere is_capital is_n zero_parts zero_real
imaginary report =
    read_as report []
    (token.any_number (written {s = codes "-i"} Prefix.empty (ComplexAt.imaginary {b = codes "-"} ImaginaryAt.minus_one (Letter.letter refl)) refl (λ e. absurd (omega arith)) refl) at_end)

pub polar : (report : Bool) → ReadAs report (codes "1@2") [] kind.Number 0 nothing
unfolding digit_of within lower somewhere is_capital is_n zero_parts zero_real
polar report =
    read_as report []
    (token.any_number
    (written {s = codes "1@2"} Prefix.empty
    (ComplexAt.polar {a = codes "1"} {b = codes "2"} (RealAt.ureal Sign.empty (URealAt.integer (one_digit 10 (code "1") (lit< tt))))
    (RealAt.ureal Sign.empty (URealAt.integer (one_digit 10 (code "2") (lit< tt)))))
    refl (λ e. absurd (omega arith)) refl)
    at_end)
