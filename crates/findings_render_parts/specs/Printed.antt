-- Numbers as they are printed.
use Rattle.std.specs.Prelude.{ℕ, zero, suc, ◌+◌, ◌-◌, ◌/◌, ◌%◌, ◌^◌, Bool, true, false, List, [], ◌∷◌, ◌++◌, ◌≡◌, refl, ltb, leb, replicate, if◌then◌else◌}
use Rattle.laws.specs.Quoted.{codes, code}

-- a digit: 0 to 9, A to F
unfoldable pub digit : ℕ → ℕ
digit d = if ltb d 10 then 48 + d else 55 + d

abbrev pub base : Bool → ℕ
base true = 16
base false = 10

-- how many digits are ever printed
abbrev pub most : Bool → ℕ
most true = 6
most false = 20

-- the last w digits of n, hexadecimal or decimal
unfoldable pub digits : Bool → ℕ → ℕ → List ℕ
digits hex zero n = []
digits hex (suc w) n = digit ((n / base hex ^ w) % base hex) ∷ digits hex w n

-- how many of 10, 100 and so on up to 10 ^ k are at most n
unfoldable pub tens_up_to : ℕ → ℕ → ℕ
tens_up_to zero n = 0
tens_up_to (suc k) n = tens_up_to k n + (if leb (10 ^ (k + 1)) n then 1 else 0)

-- how many decimal digits a number of 64 bits has
unfoldable pub digit_count : ℕ → ℕ
digit_count n = 1 + tens_up_to 19 n

unfoldable pub number : ℕ → List ℕ
number n = digits false (digit_count n) n

-- a number right-aligned in five columns
unfoldable pub aligned : ℕ → List ℕ
aligned n = replicate (5 - digit_count n) (code " ") ++ number n

-- how many hexadecimal digits Unicode writes a character's number with
unfoldable pub hex_count : ℕ → ℕ
hex_count c = if ltb c 0x10000 then 4 else if ltb c 0x100000 then 5 else 6

-- they compute
example : number 0 ++ number 4096 ++ aligned 12 ++ digits true (hex_count 0x202E) 0x202E ≡ codes "04096   12202E"
unfolding number aligned digits digit_count tens_up_to digit hex_count
example = refl
