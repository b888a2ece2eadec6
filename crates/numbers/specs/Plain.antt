-- The plainest numbers: `14`, `-14`, `14.7` and `1/2`. Each is a number (proofs/Plain, plain-is), so a text of this shape need not be
-- taken apart to know that it is one.
use Rattle.std.specs.Prelude.{ℕ, Bool, ◌&&◌, ◌||◌, List, get_or, drop, ltb}
use Rattle.laws.specs.Quoted.{code}
use Rattle.laws.specs.Texts.{starts}
use Rattle.digits.specs.Digits.{digits, sign, uinteger}

-- a dot, and digits after it
abbrev pub fraction : List ℕ → Bool
fraction s = starts (code ".") s && uinteger 10 (drop 1 s)

-- a slash, and digits after it of which the first is not zero
abbrev pub ratio : List ℕ → Bool
ratio s = starts (code "/") s && (ltb (code "0") (get_or s 1 0) && uinteger 10 (drop 1 s))

-- digits, or digits with either after them
abbrev pub unsigned_plain : List ℕ → Bool
unsigned_plain s = uinteger 10 s || (fraction (drop (digits 10 s) s) || (ltb 0 (digits 10 s) && ratio (drop (digits 10 s) s)))

unfoldable pub plain : List ℕ → Bool
plain s = unsigned_plain (drop (sign s) s)
