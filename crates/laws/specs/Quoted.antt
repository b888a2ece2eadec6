-- Quoted texts: `code ";"` is the character ; and `codes "#true"` the characters of #true, each by its Unicode code point.
use Rattle.std.specs.Prelude.{ℕ, Bool, false, ◌&&◌, ◌||◌, List, [], ◌∷◌, ◌≡◌, refl, leb, eqb}
use Prim.Native.Char as char
use Prim.Native.String.{String}

abbrev pub codes : String → List ℕ
codes String.[] = []
codes (String.◌∷◌ c s) = char.code c ∷ codes s

-- the character of a quoted text that has one
abbrev pub code : String → ℕ
code String.[] = 0
code (String.◌∷◌ c s) = char.code c

-- whether c is one of some characters
abbrev pub one_of : List ℕ → ℕ → Bool
one_of [] c = false
one_of (k ∷ ks) c = eqb c k || one_of ks c

-- whether c is one of the characters from a to b
unfoldable pub within : ℕ → ℕ → ℕ → Bool
within a b c = leb a c && leb c b

-- they compute
example : code ";" ∷ codes "#tλ" ≡ 0x3B ∷ 0x23 ∷ 0x74 ∷ 0x3BB ∷ []
example = refl
