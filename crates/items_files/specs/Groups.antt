-- A number in groups of seven bits, lowest group first, the top bit set on all but the last (02, (x)).
use Rattle.std.specs.Prelude.{ℕ, zero, suc, ◌+◌, ◌/◌, ◌%◌, List, [], ◌∷◌, ◌++◌, ltb, if◌then◌else◌}

-- the largest number of 32 bits
abbrev pub most : ℕ
most = 4294967295

-- at most `more` groups go on
unfoldable pub groups : ℕ → ℕ → List ℕ
groups zero n = n ∷ []
groups (suc more) n = let rest = groups more (n / 128) in if ltb n 128 then n ∷ [] else (128 + n % 128) ∷ rest

-- a number of 32 bits takes five groups at most
abbrev pub image : ℕ → List ℕ
image n = groups 4 n

-- numbers one after the other
abbrev pub images : List ℕ → List ℕ
images [] = []
images (n ∷ ns) = image n ++ images ns
