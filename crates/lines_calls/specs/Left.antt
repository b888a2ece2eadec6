-- What the loops that build an index keep, for the contracts of private functions.
use Rattle.std.specs.Prelude.{◌≡◌, List, [], ◌∷◌, ℕ, ◌+◌, length, set, drop}
use Rattle.lines.specs.Starts.{starts_from}

-- how many bytes are stored of at once, and how many are counted
abbrev pub block : ℕ
block = 16

abbrev pub wide : ℕ
wide = 192

-- the starts after the newline bytes from place i on
abbrev pub left : List ℕ → ℕ → List ℕ
left s i = starts_from i (drop i s)

-- numbers stored one after the other, from place n of a memory on
unfoldable pub stored : ℕ → List ℕ → List ℕ → List ℕ
stored n [] m = m
stored n (v ∷ l) m = stored (n + 1) l (set m n v)

-- storing has come from place `from` of a text, where the memory was `old` and n its free place, to place i, where they are `now` and k:
-- what is left to store leads to the same memory and the same count
pub record Storing (s old : List ℕ) (n from : ℕ) (now : List ℕ) (k i : ℕ) : Type 0 where
  pub size : length now ≡ length old
  pub count : n + length (left s from) ≡ k + length (left s i)
  pub rest : stored n (left s from) old ≡ stored k (left s i) now
