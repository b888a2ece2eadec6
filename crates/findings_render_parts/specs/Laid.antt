-- Bytes laid into lent memory from a place on, one after the other, as far as they fit; the place past them is counted all the same.
use Rattle.std.specs.Prelude.{ℕ, ◌+◌, Bool, ◌&&◌, List, [], ◌∷◌, ◌++◌, ◌≡◌, ltb, leb, eqb, length, take, drop, set, if◌then◌else◌}
use Rattle.laws.specs.Quoted.{code, one_of}

-- the greatest number of 64 bits, at which counting stays
abbrev pub top : ℕ
top = 18446744073709551615

-- the place past a place
unfoldable pub beyond : ℕ → ℕ
beyond at = if ltb at top then at + 1 else at

-- the place past some bytes
unfoldable pub past : ℕ → List ℕ → ℕ
past at [] = at
past at (b ∷ bs) = past (beyond at) bs

-- the memory with some bytes from a place on
unfoldable pub laid : ℕ → List ℕ → List ℕ → List ℕ
laid at [] old = old
laid at (b ∷ bs) old = laid (beyond at) bs (set old at b)

-- A byte of a text as it stands in a string of JSON, where it is quoted: a backslash before `"` and `\`, and a tab as `\t`; else it is itself.
abbrev pub special : List ℕ
special = 0x22 ∷ 0x5C ∷ 0x09 ∷ []

unfoldable pub is_marked : Bool → ℕ → Bool
is_marked q b = q && one_of special b

unfoldable pub letter : ℕ → ℕ
letter b = if eqb b 0x09 then code "t" else b

unfoldable pub marked_byte : Bool → ℕ → List ℕ
marked_byte q b = if is_marked q b then 0x5C ∷ letter b ∷ [] else b ∷ []

unfoldable pub marked : Bool → List ℕ → List ℕ
marked q [] = []
marked q (b ∷ bs) = marked_byte q b ++ marked q bs

-- what every function that writes says: the bytes stand from the place on, and the answer is the place past them
pub record Laid (q : Bool) (bs : List ℕ) (at : ℕ) (old : List ℕ) (next : ℕ) (new : List ℕ) : Type 0 where
  pub place : next ≡ past at (marked q bs)
  pub memory : new ≡ laid at (marked q bs) old

-- ---- what a caller sees: how many bytes there are, and lent memory with the first of them from its start on, as many as it holds

unfoldable pub counted : List ℕ → ℕ
counted bs = if leb (length bs) top then length bs else top

unfoldable pub over : List ℕ → List ℕ → List ℕ
over bs old = take (length old) bs ++ drop (length bs) old
