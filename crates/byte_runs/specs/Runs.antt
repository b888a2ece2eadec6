-- The bytes that a run goes over, and how many of them are tested at once.
use Rattle.std.specs.Prelude.{ℕ, ◌+◌, ◌-◌, ◌≤◌, ◌≡◌, Bool, not, ◌&&◌, ◌||◌, List, eqb, ltb, drop}
use Rattle.laws.specs.Texts.{span}
use Rattle.laws.specs.Quoted.{within}

-- a byte that is not b
abbrev pub other : ℕ → ℕ → Bool
other b c = not (eqb c b)

-- a byte that is neither a nor b
abbrev pub apart : ℕ → ℕ → ℕ → Bool
apart a b c = not (eqb c a) && not (eqb c b)

-- the same, of ASCII
abbrev pub plain : ℕ → ℕ → ℕ → Bool
plain a b c = ltb c 0x80 && apart a b c

-- the blanks of ASCII: tab, the newlines and space
abbrev pub blank : ℕ → Bool
blank c = eqb c 0x20 || within 0x09 0x0D c

-- the bytes of a block
abbrev pub block : ℕ
block = 16

abbrev pub half : ℕ
half = 8

abbrev pub quarter : ℕ
quarter = 4

-- the n bytes before a place are plain
abbrev pub PlainBefore : List ℕ → ℕ → ℕ → ℕ → ℕ → Type 0
PlainBefore t a b at n = (n ≤ at) × (n ≤ span (plain a b) (drop (at - n) t))

-- r is at most n bytes past a place, and the run of plain bytes from the place on goes to r and on
abbrev pub PlainTo : List ℕ → ℕ → ℕ → ℕ → ℕ → ℕ → Type 0
PlainTo t a b at n r = (at ≤ r) × (r ≤ at + n) × (r + span (plain a b) (drop r t) ≡ at + span (plain a b) (drop at t))
