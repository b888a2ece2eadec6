-- Bytes of characters of one byte or two, told by each byte and the next: RFC 3629, section 4, UTF8-1 and UTF8-2.
use Rattle.std.specs.Prelude.{ℕ, ◌+◌, ◌<◌, ◌≡◌, Bool, true, false, not, ◌&&◌, ◌||◌, List, leb, ltb, length, get_or, if◌then◌else◌}
use Rattle.byte_runs.specs.Runs.{block}

-- the first byte of two
abbrev pub lead : ℕ → Bool
lead c = leb 0xC2 c && ltb c 0xE0

-- the second
abbrev pub tail : ℕ → Bool
tail c = leb 0x80 c && ltb c 0xC0

abbrev pub agree : Bool → Bool → Bool
agree true y = y
agree false y = not y

-- p is of such a character, and c is a second byte just if p is a first of two
abbrev pub paired : ℕ → ℕ → Bool
paired p c = agree (lead p) (tail c) && (lead p || ltb p 0xC0)

-- so it is with each byte of the block at a place and the next, and the first is no second byte
pub record Paired (t : List ℕ) (at : ℕ) : Type 0 where
  pub room : at + block < length t
  pub begins : tail (get_or t at 0) ≡ false
  pub each : (k : ℕ) → k < block → paired (get_or t (at + k) 0) (get_or t (at + k + 1) 0) ≡ true

-- how many bytes whole characters have there: one more than the block where its last byte is a first of two
abbrev pub pairs : List ℕ → ℕ → ℕ
pairs t at = if lead (get_or t (at + 15) 0) then block + 1 else block
