-- Several bytes of a name as one number. The hash takes them in by four; eight at once are compared, and no promise rests on that.
use Rattle.std.specs.Prelude.{ℕ, ◌+◌, ◌*◌, List, get_or}
use Rattle.names.specs.Call.{hashes, four}

-- the four bytes at a place
abbrev pub four_at : List ℕ → ℕ → ℕ
four_at s i = four (get_or s i 0) (get_or s (i + 1) 0) (get_or s (i + 2) 0) (get_or s (i + 3) 0)

-- the eight bytes at a place
abbrev pub eight_at : List ℕ → ℕ → ℕ
eight_at s i = four_at s i + four_at s (i + 4) * hashes
