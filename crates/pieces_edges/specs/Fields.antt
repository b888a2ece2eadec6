-- How a case lies in its line: fields between tabs, and `$` for a newline.
use Rattle.std.specs.Prelude.{ℕ, suc, ◌+◌, ◌-◌, ◌%◌, ◌^◌, List, [], ◌∷◌, length, take, drop, ◌==◌, nat_lt, if◌then◌else◌}
use Rattle.laws.specs.Quoted.{code}
use Rattle.laws.specs.Texts.{before}
use Rattle.pieces.specs.Calls.{laid_at}
use Rattle.pieces_cuttings.specs.Parts.{part_of}

-- how many of n tabs are left to pass after a byte
abbrev pub still_of : ℕ → ℕ → ℕ
still_of n b = if b == (code "\t") then n - 1 else n

-- the place past so many tabs; the end where there are fewer
unfoldable pub past_tabs : ℕ → List ℕ → ℕ
past_tabs n [] = 0
past_tabs n (b ∷ s) = let rest = past_tabs (still_of n b) s in if n == 0 then 0 else suc rest

-- the field after so many tabs
abbrev pub field_of : List ℕ → ℕ → List ℕ
field_of line tabs = let from = past_tabs tabs line in part_of line from (from + before (code "\t") (drop from line))

-- what a byte stands for
abbrev pub real_of : ℕ → ℕ
real_of b = if b == (code "$") then code "\n" else b

-- bytes from a place on, as far as there is room, and the place past them; nothing past the end
abbrev pub put_at : List ℕ → ℕ → List ℕ → List ℕ
put_at source at bytes = if nat_lt (length source) at then source else laid_at at (take (length source - at) bytes) source

abbrev pub past_put : List ℕ → ℕ → List ℕ → ℕ
past_put source at bytes = if nat_lt (length source) at then at else (at + length bytes) % 2 ^ 64
