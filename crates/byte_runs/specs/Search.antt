-- What a search goes by: two bytes at a distance, and parts of a text that agree.
use Rattle.std.specs.Prelude.{ℕ, ◌+◌, ◌≤◌, ◌<◌, ◌≡◌, List, length, get_or}

-- from a place up to another x stands nowhere with y `gap` bytes behind it
abbrev pub Lone : List ℕ → ℕ → ℕ → ℕ → ℕ → ℕ → Type 0
Lone t gap x y from to = (k : ℕ) → from ≤ k → k < to → get_or t k 0 ≡ x → get_or t (k + gap) 0 ≡ y → ⊥

-- the same up to a place behind `from`, which is not so far that y would stand past the text's end
abbrev pub LoneTo : List ℕ → ℕ → ℕ → ℕ → ℕ → ℕ → Type 0
LoneTo t gap x y from to = (from ≤ to) × (to + gap ≤ length t) × Lone t gap x y from to

-- n bytes at two places are the same
abbrev pub Alike : List ℕ → ℕ → ℕ → ℕ → Type 0
Alike t a b n = (k : ℕ) → k < n → get_or t (a + k) 0 ≡ get_or t (b + k) 0

-- so are r of n bytes, and no more of them
abbrev pub Agree : List ℕ → ℕ → ℕ → ℕ → ℕ → Type 0
Agree t a b n r = (r ≤ n) × Alike t a b r × (r < n → get_or t (a + r) 0 ≡ get_or t (b + r) 0 → ⊥)
