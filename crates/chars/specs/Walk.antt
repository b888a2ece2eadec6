-- Characters one after the other, as far as a place.
use Rattle.std.specs.Prelude.{ℕ, ◌+◌, ◌<◌, ◌≡◌, List, drop}
use Rattle.chars.specs.Utf8.{char, front}

-- characters stand from a place to another, and nothing else; each begins before the place `until`
pub data Walk (s : List ℕ) (until at : ℕ) : ℕ → Type 0 where
  stays : Walk s until at at
  goes : {m n c : ℕ} → Walk s until at m → m < until → front (drop m s) ≡ char c n → Walk s until at (m + n)
