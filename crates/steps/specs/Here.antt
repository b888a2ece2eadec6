-- Where a here-string's line ends.
use Rattle.std.specs.Prelude.{ℕ, ◌+◌, ◌≡◌, List, drop}
use Rattle.laws.specs.Quoted.{code}
use Rattle.laws.specs.Texts.{before}

-- the here-string that starts at the place a has its newline at the place k
abbrev pub HereLine : List ℕ → ℕ → ℕ → Type 0
HereLine s a k = k ≡ a + 3 + before (code "\n") (drop (a + 3) s)
