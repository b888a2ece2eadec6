-- A here-string's delimiter, which is its line without the carriage returns, while it is looked for.
use Rattle.std.specs.Prelude.{ℕ, ◌+◌, ◌-◌, ◌≤◌, ◌<◌, ◌≡◌, false, List, length, get_or, drop}
use Rattle.laws.specs.Quoted.{code}
use Rattle.laws.specs.Texts.{begins}
use Rattle.items.specs.Readers.{unreturned}
use Rattle.steps.specs.declared.search.Known.{Known}

-- no carriage return stands at a place of the line
abbrev pub Waits : List ℕ → ℕ → Type 0
Waits line i = (i < length line) × (get_or line i 0 ≡ code "\r" → ⊥)

-- a line that begins and ends so
abbrev pub Kept : List ℕ → Type 0
Kept line = Waits line 0 × Waits line (length line - 1)

-- the delimiter's first `count` bytes stand at the place `at` of s, and the line has them before the place `read`
pub record Begun (s line : List ℕ) (at count read : ℕ) : Type 0 where
  pub room : at + count ≤ length s
  pub same : (q : ℕ) → q < count → get_or s (at + q) 0 ≡ get_or (unreturned line) q 0
  pub few : count ≤ length (unreturned line)
  pub rest : drop count (unreturned line) ≡ unreturned (drop read line)

-- so it is known, and where bytes are left the next of them stands at `read`
pub record Knows (s line : List ℕ) (k : Known) : Type 0 where
  pub begun : Begun s line k.at k.count k.read
  pub waits : k.count < length (unreturned line) → Waits line k.read

-- the place i was looked at: so it is known, its first `off` bytes are the delimiter's, and it does not stand there unless it is known whole
pub record Looked (s line : List ℕ) (i : ℕ) (k : Known) : Type 0 where
  pub knows : Knows s line k
  pub stands : (q : ℕ) → q < k.off → get_or s (i + q) 0 ≡ get_or (unreturned line) q 0
  pub no_more : k.off ≤ k.count
  pub missed : k.count < length (unreturned line) → begins (unreturned line) (drop i s) ≡ false

-- no delimiter that begins at the place `from` or behind it ends before the place r
abbrev pub Absent : List ℕ → List ℕ → ℕ → ℕ → Type 0
Absent s line from r = (r ≤ length s) × ((k : ℕ) → from ≤ k → k + length (unreturned line) < r → begins (unreturned line) (drop k s) ≡ false)
