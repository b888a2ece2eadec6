-- A text's periods, and its greatest suffix, which tells them.
use Rattle.std.specs.Prelude.{ℕ, ◌+◌, ◌-◌, ◌≤◌, ◌<◌, ◌≡◌, List, get_or}

-- the bytes of a text by their places
abbrev pub byte : List ℕ → ℕ → ℕ
byte w k = get_or w k 0

-- the first n bytes agree with those d behind them
abbrev pub Repeats : (ℕ → ℕ) → ℕ → ℕ → Type 0
Repeats f n d = (k : ℕ) → k < n → f (k + d) ≡ f k

-- n bytes agree with themselves where they are moved by d
abbrev pub Period : (ℕ → ℕ) → ℕ → ℕ → Type 0
Period f n d = (k : ℕ) → k + d < n → f (k + d) ≡ f k

-- what stands at c is less than what stands at a, by their first bytes that differ, which stand before `top`
pub record Lesser (f : ℕ → ℕ) (c a top : ℕ) : Type 0 where
  pub off : ℕ
  pub same : (k : ℕ) → k < off → f (c + k) ≡ f (a + k)
  pub less : f (c + off) < f (a + off)
  pub here : c + off < top
  pub there : a + off < top

-- the greatest suffix of the bytes before `end` begins at `start` and has a least period; what begins before it is less, told by bytes before `top`
pub record Suffixed (f : ℕ → ℕ) (top start period end : ℕ) : Type 0 where
  pub some : 0 < period
  pub room : start + period ≤ end
  pub turns : (k : ℕ) → start ≤ k → k + period < end → f (k + period) ≡ f k
  pub inside : (c : ℕ) → start < c → c < start + period → Lesser f c start (start + period)
  pub before : (c : ℕ) → c < start → Lesser f c start top

-- so it is of the first `kept` bytes, if there are any
abbrev pub Stays : (ℕ → ℕ) → ℕ → ℕ → ℕ → Type 0
Stays f kept start period = 0 < kept → Suffixed f kept start period kept

-- n bytes are moved by no more than their least period, nor than all of them, and `kept` of them agree there
pub record Moves (f : ℕ → ℕ) (n by kept : ℕ) : Type 0 where
  pub some : 0 < by
  pub near : by ≤ n
  pub least : (d : ℕ) → 0 < d → d < by → Period f n d → ⊥
  pub inside : kept ≤ n - by
  pub agrees : Repeats f kept by
