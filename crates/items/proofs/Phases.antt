-- What is known of an item in each phase. Most laws of the machine know nothing in most phases: only of comments that nest, quotes that closed, an
-- escape on the way and what the item turned out to be do they say something (`Says`). Some know more (`Knows`).
use Prim.Native.Nat.{ℕ, ◌^◌, ◌<◌}
use Rattle.items.specs.declared.Quotes.{Quotes}
use Rattle.items.specs.declared.Outcome.{Outcome}
use Rattle.items.specs.declared.Phase.{Phase}
use Rattle.items.specs.declared.Phase.TheVariants as ph

-- after `,`, `#` and `#<`; in a here-string; of the bracket that a `#` word may open; in comments; in quotes and their escapes; at the end
pub record Knows : Type 1 where
  pub comma : Type 0
  pub hash : Type 0
  pub angle : Type 0
  pub here : Type 0
  pub bracket : ℕ → Type 0
  pub nest : ℕ → Type 0
  pub quoted : Quotes → Type 0
  pub closed : Quotes → Type 0
  pub escape : Quotes → ℕ → Type 0
  pub brace : Quotes → ℕ → Type 0
  pub digits : Quotes → ℕ → ℕ → ℕ → Type 0
  pub done : Outcome → Type 0

abbrev pub KnownIn : Knows → Phase → Type 0
KnownIn x ph.InLine = Unit {0}
KnownIn x ph.AfterComma = x.comma
KnownIn x ph.AfterHash = x.hash
KnownIn x ph.AfterAngle = x.angle
KnownIn x ph.HereDelim = x.here
KnownIn x ph.HereStart = x.here
KnownIn x ph.HereBody = x.here
KnownIn x ph.InWord = Unit {0}
KnownIn x ph.WordEscape = Unit {0}
KnownIn x ph.InRun = Unit {0}
KnownIn x ph.InHash = Unit {0}
KnownIn x ph.HashEscape = Unit {0}
KnownIn x ph.HashTick = Unit {0}
KnownIn x ph.HashComma = Unit {0}
KnownIn x (ph.Nest d) = x.nest d
KnownIn x (ph.NestBar d) = x.nest d
KnownIn x (ph.NestSharp d) = x.nest d
KnownIn x (ph.Quoted k) = x.quoted k
KnownIn x (ph.Closed k) = x.closed k
KnownIn x (ph.TrimBefore k) = x.quoted k
KnownIn x (ph.TrimAfter k) = x.quoted k
KnownIn x (ph.Escape k from) = x.escape k from
KnownIn x (ph.Brace k from) = x.brace k from
KnownIn x (ph.Hex k closer from m) = x.digits k closer from m
KnownIn x (ph.Done o) = x.done o

pub record Says : Type 1 where
  pub nest : ℕ → Type 0
  pub closed : Quotes → Type 0
  pub escape : ℕ → Type 0
  pub brace : ℕ → Type 0
  pub digits : ℕ → ℕ → ℕ → Type 0
  pub done : Outcome → Type 0

abbrev pub knows_of : Says → Knows
knows_of x = record {
  comma = Unit {0};
  hash = Unit {0};
  angle = Unit {0};
  here = Unit {0};
  bracket = λ d. d < 2 ^ 32;
  nest = x.nest;
  quoted = λ k. Unit {0};
  closed = x.closed;
  escape = λ k. x.escape;
  brace = λ k. x.brace;
  digits = λ k. x.digits;
  done = x.done;
}

abbrev pub InPhase : Says → Phase → Type 0
InPhase x = KnownIn (knows_of x)
