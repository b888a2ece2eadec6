-- The numbers that a phase holds stay within their bounds: a nested comment is no deeper than its item is long, and an
-- escape's places are not past the limit.
use Rattle.items.specs.declared.Outcome.{Outcome}
use Rattle.items.specs.declared.Outcome.TheVariants.{Token, Str, HereStr, Word, Run, Lined, Keyword, Character, Error, ErrorAt}
use Rattle.items.specs.declared.Phase.{Phase}
use Rattle.items.specs.declared.Next.{Next}
use Rattle.items.specs.Kinds as kind
use Rattle.items.specs.Classes.{first_of}
use Rattle.items.specs.Machine.{step_of, finish_of, on_first}
use Rattle.items.specs.Readers.{SoFar, eat, failing}
use Rattle.items.proofs.Failing.{past_within}
use Rattle.items.specs.Whole.{limit}
use Rattle.items.proofs.Phases.{Says, knows_of, InPhase}
use Rattle.items.proofs.Walk.{WalkEnds, WalkSteps, KnownAfter, silent, decides, walk_step, walk_start, walk_finish}
use Rattle.chars.proofs.Width.{wide, width-utf8}
use Rattle.laws.proofs.Choice.{if_all}
use Rattle.chars.specs.Encode.{utf8, width}
use Prim.Native.Nat.{ℕ, ◌+◌, ◌-◌, ◌≤◌}
use mathlib.Core.Path.{◌≡◌}
use mathlib.Core.Bool.{Bool}
use mathlib.Core.List.{List}
use lib.ListN.{length, drop, length-append, length-drop}
use native.Mathlib.Omega.{arith}
use native.Mathlib.Nat.{le_refl}

-- an outcome has one of 01's error numbers, and sets no range past the limit
abbrev pub Ranges : Outcome → Type 0
Ranges (Token k d) = Unit {0}
Ranges Str = Unit {0}
Ranges HereStr = Unit {0}
Ranges Word = Unit {0}
Ranges Run = Unit {0}
Ranges Lined = Unit {0}
Ranges Keyword = Unit {0}
Ranges Character = Unit {0}
Ranges (Error n d) = n ≤ kind.last_error
Ranges (ErrorAt n d a b) = (n ≤ kind.last_error) × ((a ≤ limit) × (b ≤ limit))

-- an outcome of an item that is whole
abbrev pub Settled : Outcome → Type 0
Settled (Token k d) = Unit {0}
Settled Str = ⊥
Settled HereStr = ⊥
Settled Word = ⊥
Settled Run = ⊥
Settled Lined = ⊥
Settled Keyword = ⊥
Settled Character = ⊥
Settled (Error n d) = n ≤ kind.last_error
Settled (ErrorAt n d a b) = (n ≤ kind.last_error) × ((a ≤ limit) × (b ≤ limit))

-- a phase of an item that has n bytes so far
abbrev says : ℕ → Says
says n = record {
  nest = λ d. d ≤ n;
  closed = λ k. 2 ≤ n;
  escape = λ from. from ≤ limit;
  brace = λ from. from ≤ limit;
  digits = λ closer from m. (from ≤ limit) × (m ≤ n);
  done = Settled;
}

abbrev pub Sized : ℕ → Phase → Type 0
Sized n = InPhase (says n)

settled_ranges : (o : Outcome) → Settled o → Ranges o
settled_ranges (Token k d) h = tt
settled_ranges Str h = tt
settled_ranges HereStr h = tt
settled_ranges Word h = tt
settled_ranges Run h = tt
settled_ranges Lined h = tt
settled_ranges Keyword h = tt
settled_ranges Character h = tt
settled_ranges (Error n d) h = h
settled_ranges (ErrorAt n d a b) h = h

-- what ends an item of n bytes, be its bytes raw
over : (n : ℕ) (raw : List ℕ) → WalkEnds (knows_of (says n)) raw Ranges
over n raw = record {
  word = tt;
  run = tt;
  comment = tt;
  unquote = λ _. tt;
  here = λ _ _. tt;
  string = λ _. tt;
  lined = λ _ _. tt;
  open_string = omega arith;
  open_lined = omega arith;
  open_nest = λ _ _. omega arith;
  decided = decides raw Ranges (λ _ _ _ _. tt) tt (omega arith) (λ _. tt);
  done = settled_ranges;
}

-- ---- a step

-- what is known after a step
abbrev pub Goes : SoFar → ℕ → Next → Type 0
Goes i c = KnownAfter (knows_of (says (length i.bytes + width c))) Ranges

module _ (i : SoFar) (c : ℕ) (some : 1 ≤ length i.bytes) (fits : length i.bytes ≤ i.at) (room : i.at + width c ≤ limit) where
  abbrev long : ℕ
  long = length i.bytes

  eaten : length (eat i c).bytes ≤ long + width c
  eaten = omega (arith, length-append i.bytes (utf8 c), width-utf8 c)

  -- an error that fails within the bytes t, which end at i's
  failing_ranges : (report : Bool) (d from at : ℕ) (t : List ℕ) → from ≤ limit → at + length t ≡ i.at
      → Settled (failing report kind.InvalidHexEscapeLiteral d from (eat i c).at at t)
  failing_ranges report d from at t h g =
      let p = past_within d at t in if_all Settled report (omega arith, (omega arith, omega (arith, p.1))) (omega arith, (h, room))

  on : (report : Bool) → WalkSteps report i c (knows_of (says long)) (knows_of (says (long + width c))) Ranges
  on report = record {
    comment = tt;
    splice = λ _ _. tt;
    datum = λ _ _. tt;
    bracket = λ _ _ _. tt;
    unexpected = omega arith;
    opens_nest_holds = λ _ _. omega (arith, wide c);
    nest = λ d e l h. omega (arith, wide c);
    carries = silent c (says long) (says (long + width c));
    ends = λ _ _ _. omega (arith, wide c);
    escapes = λ _ _ _. omega arith;
    solid = λ _ _. (omega arith, (omega arith, room));
    invalid = λ _ from h. (omega arith, (h, room));
    hex_x = λ _ from h _. (h, eaten);
    hex_u = λ _ from h _. h;
    braced = λ _ from h _. (h, eaten);
    unbraced = λ _ from h. (h, le_refl long);
    digit = λ _ closer from m h _. (h.0, omega (arith, h.1));
    unclosed = λ _ closer from m h. (omega arith, (h.0, omega arith));
    no_scalar = λ _ closer from m v h _. (omega arith, (h.0, room));
    fails = λ _ closer from m d p h _ _ _ _.
        let t : List ℕ = drop p (drop m i.bytes) in
        failing_ranges report d from (i.at - length t) t h.0
        (omega (arith, length-drop p (drop m i.bytes), length-drop m i.bytes));
  }

  pub goes_on : (report : Bool) (p : Phase) → Sized (length i.bytes) p → Goes i c (step_of report p i c)
  goes_on report = walk_step report i c (knows_of (says long)) (knows_of (says (long + width c))) Ranges (on report) (over long i.bytes)

-- ---- the start and the end of an item

pub first_sized : (n c : ℕ) → Sized n (on_first (first_of c))
first_sized n c = walk_start (says n) c (λ _ _ _ _. tt)

pub finish_ranges : (n : ℕ) (p : Phase) (raw : List ℕ) → Sized n p → Ranges (finish_of p raw)
finish_ranges n p raw = walk_finish (knows_of (says n)) raw Ranges (over n raw) p
