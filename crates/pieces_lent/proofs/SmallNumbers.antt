-- The numbers that a phase holds beside places stay below 2^32: a closer is a character of the rules, a detail one of the text or a small
-- number.
use Prim.Native.Nat.{ℕ, ◌^◌, ◌<◌}
use mathlib.Core.Bool.{Bool}
use native.Mathlib.Omega.{arith}
use Rattle.laws.proofs.Choice.{if_all}
use Rattle.items.specs.declared.Outcome.{Outcome}
use Rattle.items.specs.declared.Outcome.TheVariants.{Token, Str, HereStr, Word, Run, Lined, Keyword, Character, Error, ErrorAt}
use Rattle.items.specs.declared.Phase.{Phase}
use Rattle.items.specs.declared.Next.{Next}
use Rattle.items.specs.Classes.{first_of}
use Rattle.items.specs.Machine.{step_of, on_first}
use Rattle.items.specs.Readers.{SoFar}
use Rattle.items.proofs.Phases.{Says, knows_of, InPhase}
use Rattle.items.proofs.Walk.{WalkSteps, KnownAfter, silent, silent_ends, walk_step, walk_start}

abbrev pub Small : ℕ → Type 0
Small n = n < 2 ^ 32

-- an outcome's kind or error number, and its detail
abbrev pub Slim : Outcome → Type 0
Slim (Token k d) = Small k × Small d
Slim Str = Unit {0}
Slim HereStr = Unit {0}
Slim Word = Unit {0}
Slim Run = Unit {0}
Slim Lined = Unit {0}
Slim Keyword = Unit {0}
Slim Character = Unit {0}
Slim (Error n d) = Small n × Small d
Slim (ErrorAt n d a b) = Small n × Small d

abbrev says : Says
says = record {
  nest = λ d. Unit {0};
  closed = λ k. Unit {0};
  escape = λ from. Unit {0};
  brace = λ from. Unit {0};
  digits = λ closer from m. Small closer;
  done = Slim;
}

abbrev pub Slight : Phase → Type 0
Slight = InPhase says

-- after a step; an outcome that ends the item stands in no state
abbrev pub Eaten : Next → Type 0
Eaten = KnownAfter (knows_of says) (λ o. Unit {0})

on : (report : Bool) (i : SoFar) (c : ℕ) → Small c → WalkSteps report i c (knows_of says) (knows_of says) (λ o. Unit {0})
on report i c small = record {
  comment = (omega arith, omega arith);
  splice = λ _ _. (omega arith, omega arith);
  datum = λ _ _. (omega arith, omega arith);
  bracket = λ _ h _. (omega arith, h);
  unexpected = (omega arith, small);
  opens_nest_holds = λ _ _. tt;
  nest = λ _ _ _ _. tt;
  carries = silent c says says;
  ends = λ _ _ _. tt;
  escapes = λ _ _ _. tt;
  solid = λ _ _. tt;
  invalid = λ _ _ _. tt;
  hex_x = λ _ _ _ _. omega arith;
  hex_u = λ _ _ _ _. tt;
  braced = λ _ _ _ _. omega arith;
  unbraced = λ _ _ _. omega arith;
  digit = λ _ _ _ _ h _. h;
  unclosed = λ _ _ _ _ h. (omega arith, h);
  no_scalar = λ _ _ _ _ _ _ l. (omega arith, l);
  fails = λ _ _ _ _ _ _ _ _ _ l _. if_all Slim report (omega arith, l) (omega arith, l);
}

pub slight_step : (i : SoFar) (c : ℕ) → Small c → (report : Bool) (p : Phase) → Slight p → Eaten (step_of report p i c)
slight_step i c small report = walk_step report i c (knows_of says) (knows_of says) (λ o. Unit {0}) (on report i c small) (silent_ends says i.bytes)

pub slight_first : (c : ℕ) → Slight (on_first (first_of c))
slight_first c = walk_start says c (λ k d h l. (omega arith, l))
