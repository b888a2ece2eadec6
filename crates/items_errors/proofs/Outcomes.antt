-- Which errors an outcome may be, in both modes: 10 and 13 are told of characters alone. What fails in an escape is 9, 11 or 12.
use Prim.Native.Nat.{ℕ, ◌^◌, ◌<◌}
use mathlib.Core.Bool.{Bool}
use mathlib.Core.List.{List, [], ◌∷◌}
use lib.Dec.{T, ltb}
use borrow.Author.Tests.{lt-ltb}
use Rattle.laws.specs.Quoted.{one_of}
use Rattle.laws.proofs.Choice.{if_all}
use Rattle.items.specs.declared.Outcome.{Outcome}
use Rattle.items.specs.declared.Outcome.TheVariants.{Token, Str, HereStr, Word, Run, Lined, Keyword, Character, Error, ErrorAt}
use Rattle.items.specs.Kinds as kind
use Rattle.items.specs.Readers.{SoFar, read_item}
use Rattle.items.proofs.Phases.{Says, knows_of}
use Rattle.items.proofs.Walk.{WalkEnds, WalkSteps, silent, decides, walk_start, walk_read}

-- the errors that an outcome may be
abbrev pub nameless : List ℕ
nameless =
    kind.UnexpectedChar ∷ kind.IncompleteString ∷ kind.IncompleteIdentifier ∷ kind.IncompleteComment ∷ kind.InvalidWhitespace
    ∷ kind.InvalidStringEscape ∷ kind.InvalidCharacter ∷ kind.UnclosedHexEscape ∷ kind.InvalidHexEscapeLiteral ∷ kind.InvalidHexCodePoint ∷ []

abbrev pub Outcomes : Outcome → Type 0
Outcomes (Token k d) = T (ltb k kind.first_error)
Outcomes Str = Unit {0}
Outcomes HereStr = Unit {0}
Outcomes Word = Unit {0}
Outcomes Run = Unit {0}
Outcomes Lined = Unit {0}
Outcomes Keyword = Unit {0}
Outcomes Character = Unit {0}
Outcomes (Error n d) = T (one_of nameless n)
Outcomes (ErrorAt n d a b) = T (one_of nameless n)

abbrev says : Says
says = record {
  nest = λ d. Unit {0};
  closed = λ k. Unit {0};
  escape = λ from. Unit {0};
  brace = λ from. Unit {0};
  digits = λ closer from m. Unit {0};
  done = Outcomes;
}

token : (k d : ℕ) → k < kind.first_error → d < 2 ^ 32 → Outcomes (Token k d)
token k d h _ = rw (lt-ltb k kind.first_error h) tt

over : (raw : List ℕ) → WalkEnds (knows_of says) raw Outcomes
over raw = record {
  word = tt;
  run = tt;
  comment = tt;
  unquote = λ _. tt;
  here = λ _ _. tt;
  string = λ _. tt;
  lined = λ _ _. tt;
  open_string = tt;
  open_lined = tt;
  open_nest = λ _ _. tt;
  decided = decides raw Outcomes token tt tt (λ _. tt);
  done = λ _ h. h;
}

on : (report : Bool) (i : SoFar) (c : ℕ) → WalkSteps report i c (knows_of says) (knows_of says) Outcomes
on report i c = record {
  comment = tt;
  splice = λ _ _. tt;
  datum = λ _ _. tt;
  bracket = λ _ _ _. tt;
  unexpected = tt;
  opens_nest_holds = λ _ _. tt;
  nest = λ _ _ _ _. tt;
  carries = silent c says says;
  ends = λ _ _ _. tt;
  escapes = λ _ _ _. tt;
  solid = λ _ _. tt;
  invalid = λ _ _ _. tt;
  hex_x = λ _ _ _ _. tt;
  hex_u = λ _ _ _ _. tt;
  braced = λ _ _ _ _. tt;
  unbraced = λ _ _ _. tt;
  digit = λ _ _ _ _ _ _. tt;
  unclosed = λ _ _ _ _ _. tt;
  no_scalar = λ _ _ _ _ _ _ _. tt;
  fails = λ _ _ _ _ _ _ _ _ _ _ _. if_all Outcomes report tt tt;
}

pub outcomes : (report : Bool) (s c : ℕ) (cs : List ℕ) → Outcomes (read_item report s c cs).what
outcomes report s c cs =
    walk_read report (λ _. knows_of says) (λ _. Outcomes) (λ _ _. Unit {0}) (λ i _ _. over i.bytes) (λ i c _ _. (on report i c, tt)) s c cs
    (walk_start says c token) tt
