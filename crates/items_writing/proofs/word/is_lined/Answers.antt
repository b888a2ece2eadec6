-- By the outcome: the one, and all others.
use mathlib.Core.Path.{◌≡◌, refl}
use mathlib.Core.Bool.{false}
use mathlib.Core.List.{List, [], ◌∷◌}
use Prim.Native.Nat.{ℕ}
use denote.Enum.Declared.{tag_of}
use types.Run.{OneOf, miss}
use borrow.Enum.Refused.{opened}
use Rattle.items.specs.declared.Outcome.{Outcome}
use Rattle.items.specs.declared.Outcome.TheVariants.{Token, Str, HereStr, Word, Run, Lined, Keyword, Character, Error, ErrorAt}
use Rattle.items.specs.contracts.Outcome.{the_type}
use Rattle.items_writing.specs.Decide.{is_lined}
use Rattle.items_writing.proofs.word.is_lined.Goals as goal

-- the tags of the others
abbrev others : List ℕ
others = 0 ∷ 1 ∷ 2 ∷ 3 ∷ 4 ∷ 6 ∷ 7 ∷ 8 ∷ 9 ∷ []

none : (o : Outcome) → OneOf others (tag_of the_type o) → false ≡ is_lined o
unfolding is_lined
none (Token k d) h = refl
none Str h = refl
none HereStr h = refl
none Word h = refl
none Run h = refl
none Lined h = absurd (miss others 5 tt h)
none Keyword h = refl
none Character h = refl
none (Error n d) h = refl
none (ErrorAt n d a b) h = refl

pub returns-in-Lined : goal.returns-in-Lined
unfolding is_lined
returns-in-Lined c = rw c.in-Lined.is

pub returns-in_default : goal.returns-in_default
returns-in_default c = none c.args.what (opened c.in_default.in_default-own.keys2)
