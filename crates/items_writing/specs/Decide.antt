-- How the code decides whether a word reads back bare: the machine over the word, and one step more. A means of proof: no public contract
-- cites it.
use Rattle.std.specs.Prelude.{ℕ, Bool, true, false, not, ◌&&◌, List, [], ◌∷◌, length, eqb, ltb, if◌then◌else◌, None, Option, Some, Ok, Err}
use Rattle.laws.specs.Quoted.{code, codes}
use Rattle.laws.specs.Texts.{begins}
use Rattle.chars.specs.Blank.{is_blank}
use Rattle.chars.specs.Encode.{bytes_of}
use Rattle.numbers.specs.declared.ParseError.TheVariants as parsed
use Rattle.numbers.specs.Grammar.{parse_number, numeric, Parsed}
use Rattle.items.specs.declared.Outcome.{Outcome}
use Rattle.items.specs.declared.Outcome.TheVariants.{Token, Str, HereStr, Word, Run, Lined, Keyword, Character, Error, ErrorAt}
use Rattle.items.specs.declared.Phase.{Phase}
use Rattle.items.specs.declared.Next.{Next}
use Rattle.items.specs.declared.Next.TheVariants.{Eat, Stop}
use Rattle.items.specs.Classes.{first_of}
use Rattle.items.specs.Machine.{step_of, finish_of, on_first}
use Rattle.items.specs.Readers.{SoFar, so_far, eat, first_is}
use Rattle.items.specs.Meaning.{word_kind}
use Rattle.items.specs.Kinds as kind

-- a space that ends the item, or does not
abbrev pub at_space : Next → Option Outcome
at_space (Eat q) = None
at_space (Stop o) = Some o

-- the end of a word: of the text, or before a space
abbrev pub close_of : Bool → Phase → SoFar → Option Outcome
close_of true p i = Some (finish_of p i.bytes)
close_of false p i = at_space (step_of true p i (code " "))

-- the machine over a word, from a phase on
unfoldable pub stand_from : Bool → Phase → SoFar → List ℕ → Option Outcome
stand_from last p i [] = close_of last p i
stand_from last p i (c ∷ cs) = elim (step_of true p i c) [ Eat q ↦ stand_from last q (eat i c) cs | Stop o ↦ None ]

-- one identifier, which is its own text
abbrev pub name_word : List ℕ → Bool
name_word raw = eqb (word_kind raw) kind.Identifier && not (first_is (code "+") raw && ltb 1 (length raw))

abbrev pub name_run : Parsed → List ℕ → Bool
name_run (Ok p) raw = false
name_run (Err parsed.NoNumber) raw = name_word raw
name_run (Err parsed.ZeroDenominator) raw = false

unfoldable pub is_name : Outcome → List ℕ → Bool
is_name (Token k d) raw = false
is_name Str raw = false
is_name HereStr raw = false
is_name Word raw = name_word raw
is_name Run raw = name_run (parse_number raw) raw
is_name Lined raw = false
is_name Keyword raw = false
is_name Character raw = false
is_name (Error n d) raw = false
is_name (ErrorAt n d a b) raw = false

abbrev pub stands_as : Option Outcome → List ℕ → Bool
stands_as (Some o) raw = is_name o raw
stands_as None raw = false

-- by characters
unfoldable pub decide : Bool → Bool → List ℕ → Bool
decide first last [] = false
decide first last (c ∷ t) =
    if is_blank c then false
    else if first && begins (codes "#!") (c ∷ t) then false
    else stands_as (stand_from last (on_first (first_of c)) (eat (so_far [] 0) c) t) (bytes_of (c ∷ t))

-- ---- a plus and a text t that follows it: `+foo`. The machine stands after the plus in a number run. Where the run meets a vertical
-- line, and is no number with the plus, what follows must be an identifier in vertical lines: `+|a b|`. Else what the machine does after
-- the plus does not rest on the plus

unfoldable pub is_pair_of : Outcome → List ℕ → Bool
is_pair_of (Token k d) t = false
is_pair_of Str t = false
is_pair_of HereStr t = false
is_pair_of Word t = ltb 0 (length t)
is_pair_of Run t = ltb 0 (length t) && not (numeric (parse_number (code "+" ∷ t)))
is_pair_of Lined t = false
is_pair_of Keyword t = false
is_pair_of Character t = false
is_pair_of (Error n d) t = false
is_pair_of (ErrorAt n d a b) t = false

abbrev pub pairs_as : Option Outcome → List ℕ → Bool
pairs_as (Some o) t = is_pair_of o t
pairs_as None t = false

unfoldable pub is_lined : Outcome → Bool
is_lined (Token k d) = false
is_lined Str = false
is_lined HereStr = false
is_lined Word = false
is_lined Run = false
is_lined Lined = true
is_lined Keyword = false
is_lined Character = false
is_lined (Error n d) = false
is_lined (ErrorAt n d a b) = false

abbrev pub lines_as : Option Outcome → Bool
lines_as (Some o) = is_lined o
lines_as None = false
