-- Where reading starts, and what it is refused for. Document 01: the reader "opens under 25, 20, 21".
use Rattle.std.specs.Prelude.{ℕ, ◌+◌, Bool, false, List, [], ◌∷◌, length, eqb, ltb, if◌then◌else◌, None, Option, Some, Result, Ok, Err}
use Rattle.laws.specs.Quoted.{code}
use Rattle.refusal.specs.Refusals as refusal
use Rattle.chars.specs.Utf8.{chars, first_bad}
use Rattle.chars.specs.Encode.{width}
use Rattle.items.specs.Items.{unset}
use Rattle.items.specs.Whole.{limit, is_mode, in_report}
use Rattle.meaning.specs.Places.{range_of}
use Rattle.lexer.specs.declared.Position.{Position}
use Rattle.lexer.specs.declared.OpenError.{OpenError}
use Rattle.lexer.specs.declared.OpenError.TheVariants.{NoMode, TooLong, NotUtf8}

-- the place of the first newline, or of the end
unfoldable pub line_end : ℕ → List ℕ → ℕ
line_end at [] = at
line_end at (c ∷ cs) = let more = line_end (at + width c) cs in if eqb c (code "\n") then at else more

-- a first line that starts with `#!` is passed over, up to its newline
unfoldable pub after_hash : List ℕ → ℕ
after_hash [] = 0
after_hash (c ∷ cs) = if eqb c (code "!") then line_end 2 cs else 0

unfoldable pub start_of : List ℕ → ℕ
start_of [] = 0
start_of (c ∷ cs) = if eqb c (code "#") then after_hash cs else 0

-- no bracket is open there
abbrev pub opening : List ℕ → Bool → Bool → Position
opening source report skip = record {
  spot = record { at = start_of (chars source); last = range_of unset; second = false; report = report; skip = skip };
  depth = 0;
}

-- a position, or 01's number of a refusal and what it comes with
pub data Opening : Type 0 where
  opened : Position → Opening
  refused : ℕ → ℕ → Opening

-- what each answer means
abbrev pub opening_of : Result Position OpenError → Opening
opening_of (Ok p) = opened p
opening_of (Err (NoMode m)) = refused refusal.no_such_mode m
opening_of (Err TooLong) = refused refusal.over_long limit
opening_of (Err (NotUtf8 p)) = refused refusal.not_utf8 p

abbrev pub if_utf8 : Option ℕ → Position → Opening
if_utf8 None p = opened p
if_utf8 (Some at) p = refused refusal.not_utf8 at

-- 25, 20, 21 in that order
unfoldable pub open_of : List ℕ → ℕ → Bool → Opening
open_of source mode skip =
    if is_mode mode
    then (if ltb limit (length source) then refused refusal.over_long limit else if_utf8 (first_bad source) (opening source (in_report mode) skip))
    else refused refusal.no_such_mode mode
