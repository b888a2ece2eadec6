-- What the inner functions are lent: the text memory after a call, which held one byte again and again before it.
use Rattle.std.specs.Prelude.{◌≡◌, ℕ, Bool, true, ◌&&◌, List, [], ◌∷◌, length, replicate, ◌==◌, slice_index}
use Rattle.pieces.specs.declared.Got.{Got}
use Rattle.pieces.specs.Calls.{What, item, more, finished, refused, text_after}
use Rattle.pieces_calls.specs.Answers.{what_of}
use Rattle.pieces_cuttings.specs.Notes.{room}

-- what stands in the text memory before a call
abbrev pub mark : ℕ
mark = 7

abbrev pub unwritten : List ℕ
unwritten = replicate room mark

-- whether nothing but the mark stands there
unfoldable pub is_unwritten : List ℕ → Bool
is_unwritten [] = true
is_unwritten (b ∷ bs) = b == mark && is_unwritten bs

-- an item's ninth word says how long its text is
abbrev pub Sized : What → Type 0
Sized (item g) = slice_index g.words 8 ≡ length g.text
Sized more = Unit {0}
Sized finished = Unit {0}
Sized (refused number place) = Unit {0}

-- what a call gave, and the text memory after it
pub record Gives (got : Got) (text : List ℕ) : Type 0 where
  pub sized : Sized (what_of got text)
  pub written : text ≡ text_after (what_of got text) unwritten
