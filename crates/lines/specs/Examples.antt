-- Worked examples of lines and columns, by computation.
use Rattle.std.specs.Prelude.{◌≡◌, refl, List, [], ◌∷◌, ◌++◌, ℕ}
use Rattle.laws.specs.Quoted.{within}
use Rattle.laws.specs.Texts.{same}
use Rattle.chars.specs.Utf8.{first, rest, front, sequences, first_bad}
use Rattle.chars.specs.Encode.{utf8, bytes_of, spelled}
use Rattle.lines.specs.Starts.{newline, starts_from, outcome, build_of}
use Rattle.lines.specs.Starts as answer
use Rattle.lines.specs.Place.{Where, At, Refused, is_index, line_of, column, since, place_of, locate_of}
use Rattle.lines.specs.Many.{answers, locate_all_of}

-- `a`, a newline, λ (two bytes), `b`, a newline
abbrev text : List ℕ
text = spelled "a" ++ newline ∷ spelled "λb" ++ newline ∷ []

abbrev index : List ℕ
index = 0 ∷ 2 ∷ 6 ∷ []

-- a text, an index, a place, and what the question answers
pub record Row : Type 0 where
  pub source : List ℕ
  pub known : List ℕ
  pub place : ℕ
  pub found : Where

abbrev row : List ℕ → List ℕ → ℕ → Where → Row
row s k p f = record { source = s; known = k; place = p; found = f }

abbrev each : List Row → List Row
each [] = []
each (r ∷ rs) = row r.source r.known r.place (locate_of r.source r.known r.place) ∷ each rs

abbrev questions : List Row
questions =
    row text index 0 (At 1 1)
    ∷ row text index 1 (At 1 2)  -- the newline byte ends its own line
    ∷ row text index 2 (At 2 1)  -- and the next place starts the next
    ∷ row text index 4 (At 2 2)  -- columns are characters
    ∷ row text index 6 (At 3 1)  -- the end is a place, after a final newline in a line of its own
    ∷ row [] (0 ∷ []) 0 (At 1 1)
    ∷ row text index 3 (Refused 34 3)  -- inside λ
    ∷ row text index 7 (Refused 34 7)  -- past the end
    ∷ row text (0 ∷ 2 ∷ []) 7 (Refused 48 0)  -- a start is missing, which goes before the place
    ∷ row text (0 ∷ 2 ∷ 5 ∷ []) 0 (Refused 48 0)
    ∷ row (0xFF ∷ []) (0 ∷ []) 0 (Refused 48 0)  -- a text that is not UTF-8 has no index
    ∷ []

pub asked : each questions ≡ questions
unfolding within same first rest front sequences first_bad utf8 bytes_of starts_from is_index line_of column since place_of locate_of
asked = refl

pub built :
    build_of text (9 ∷ 9 ∷ 9 ∷ 9 ∷ []) ∷ build_of text (9 ∷ []) ∷ build_of (spelled "a" ++ 0xCE ∷ []) [] ∷ []
    ≡ outcome (answer.Served 3) (0 ∷ 2 ∷ 6 ∷ 9 ∷ []) ∷ outcome (answer.Refused 33 3) (9 ∷ []) ∷ outcome (answer.Refused 21 1) [] ∷ []
unfolding within first rest front sequences first_bad utf8 bytes_of starts_from build_of
built = refl

-- places in any order, one of them inside λ
pub many : locate_all_of text index (4 ∷ 0 ∷ 3 ∷ []) (9 ∷ 9 ∷ 9 ∷ 9 ∷ 9 ∷ 9 ∷ 9 ∷ [])
    ≡ outcome (answer.Served 3) (2 ∷ 2 ∷ 1 ∷ 1 ∷ 0 ∷ 34 ∷ 9 ∷ [])
unfolding within same first rest front sequences first_bad utf8 bytes_of starts_from is_index line_of column since place_of locate_of answers locate_all_of
many = refl
