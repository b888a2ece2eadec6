-- Building and asking. `build` ensures `outcome (told_of r) index' ≡ build_of text index`, `locate` `where_of r ≡ locate_of text index place`, and
-- `locate_all` `outcome (told_of r) found' ≡ locate_all_of text index places found`.
use Rattle.std.specs.Prelude.{ℕ, ◌≡◌, refl, List, [], ◌∷◌, ◌++◌}
use Rattle.laws.specs.Quoted.{within}
use Rattle.laws.specs.Texts.{same}
use Rattle.chars.specs.Utf8.{first, rest, front, sequences, first_bad}
use Rattle.chars.specs.Encode.{utf8, bytes_of, spelled}
use Rattle.lines.specs.Starts.{newline, starts_from, Served, Refused, outcome, build_of}
use Rattle.lines.specs.Place.{is_index, line_of, column, since, place_of, locate_of}
use Rattle.lines.specs.Many.{answers, locate_all_of}
use Rattle.lines.specs.Place as located

-- `a`, a newline, λ (two bytes), `b`, a newline
abbrev pub text : List ℕ
text = spelled "a" ++ newline ∷ spelled "λb" ++ newline ∷ []

abbrev pub index : List ℕ
index = 0 ∷ 2 ∷ 6 ∷ []

-- what the memory holds before a call
abbrev pub room : List ℕ
room = 9 ∷ 9 ∷ 9 ∷ 9 ∷ []

-- a start after each newline, the final one too, and the word past them stays
pub built : build_of text room ≡ outcome (Served 3) (0 ∷ 2 ∷ 6 ∷ 9 ∷ [])
unfolding within first rest front sequences first_bad utf8 bytes_of starts_from build_of
built = refl

-- two words are too few: nothing is written
short : build_of text (9 ∷ 9 ∷ []) ≡ outcome (Refused 33 3) (9 ∷ 9 ∷ [])
unfolding within first rest front sequences first_bad utf8 bytes_of starts_from build_of
short = refl

-- not UTF-8, which goes before 33
bad : build_of (spelled "a" ++ newline ∷ 0xFF ∷ []) [] ≡ outcome (Refused 21 2) []
unfolding within first rest front sequences first_bad utf8 bytes_of starts_from build_of
bad = refl

-- place 2 starts the second line
pub at_start : locate_of text index 2 ≡ located.At 2 1
unfolding within same first rest front sequences first_bad utf8 bytes_of starts_from is_index line_of column since place_of locate_of
at_start = refl

-- after λ, which is one character of two bytes
after_two_bytes : locate_of text index 4 ≡ located.At 2 2
unfolding within same first rest front sequences first_bad utf8 bytes_of starts_from is_index line_of column since place_of locate_of
after_two_bytes = refl

inside : locate_of text index 3 ≡ located.Refused 34 3
unfolding within same first rest front sequences first_bad utf8 bytes_of starts_from is_index line_of column since place_of locate_of
inside = refl

-- an index that lacks the last start
not_its_own : locate_of text (0 ∷ 2 ∷ []) 0 ≡ located.Refused 48 0
unfolding within same first rest front sequences first_bad utf8 bytes_of starts_from is_index line_of column since place_of locate_of
not_its_own = refl

-- the answers in the order of the places, 0 and the number for a refused one; the word past them stays
many : locate_all_of text index (4 ∷ 3 ∷ 0 ∷ []) (9 ∷ 9 ∷ 9 ∷ 9 ∷ 9 ∷ 9 ∷ 9 ∷ []) ≡ outcome (Served 3) (2 ∷ 2 ∷ 0 ∷ 34 ∷ 1 ∷ 1 ∷ 9 ∷ [])
unfolding within same first rest front sequences first_bad utf8 bytes_of starts_from is_index line_of column since place_of locate_of answers locate_all_of
many = refl

-- one word too few for two places: nothing is written
many_short : locate_all_of text index (4 ∷ 0 ∷ []) (9 ∷ 9 ∷ 9 ∷ []) ≡ outcome (Refused 33 4) (9 ∷ 9 ∷ 9 ∷ [])
unfolding within same first rest front sequences first_bad utf8 bytes_of starts_from is_index line_of column since place_of locate_of answers locate_all_of
many_short = refl
