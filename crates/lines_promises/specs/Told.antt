-- What C gets: a call's result, the two values lent, and the memory. `mihadrena_lines`, `mihadrena_locate_all` and `mihadrena_lines_end`
-- ensure `r ≡ answer_number a` and `values' ≡ lay (answer_value a ∷ 0 ∷ []) values`, a being the answer of `build_of`, `locate_all_of` and
-- `end_for`, and the memory of these; `mihadrena_locate` the same with `located_number`, `located_first` and `located_second` of `locate_of`;
-- `mihadrena_lines_open` that `contents state' index' ≡ open_left state index`, `mihadrena_lines_piece` that it is `piece_left state piece index`.
use Rattle.std.specs.Prelude.{ℕ, ◌≡◌, refl, List, [], ◌∷◌, ◌++◌, replicate}
use Rattle.laws.specs.Quoted.{within}
use Rattle.laws.specs.Texts.{same}
use Rattle.chars.specs.Utf8.{first, rest, front, sequences, first_bad}
use Rattle.chars.specs.Machine.{step}
use Rattle.chars.specs.Encode.{utf8, bytes_of, spelled, lay}
use Rattle.lines.specs.Starts.{newline, starts_from, Outcome, build_of}
use Rattle.lines.specs.Starts as starts
use Rattle.lines.specs.Place.{Where, is_index, line_of, column, since, place_of, locate_of}
use Rattle.lines.specs.Many.{answers, locate_all_of}
use Rattle.lines.specs.Pieces.{step_of, fed_of, piece_of, end_of}
use Rattle.lines.specs.Words.{is_a_state, contents, open_left, piece_left, end_for}
use Rattle.lines.specs.Numbers.{answer_number, answer_value, located_number, located_first, located_second}
use Rattle.lines_promises.specs.Whole.{text, index, room}

-- the result and the values
pub record Told : Type 0 where
  pub number : ℕ
  pub values : List ℕ

abbrev pub told : ℕ → List ℕ → Told
told n v = record { number = n; values = v }

-- what is told of an answer, and of a place's, into the values 7 and 7 and one more that no call writes
abbrev pub tells : starts.Told → Told
tells a = told (answer_number a) (lay (answer_value a ∷ 0 ∷ []) (7 ∷ 7 ∷ 7 ∷ []))

abbrev pub tells_place : Where → Told
tells_place r = told (located_number r) (lay (located_first r ∷ located_second r ∷ []) (7 ∷ 7 ∷ 7 ∷ []))

-- the same with the memory after the call
pub record Seen : Type 0 where
  pub said : Told
  pub memory : List ℕ

abbrev pub seen : Outcome → Seen
seen o = record { said = tells o.answer; memory = o.memory }

abbrev pub sees : ℕ → List ℕ → List ℕ → Seen
sees n v m = record { said = told n v; memory = m }

-- ---- mihadrena_lines

-- 0, the count of starts, and 0 for the second value
pub lines_told : seen (build_of text room) ≡ sees 0 (3 ∷ 0 ∷ 7 ∷ []) (0 ∷ 2 ∷ 6 ∷ 9 ∷ [])
unfolding within first rest front sequences first_bad utf8 bytes_of starts_from build_of lay
lines_told = refl

-- one value is no room for two, and stays
lines_one_value : lay (answer_value (build_of text room).answer ∷ 0 ∷ []) (7 ∷ []) ≡ 7 ∷ []
unfolding within first rest front sequences first_bad utf8 bytes_of starts_from build_of lay
lines_one_value = refl

-- ---- mihadrena_locate

-- line, then column
pub place_told : tells_place (locate_of text index 2) ≡ told 0 (2 ∷ 1 ∷ 7 ∷ [])
unfolding within same first rest front sequences first_bad utf8 bytes_of starts_from is_index line_of column since place_of locate_of lay
place_told = refl

-- inside λ: 34 with the place, and 0 for the second value
inside_told : tells_place (locate_of text index 3) ≡ told 34 (3 ∷ 0 ∷ 7 ∷ [])
unfolding within same first rest front sequences first_bad utf8 bytes_of starts_from is_index line_of column since place_of locate_of lay
inside_told = refl

-- ---- mihadrena_locate_all

-- 0 and the count of places, one of which is answered with 0 and 34
pub all_told : seen (locate_all_of text index (4 ∷ 3 ∷ 0 ∷ []) (replicate 7 9)) ≡ sees 0 (3 ∷ 0 ∷ 7 ∷ []) (2 ∷ 2 ∷ 0 ∷ 34 ∷ 1 ∷ 1 ∷ 9 ∷ [])
unfolding within same first rest front sequences first_bad utf8 bytes_of starts_from is_index line_of column since place_of locate_of answers locate_all_of lay
all_told = refl

-- 33 with the numbers that are needed, two a place
all_short : seen (locate_all_of text index (4 ∷ 0 ∷ []) (replicate 3 9)) ≡ sees 33 (4 ∷ 0 ∷ 7 ∷ []) (replicate 3 9)
unfolding within same first rest front sequences first_bad utf8 bytes_of starts_from is_index line_of column since place_of locate_of answers locate_all_of lay
all_short = refl

-- ---- mihadrena_lines_open and mihadrena_lines_piece

-- the words of a fresh state, and the first start
abbrev pub opened : List ℕ
opened = replicate 8 0

pub open_left_lem : open_left (replicate 8 7) room ≡ contents opened (0 ∷ 9 ∷ 9 ∷ 9 ∷ [])
unfolding open_left
open_left_lem = refl

-- `a` and a newline: two bytes, one newline, and the start after it is noted
pub piece_left_lem : piece_left opened (spelled "a" ++ newline ∷ []) room ≡ contents (0 ∷ 0 ∷ 0 ∷ 0 ∷ 2 ∷ 2 ∷ 1 ∷ 0 ∷ []) (9 ∷ 2 ∷ 9 ∷ 9 ∷ [])
unfolding within first step utf8 bytes_of step_of fed_of piece_of is_a_state piece_left
piece_left_lem = refl

-- ---- mihadrena_lines_end

-- 0 and the count of starts, one more than that of newlines
end_told : tells (end_for (0 ∷ 0 ∷ 0 ∷ 0 ∷ 5 ∷ 5 ∷ 2 ∷ 0 ∷ []) 4) ≡ told 0 (3 ∷ 0 ∷ 7 ∷ [])
unfolding end_of is_a_state end_for lay
end_told = refl

-- words that are no state's: 27, and the values are 0
pub end_forged : tells (end_for (replicate 7 7) 4) ≡ told 27 (0 ∷ 0 ∷ 7 ∷ [])
unfolding is_a_state end_for lay
end_forged = refl
