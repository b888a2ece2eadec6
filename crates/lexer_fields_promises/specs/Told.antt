-- What C gets: `mihadrena_read_fields` ensures
-- `left_behind r rows' records' text' values' ≡ fields_left source ends mode skip rows records text values`.
use Rattle.std.specs.Prelude.{ℕ, ◌≡◌, false, List, [], ◌∷◌, ◌++◌}
use Rattle.std.proofs.Common.{sym, ◌∙◌}
use Rattle.chars.specs.Encode.{spelled}
use Rattle.items_promises.specs.Shapes.{room, words_for}
use Rattle.lexer_fields_exports.specs.Told.{LeftBehind, left_behind, fields_left}
use Rattle.lexer_fields_promises.specs.Fields.{row, name}

-- `ab` in two parts, with room for two rows and a word and for so many records
abbrev pub leaves : List ℕ → ℕ → List ℕ → LeftBehind
leaves ends r values = fields_left (spelled "ab") ends 0 false (room 9) (room (words_for r)) [] values

abbrev left : ℕ → List ℕ → List ℕ → List ℕ → LeftBehind
left n w r values = left_behind n w r [] values

pub record Rows : Type 0 where
  -- served: 0, the items and the text bytes, and the value behind them stays
  pub served_told : leaves (1 ∷ 2 ∷ []) 2 (9 ∷ 9 ∷ 9 ∷ []) ≡ left 0 (row 0 0 0 0 ++ row 1 0 0 0 ++ room 1) (name 0 1 ++ name 0 1) (2 ∷ 0 ∷ 9 ∷ [])
  -- 22 and both amounts; 38 and nothing; 25 and the mode: all other memory stays
  pub few_told : leaves (1 ∷ 2 ∷ []) 1 (9 ∷ 9 ∷ []) ≡ left 22 (room 9) (room (words_for 1)) (2 ∷ 0 ∷ [])
  pub ends_told : leaves (1 ∷ 3 ∷ []) 0 (9 ∷ 9 ∷ []) ≡ left 38 (room 9) [] (0 ∷ 0 ∷ [])
  pub mode_told : fields_left (spelled "ab") (2 ∷ 1 ∷ []) 2 false [] [] [] (9 ∷ 9 ∷ []) ≡ left 25 [] [] (2 ∷ 0 ∷ [])
  -- with room for one value neither is written, and the parts are all the same
  pub no_values : leaves (1 ∷ 2 ∷ []) 2 (9 ∷ []) ≡ left 0 (row 0 0 0 0 ++ row 1 0 0 0 ++ room 1) (name 0 1 ++ name 0 1) (9 ∷ [])

-- two permitted answers coincide
pub told_one_answer : (x y z : LeftBehind) → x ≡ z → y ≡ z → x ≡ y
told_one_answer x y z e f = e ∙ sym f
