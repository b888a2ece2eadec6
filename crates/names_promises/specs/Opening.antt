-- The opening call: `names::open_table` ensures `opening r words' ≡ open_of words bytes`.
use Rattle.std.specs.Prelude.{◌≡◌, refl, List, [], ◌∷◌, ◌++◌, ℕ, ◌+◌, replicate}
use Rattle.std.proofs.Common.{sym, ◌∙◌}
use Rattle.refusal.specs.Refusals.{out_of_bounds}
use Rattle.names.specs.Layout.{table_words, table_bytes}
use Rattle.names.specs.Call.{Opening, opening, open_of}

-- two permitted answers coincide
one_answer : (w b : List ℕ) (x y : Opening) → x ≡ open_of w b → y ≡ open_of w b → x ≡ y
one_answer w b x y e f = e ∙ sym f

-- a word more than the table has: the table's words are cleared, that word stays
pub cleared : open_of (replicate (table_words + 1) 7) (replicate table_bytes 9) ≡ opening 0 (replicate table_words 0 ++ (7 ∷ []))
unfolding open_of
cleared = refl

-- no memory is too little for a table
pub too_little : open_of [] [] ≡ opening out_of_bounds []
unfolding open_of
too_little = refl
