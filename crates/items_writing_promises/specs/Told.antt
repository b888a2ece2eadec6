-- What C gets: `mihadrena_write` ensures `sees r values' out' ≡ seen (write_of records source text out) values`.
use Rattle.std.specs.Prelude.{ℕ, ◌≡◌, refl}
use Rattle.std.proofs.Common.{sym, ◌∙◌}
use mathlib.Core.List.{List, [], ◌∷◌, ◌++◌}
use Rattle.laws.specs.Quoted.{within}
use Rattle.chars.specs.Encode.{utf8, width, encode, bytes_of, spelled, lay}
use Rattle.chars.specs.Utf8.{first, rest, front, sequences, first_bad}
use Rattle.items.specs.Kinds as kind
use Rattle.items_writing.specs.Written.{word_of, twins, joined, written}
use Rattle.items_writing.specs.Records.{records_from, is_whole, is_kind, has_text, text_right, is_right, is_left, judge, text_of}
use Rattle.items_writing.specs.Call.{deliver, write_within, write_of}
use Rattle.items_writing_exports.specs.Write.{Seen, sees, seen}
use Rattle.items_writing_promises.specs.Shapes.{room, bare}
use Rattle.items_writing_promises.specs.Write.{brackets}

-- the call for C on records of the text ()
abbrev pub told : List ℕ → ℕ → List ℕ → Seen
told records bytes values = seen (write_of records (spelled "()") [] (room bytes)) values

pub told_one_answer : (records source text out values : List ℕ) (x y : Seen) → x ≡ seen (write_of records source text out) values
    → y ≡ seen (write_of records source text out) values → x ≡ y
told_one_answer records source text out values x y e f = e ∙ sym f

pub record Rows : Type 0 where
  -- 0, how many bytes were written, and the value behind it stays
  pub bytes_told : told brackets 4 (9 ∷ 9 ∷ []) ≡ sees 0 (3 ∷ 9 ∷ []) (spelled "( )" ++ room 1)
  -- 22 with the bytes needed, 47 and 48 with the record, which may be 0
  pub needed_told : told brackets 2 (9 ∷ 9 ∷ []) ≡ sees 22 (3 ∷ 9 ∷ []) (room 2)
  pub comment-told : told (brackets ++ bare kind.Comment 0 2) 4 (9 ∷ 9 ∷ []) ≡ sees 47 (2 ∷ 9 ∷ []) (room 4)
  pub alien_told : told (bare 32 0 2) 4 (9 ∷ []) ≡ sees 48 (0 ∷ []) (room 4)
  -- no room for the value: the text is written all the same
  pub no_values : told brackets 4 [] ≡ sees 0 [] (spelled "( )" ++ room 1)

pub rows : Rows
-- the list only permits the computing
unfolding first_bad sequences utf8 width encode bytes_of lay within first rest front word_of twins joined written records_from is_whole is_kind
    has_text text_right is_right is_left judge text_of deliver write_within
rows = record { bytes_told = refl; needed_told = refl; comment-told = refl; alien_told = refl; no_values = refl }
