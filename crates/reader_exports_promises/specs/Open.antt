-- Opening: `mihadrena_reader_open` ensures `started r position' values' ≡ open_left source mode skip position values`.
use Rattle.std.specs.Prelude.{ℕ, ◌<◌, ◌≤◌, ◌≡◌, refl, Bool, true, false, List, [], ◌∷◌, length}
use borrow.Author.Tests.{lt-ltb, le-ltb, eq-eqb}
use Rattle.laws.specs.Quoted.{code, within}
use Rattle.chars.specs.Encode.{utf8, width, bytes_of, spelled, lay}
use Rattle.chars.specs.Utf8.{first, rest, front, first_bad, sequences, chars}
use Rattle.items.specs.Whole.{limit}
use Rattle.lexer.specs.Opening.{line_end, after_hash, start_of, open_of}
use Rattle.reader_exports.specs.Words.{reader_words}
use Rattle.reader_exports.specs.Reader.{started, told, open_left}
use Rattle.reader_exports_promises.specs.Shapes.{room, at, none}

pub record Rows : Type 0 where
  -- both modes, comments kept and skipped; past a first line `#!`
  pub plain : open_left (spelled "a") 0 true (room 7) (room 2) ≡ started 0 (0 ∷ 0 ∷ 0 ∷ 0 ∷ 0 ∷ 1 ∷ 0 ∷ []) none
  pub reported : open_left (spelled "a") 1 false (room 7) (room 2) ≡ started 0 (0 ∷ 0 ∷ 0 ∷ 0 ∷ 1 ∷ 0 ∷ 0 ∷ []) none
  pub past_line_holds : open_left (spelled "#!λ\na") 0 false (room 7) (room 2) ≡ started 0 (at 4 0) none
  -- 25 before 21, each with its value; the words stay
  pub no_mode : open_left (0xFF ∷ []) 2 false (room 7) (room 2) ≡ started 25 (room 7) (2 ∷ 0 ∷ [])
  pub not_utf8_holds : open_left (code "a" ∷ 0xFF ∷ []) 0 false (room 7) (room 2) ≡ started 21 (room 7) (1 ∷ 0 ∷ [])
  -- 27 before 25; no room for two values
  pub few_words : open_left (spelled "a") 2 false (room 6) (room 2) ≡ started 27 (room 6) none
  pub one_value : open_left (spelled "a") 0 false (room 7) (room 1) ≡ started 0 (at 0 0) (room 1)

pub rows : Rows
unfolding within utf8 width bytes_of lay first rest front first_bad sequences chars line_end after_hash start_of open_of open_left
rows = record {
  plain = refl;
  reported = refl;
  past_line_holds = refl;
  no_mode = refl;
  not_utf8_holds = refl;
  few_words = refl;
  one_value = refl;
}

module _ (source : List ℕ) (mode : ℕ) (skip : Bool) (words values : List ℕ) (seven : length words ≡ reader_words) where
  -- no other mode is opened, whatever the text: 25 before 20
  no_mode_first : 2 ≤ mode → open_left source mode skip words values ≡ started 25 words (told mode 0 values)
  unfolding open_of open_left
  no_mode_first m = simp (eq-eqb (length words) reader_words seven, le-ltb mode 2 m)

  -- a text over the limit is 20, also where the bytes are no text: 20 before 21
  too_long_first : mode < 2 → 4294967295 < length source → open_left source mode skip words values ≡ started 20 words (told 4294967295 0 values)
  unfolding open_of open_left
  too_long_first m h = simp (eq-eqb (length words) reader_words seven, lt-ltb mode 2 m, lt-ltb limit (length source) h)
