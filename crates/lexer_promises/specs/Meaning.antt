-- What an extent means: `meaning` ensures `meant r ≡ sized_all (meaning_of ..)`, which leaves one answer (One, `meaning_one_answer`), `nine_of` and `put`
-- the record's words, `depth_after` the depth after an item, `place` the place.
use Rattle.std.specs.Prelude.{ℕ, ◌+◌, ◌≡◌, refl, true, false, List, [], ◌∷◌, ◌++◌}
use Rattle.laws.specs.Lent.{written}
use Rattle.laws.specs.Texts.{same}
use Rattle.chars.specs.Encode.{utf8, bytes_of, spelled}
use Rattle.items.specs.Kinds as kind
use Rattle.items_promises.specs.Shapes.{room}
use Rattle.items.specs.Items.{range, unset, place_of, record_words, words_of, most_open, depth_after}
use Rattle.items.specs.Meaning.{lookup, words, word_kind, word_means, meaning_of}
use Rattle.items.specs.declared.Outcome.TheVariants.{Word}
use Rattle.meaning.specs.declared.Means.{Means}
use Rattle.meaning.specs.declared.Text.{Text}
use Rattle.meaning.specs.Meant.{means, sized_all}
use Rattle.meaning.specs.Places.{range_of}
use Rattle.meaning.specs.Records.{nine_for}
use Rattle.meaning.specs.declared.Text.TheVariants.{Nowhere, Source, Decoded}
use Rattle.lexer.specs.Inner.{deep_at}

-- the words of a record as `put` writes them at the front of lent memory that has a word more
abbrev put : List ℕ → List ℕ
put w = written w (room (record_words + 1))

pub record Rows : Type 0 where
  -- meaning: a word with a kind of its own; of `+foo` the second item's text starts after the plus
  pub word : sized_all (meaning_of false Word 0 2 (spelled "if")) ≡ means kind.If 0 Nowhere ∷ []
  pub plus : sized_all (meaning_of false Word 3 7 (spelled "+foo")) ≡ means kind.Identifier 0 (Source 3 4) ∷ means kind.Identifier 0 (Source 4 7) ∷ []
  -- nine_of and put: kind, detail, extent, place, text source, text places, depth; the word past them stays
  pub nine_of_holds : put (words_of (deep_at 4 (nine_for 5 (means kind.StringLiteral 0 (Decoded 2)) (range_of (range 3 9)) (range_of (range 3 9)))))
      ≡ (kind.StringLiteral ∷ 0 ∷ 3 ∷ 9 ∷ 3 ∷ 9 ∷ 2 ∷ 5 ∷ 7 ∷ 4 ∷ []) ++ (7 ∷ [])
  -- depth_after: an open bracket, closes, an open bracket at the greatest depth, an item that is no bracket
  pub depths : depth_after kind.OpenParen 2 ∷ depth_after kind.CloseParen 2 ∷ depth_after kind.CloseParen 0
      ∷ depth_after kind.OpenParen most_open ∷ depth_after kind.Comment 2 ∷ []
      ≡ 3 ∷ 1 ∷ 0 ∷ most_open ∷ 2 ∷ []
  -- place: an error's is the last range that was set, if any was; any other item's is its extent
  pub error_place : place_of false (kind.first_error + kind.IncompleteString) (range 1 8) (range 8 9) ≡ range 1 8
  pub first_place_holds : place_of false (kind.first_error + kind.IncompleteString) unset (range 8 9) ≡ range 8 9
  pub item_place : place_of false kind.Number (range 1 8) (range 8 9) ≡ range 8 9
  -- in report mode an empty range of its own is an error's place too: `"\x;"`
  pub empty_place : place_of true (kind.first_error + kind.InvalidHexEscapeLiteral) (range 3 3) (range 0 4) ≡ range 3 3

pub rows : Rows
unfolding same utf8 bytes_of lookup words word_kind word_means
rows = record {
  word = refl;
  plus = refl;
  nine_of_holds = refl;
  depths = refl;
  error_place = refl;
  first_place_holds = refl;
  item_place = refl;
  empty_place = refl;
}

-- where the text of the second of two items starts
abbrev start_of : Text → ℕ
start_of Nowhere = 0
start_of (Source a b) = a
start_of (Decoded n) = 0

abbrev pub second_start : List Means → ℕ
second_start [] = 0
second_start (m ∷ []) = 0
second_start (m ∷ n ∷ ms) = start_of n.text
