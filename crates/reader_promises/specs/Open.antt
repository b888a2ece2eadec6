-- Opening: `reader::open` ensures `opened_as (standing_of standing) source' position' ≡ open_for source mode skip`, of the reader that it gives.
use Rattle.std.specs.Prelude.{ℕ, ◌<◌, ◌≤◌, ◌≡◌, refl, Bool, true, false, List, [], ◌∷◌, length}
use Rattle.std.proofs.Common.{lt-ltb, le-ltb}
use Rattle.laws.specs.Quoted.{code, within}
use Rattle.chars.specs.Encode.{utf8, width, bytes_of, spelled}
use Rattle.chars.specs.Utf8.{first, rest, front, first_bad, sequences, chars}
use Rattle.items.specs.Items.{unset}
use Rattle.items.specs.Whole.{limit}
use Rattle.meaning.specs.Places.{range_of}
use Rattle.lexer.specs.Opening.{line_end, after_hash, start_of, open_of}
use Rattle.lexer.specs.declared.Position.{Position}
use Rattle.reader.specs.Reading.{stands, refuses_with, start_for, nowhere, opened_as, open_for}

-- a position at a place, with no error range and no bracket open
abbrev position : ℕ → Bool → Bool → Position
position at report skip = record { spot = record { at = at; last = range_of unset; second = false; report = report; skip = skip }; depth = 0 }

pub record Rows : Type 0 where
  -- both modes, comments kept and skipped; past a first line `#!`
  pub plain : open_for (spelled "a") 0 true ≡ opened_as stands (spelled "a") (position 0 false true)
  pub reported : open_for (spelled "a") 1 false ≡ opened_as stands (spelled "a") (position 0 true false)
  pub past_line_holds : open_for (spelled "#!λ\na") 0 false ≡ opened_as stands (spelled "#!λ\na") (position 4 false false)
  -- 25 before 21; a refused reader holds no text
  pub no_mode : open_for (0xFF ∷ []) 2 false ≡ opened_as (refuses_with 25 2) [] nowhere
  pub not_utf8_holds : open_for (code "a" ∷ 0xFF ∷ []) 0 false ≡ opened_as (refuses_with 21 1) [] nowhere

pub rows : Rows
unfolding within utf8 width bytes_of first rest front first_bad sequences chars line_end after_hash start_of open_of start_for open_for
rows = record {
  plain = refl;
  reported = refl;
  past_line_holds = refl;
  no_mode = refl;
  not_utf8_holds = refl;
}

-- no other mode is opened, whatever the text: 25 before 20
no_mode_first : (source : List ℕ) (mode : ℕ) (skip : Bool) → 2 ≤ mode → open_for source mode skip ≡ opened_as (refuses_with 25 mode) [] nowhere
unfolding open_of start_for open_for
no_mode_first source mode skip m = simp (le-ltb mode 2 m)

-- a text over the limit is 20, also where the bytes are no text: 20 before 21
too_long_first : (source : List ℕ) (mode : ℕ) (skip : Bool) → mode < 2 → 4294967295 < length source → open_for source mode skip ≡ opened_as (refuses_with 20 4294967295) [] nowhere
unfolding open_of start_for open_for
too_long_first source mode skip m h = simp (lt-ltb mode 2 m, lt-ltb limit (length source) h)
