-- Opening: `lexer::open` ensures `opening_of r ≡ open_of source mode skip`.
use Rattle.std.specs.Prelude.{ℕ, ◌<◌, ◌≤◌, ◌≡◌, refl, Bool, true, false, List, [], ◌∷◌, length, None}
use Rattle.std.proofs.Common.{lt-ltb, le-ltb}
use Rattle.laws.specs.Quoted.{code, within}
use Rattle.chars.specs.Encode.{utf8, width, bytes_of, spelled}
use Rattle.chars.specs.Utf8.{first, rest, front, first_bad, sequences, chars}
use Rattle.items.specs.Items.{unset}
use Rattle.items.specs.Whole.{limit, in_report}
use Rattle.meaning.specs.Places.{range_of}
use Rattle.lexer.specs.Opening.{opened, refused, line_end, after_hash, start_of, opening, open_of}
use Rattle.lexer.specs.declared.Position.{Position}

-- a position at a place, with no error range and no bracket open
abbrev pub position : ℕ → Bool → Bool → Position
position at report skip = record { spot = record { at = at; last = range_of unset; second = false; report = report; skip = skip }; depth = 0 }

pub record Rows : Type 0 where
  -- both modes, comments kept and skipped
  pub plain : open_of (spelled "a") 0 true ≡ opened (position 0 false true)
  pub reported : open_of (spelled "a") 1 false ≡ opened (position 0 true false)
  -- past a first line `#!`, up to its newline
  pub past_line_holds : open_of (spelled "#!λ\na") 0 false ≡ opened (position 4 false false)
  pub no_line : open_of (spelled "#a\n") 0 false ≡ opened (position 0 false false)
  -- 25 before 21
  pub no_mode : open_of (0xFF ∷ []) 2 false ≡ refused 25 2
  pub not_utf8_holds : open_of (code "a" ∷ 0xFF ∷ []) 0 false ≡ refused 21 1

pub rows : Rows
unfolding within utf8 width bytes_of first rest front first_bad sequences chars line_end after_hash start_of open_of
rows = record {
  plain = refl;
  reported = refl;
  past_line_holds = refl;
  no_line = refl;
  no_mode = refl;
  not_utf8_holds = refl;
}

-- a text of just the limit is opened; a byte more is 20, also where the bytes are no text: 20 before 21
longest_opened : (source : List ℕ) (mode : ℕ) (skip : Bool) → mode < 2 → length source ≡ 4294967295 → first_bad source ≡ None
    → open_of source mode skip ≡ opened (opening source (in_report mode) skip)
unfolding open_of
longest_opened source mode skip m e good = simp (lt-ltb mode 2 m, e, good)

too_long_first : (source : List ℕ) (mode : ℕ) (skip : Bool) → mode < 2 → 4294967295 < length source → open_of source mode skip ≡ refused 20 4294967295
unfolding open_of
too_long_first source mode skip m h = simp (lt-ltb mode 2 m, lt-ltb limit (length source) h)

-- no other mode is opened, whatever the text: 25 before 20
no_mode_first : (source : List ℕ) (mode : ℕ) (skip : Bool) → 2 ≤ mode → open_of source mode skip ≡ refused 25 mode
unfolding open_of
no_mode_first source mode skip m = simp (le-ltb mode 2 m)
