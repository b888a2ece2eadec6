-- Worked examples, by computation.
use Rattle.std.specs.Prelude.{ℕ, ◌≡◌, refl, List, [], ◌∷◌, true, false, None, Option, Some}
use Rattle.laws.specs.Quoted.{codes, within}
use Rattle.chars.specs.Utf8.{first, rest, front, sequences, first_bad, chars}
use Rattle.chars.specs.Encode.{is_scalar, utf8, encode, bytes_of, spelled}
use Rattle.chars.specs.Blank.{is_blank}

-- a text, where it is bad, and its characters up to there
pub record Row : Type 0 where
  pub bytes : List ℕ
  pub bad : Option ℕ
  pub characters : List ℕ

abbrev row : List ℕ → Option ℕ → List ℕ → Row
row s b cs = record { bytes = s; bad = b; characters = cs }

abbrev judged : List ℕ → Row
judged s = row s (first_bad s) (chars s)

abbrev each : List Row → List Row
each [] = []
each (r ∷ rs) = judged r.bytes ∷ each rs

-- RFC 3629, section 7, has the first: A, not identical to, Greek capital alpha, a full stop
abbrev texts : List Row
texts =
    row (0x41 ∷ 0xE2 ∷ 0x89 ∷ 0xA2 ∷ 0xCE ∷ 0x91 ∷ 0x2E ∷ []) None (0x41 ∷ 0x2262 ∷ 0x391 ∷ 0x2E ∷ [])
    ∷ row (spelled "aλ€𝄞") None (codes "aλ€𝄞")
    ∷ row (0xF4 ∷ 0x8F ∷ 0xBF ∷ 0xBF ∷ []) None (0x10FFFF ∷ [])  -- the last character
    ∷ row (0x61 ∷ 0xF4 ∷ 0x90 ∷ 0x80 ∷ 0x80 ∷ []) (Some 1) (codes "a")  -- past the last
    ∷ row (0x61 ∷ 0x62 ∷ 0xC0 ∷ 0x80 ∷ []) (Some 2) (codes "ab")  -- U+0000 in two bytes: overlong
    ∷ row (0xE0 ∷ 0x9F ∷ 0xBF ∷ []) (Some 0) []  -- U+07FF in three bytes: overlong
    ∷ row (0xED ∷ 0xA0 ∷ 0x80 ∷ []) (Some 0) []  -- U+D800, a surrogate
    ∷ row (0x61 ∷ 0x80 ∷ []) (Some 1) (codes "a")  -- a later byte with no first
    ∷ row (0x61 ∷ 0xE2 ∷ 0x82 ∷ []) (Some 1) (codes "a")  -- the end cuts the euro sign
    ∷ row (0x61 ∷ 0xE2 ∷ 0x28 ∷ 0xA1 ∷ []) (Some 1) (codes "a")
    ∷ []

pub decoding : each texts ≡ texts
unfolding within first rest front sequences first_bad chars utf8 bytes_of
decoding = refl

-- two bytes and three; a surrogate and what is past the last character have none
pub encoding : (spelled "λ" ∷ encode 0x20AC ∷ encode 0xD800 ∷ encode 0x110000 ∷ []) ≡ ((0xCE ∷ 0xBB ∷ []) ∷ (0xE2 ∷ 0x82 ∷ 0xAC ∷ []) ∷ [] ∷ [] ∷ [])
unfolding within is_scalar utf8 encode bytes_of
encoding = refl

-- a no-break space is blank, a zero width space (U+200B) is not
pub spaces : is_blank 0xA0 ∷ is_blank 0x200B ∷ [] ≡ true ∷ false ∷ []
unfolding is_blank
spaces = refl
