-- Which of its hexadecimal digits an item of error 11 points at in report mode (02 (vii)): where the digits start and end is told by the
-- extent's bytes, and of them it is the first that fails. 01: "`\x` ends at `;`, `\u` also, `\u{` at `}`. One leading `+` is allowed. Digits
-- are read left to right; the first failing position decides, bad digit before overflow. A lone `+` is a bad digit."
use Rattle.std.specs.Prelude.{ℕ, ◌+◌, ◌-◌, ◌^◌, ◌≤◌, ◌<◌, ◌≡◌, true, false, ◌&&◌, List, [], ◌∷◌, ◌++◌, length, take, drop, ltb, if◌then◌else◌}
use Rattle.laws.specs.Quoted.{code, codes, one_of}
use Rattle.laws.specs.Texts.{starts, begins}
use Rattle.chars.specs.Encode.{utf8, width, is_scalar}
use Rattle.digits.specs.Digits.{digit_of, value}
use Rattle.digits.specs.Hex.{empty, bad_digit, overflow}
use Rattle.items.specs.Kinds as kind
use Rattle.items.proofs.Every.{Every}
use Rattle.items_coverage.specs.Records.{row_kind, word, start_word, end_word}
use Rattle.items_errors.specs.Failing.{IsDigit}

-- ---- where the digits stand

-- what the digits ds of a character stand between, all of its extent
pub data OfCharacter (ds : List ℕ) : List ℕ → List ℕ → Type 0 where
  x : OfCharacter ds (codes "#\\x") []
  u : starts (code "{") ds ≡ false → OfCharacter ds (codes "#\\u") []
  brace : OfCharacter ds (codes "#\\u{") (codes "}")

-- what the digits of an escape stand between
pub data OfEscape : List ℕ → List ℕ → Type 0 where
  x : OfEscape (codes "\\x") (codes ";")
  u : OfEscape (codes "\\u") (codes ";")
  brace : OfEscape (codes "\\u{") (codes "}")

-- no later escape begins among the digits of one, and no brace opens
abbrev pub Inner : ℕ → Type 0
Inner c = one_of (codes "\\{") c ≡ false

-- the digits ds of an extent, whose bytes are raw, stand n bytes behind its start
pub data Stand (raw ds : List ℕ) : ℕ → Type 0 where
  -- a character: `#\x4G`
  character : (opening closer : List ℕ) → OfCharacter ds opening closer → raw ≡ opening ++ (ds ++ closer) → Stand raw ds (length opening)
  -- the last escape in quotes, whose closer ends the extent: `"\x41;\x4G;`
  escape : begins (codes "#\\") raw ≡ false → (before opening closer : List ℕ) → OfEscape opening closer → raw ≡ before ++ (opening ++ (ds ++ closer))
      → Every Inner ds → Stand raw ds (length before + length opening)

-- ---- which of them fails

-- how many bytes the plus takes that is allowed before digits; where nothing follows it, it is taken for one
unfoldable pub plus : List ℕ → ℕ
plus ds = if starts (code "+") ds && ltb 1 (length ds) then 1 else 0

-- The digits ds fail with a detail, from their byte p to their byte q
pub data FailAt (ds : List ℕ) : ℕ → ℕ → ℕ → Type 0 where
  -- there are none: `"\x;`
  none : ds ≡ [] → FailAt ds empty 0 0
  -- c is no digit, all before it are, and their value fits 32 bits: `"\x4G1;`
  bad : (good : List ℕ) (c : ℕ) (after : List ℕ) → drop (plus ds) ds ≡ good ++ (utf8 c ++ after) → Every IsDigit good → value 16 0 good < 2 ^ 32
      → is_scalar c ≡ true → 16 ≤ digit_of c → FailAt ds bad_digit (plus ds + length good) (plus ds + length good + width c)
  -- c is a digit, and so are all before it; their value fits 32 bits without it and not with it: `"\x100000000;`
  over : (good : List ℕ) (c : ℕ) (after : List ℕ) → drop (plus ds) ds ≡ good ++ (c ∷ after) → Every IsDigit good → value 16 0 good < 2 ^ 32
      → IsDigit c → 2 ^ 32 ≤ value 16 0 (good ++ (c ∷ [])) → FailAt ds overflow (plus ds + length good) (plus ds + length good + 1)

-- ---- what the whole-text call writes

-- an extent that starts at a place and has the bytes raw, its error 11 with a detail, points at from to to
pub record FirstFails (raw : List ℕ) (start detail from to : ℕ) : Type 0 where
  pub ds : List ℕ
  pub n : ℕ
  pub p : ℕ
  pub q : ℕ
  pub stand : Stand raw ds n
  pub fails : FailAt ds detail p q
  pub begins : from ≡ start + n + p
  pub ends : to ≡ start + n + q

-- the words of a record that tell its detail and its place (01: "kind, detail, extent start and end, place start and end")
abbrev pub detail_word : ℕ
detail_word = 1

abbrev pub from_word : ℕ
from_word = 4

abbrev pub to_word : ℕ
to_word = 5

-- the bytes of a record's extent
abbrev pub extent_of : List ℕ → List ℕ → List ℕ
extent_of source row = take (word row end_word - word row start_word) (drop (word row start_word) source)

-- a record of error 11 points at the first of its digits that fails
abbrev pub PointsAtFirst : List ℕ → List ℕ → Type 0
PointsAtFirst source row =
    row_kind row ≡ kind.first_error + kind.InvalidHexEscapeLiteral
    → FirstFails (extent_of source row) (word row start_word) (word row detail_word) (word row from_word) (word row to_word)
