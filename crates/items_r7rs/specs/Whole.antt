-- R7RS 7.1.1: a whole text, its tokens with <intertoken space> between them, and what is said of each token.
--   <intertoken space> → <atmosphere>*, <atmosphere> → <whitespace> | <comment> | <directive>
-- A comment has an item too, so it is a token here. A <directive> is none (B8).
use Rattle.std.specs.Prelude.{ℕ, ◌+◌, ◌≡◌, Bool, true, false, List, [], ◌∷◌, ◌++◌, eqb}
use Rattle.laws.specs.Quoted.{codes, code, one_of}
use Rattle.laws.specs.Texts.{begins}
use Rattle.chars.specs.Encode.{bytes_of}
use Rattle.items.specs.Items.{byte_count, Item}
use Rattle.items.specs.Meaning.{Text}
use Rattle.items_r7rs.specs.Reading.{item, spelling, Spelling}
use Rattle.items_r7rs.specs.Repeated.{Many}
use Rattle.items_r7rs.specs.Token.{Token}

-- what is said of a token: its kind and detail, its extent and the bytes there, and what its text spells
pub record Said : Type 0 where
  pub kind : ℕ
  pub detail : ℕ
  pub start : ℕ
  pub end : ℕ
  pub bytes : List ℕ
  pub spells : Spelling

-- of a token with the characters t, at the place `at`
abbrev pub said : ℕ → ℕ → ℕ → List ℕ → Spelling → Said
said k d at t w = record { kind = k; detail = d; start = at; end = at + byte_count t; bytes = bytes_of t; spells = w }

-- <whitespace>, each character of it one byte
abbrev pub whitespace : List ℕ
whitespace = codes " \t\n\r"

-- The characters from the place `at` on: spaces and tokens, each token before what may follow it. A token has one character or more
pub data Tokens (report : Bool) : ℕ → List ℕ → List Said → Type 0 where
  no_more : {at : ℕ} → Tokens report at [] []
  space : {at c : ℕ} {cs : List ℕ} {ts : List Said} → one_of whitespace c ≡ true → Tokens report (at + 1) cs ts → Tokens report at (c ∷ cs) ts
  token : {at c k d : ℕ} (t cs : List ℕ) {w : Spelling} {ts : List Said} → Token report cs (c ∷ t) k d w → Tokens report (at + byte_count (c ∷ t)) cs ts
      → Tokens report at (c ∷ t ++ cs) (said k d at (c ∷ t) w ∷ ts)

abbrev pub InFirstLine : ℕ → Type 0
InFirstLine c = eqb c (code "\n") ≡ false

-- A whole text. Departure (B8): a first line that starts with #! is passed over, up to its newline or the end
pub data Whole (report : Bool) : List ℕ → List Said → Type 0 where
  tokens : {cs : List ℕ} {ts : List Said} → begins (codes "#!") cs ≡ false → Tokens report 0 cs ts → Whole report cs ts
  first_line : (l cs : List ℕ) {ts : List Said} → Many InFirstLine l → Tokens report (2 + byte_count l) (code "\n" ∷ cs) ts
      → Whole report (code "#" ∷ code "!" ∷ l ++ (code "\n" ∷ cs)) ts
  only_line : {l : List ℕ} → Many InFirstLine l → Whole report (code "#" ∷ code "!" ∷ l) []

-- Items are as said, one for one: their kinds, details and extents, their places the extents, and their texts spell what is said
pub data AreSaid : List Said → List Item → Type 0 where
  none : AreSaid [] []
  one : {k d at : ℕ} (t : List ℕ) {w : Spelling} {x : Text} {ts : List Said} {is : List Item} → spelling at (bytes_of t) x ≡ w → AreSaid ts is
      → AreSaid (said k d at t w ∷ ts) (item k d at (at + byte_count t) x ∷ is)
