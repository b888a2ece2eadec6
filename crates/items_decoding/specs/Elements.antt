-- What stands between the quotes of a string, or between vertical lines, element by element: each as it is written, in characters, and the
-- bytes that it stands for.
use Rattle.std.specs.Prelude.{ℕ, ◌≡◌, false, List, [], ◌∷◌, ◌++◌, drop, Ok}
use Rattle.laws.specs.Quoted.{code, codes, one_of}
use Rattle.chars.specs.Encode.{utf8, bytes_of}
use Rattle.digits.specs.Hex.{hex_value}
use Rattle.items.specs.declared.Quotes.{Quotes}
use Rattle.items.specs.declared.Quotes.TheVariants.{Lines}
use Rattle.items.specs.declared.Outcome.{Outcome}
use Rattle.items.specs.declared.Outcome.TheVariants.{Token, Str, HereStr, Word, Run, Lined, Keyword, Character, Error, ErrorAt}
use Rattle.items.specs.Classes.{delim_of, in_quotes, plain, after_backslash, simple, in_hex, digit}
use Rattle.items.specs.Meaning.{unescape}
use Rattle.items.specs.Readers.{Read, scalar_of}
use Rattle.items_r7rs.specs.Repeated.{Many}
use Rattle.items_r7rs.specs.String.{intraline, Intraline}

-- hex digits: what neither closes them nor breaks them off. Whether they have a value is asked of all of them
abbrev pub Digit : Quotes → ℕ → ℕ → Type 0
Digit k closer c = in_hex k closer c ≡ digit

-- they are the digits of the character v
abbrev pub Spells : List ℕ → ℕ → Type 0
Spells ds v = scalar_of (hex_value (bytes_of ds)) ≡ Ok v

-- where a line that goes on stops being skipped: at something, and at no space or tab
abbrev pub Solid : List ℕ → Type 0
Solid [] = ⊥
Solid (c ∷ cs) = one_of intraline c ≡ false

-- One element: what is written and the bytes that it stands for. `next` is what follows it
pub data Element (k : Quotes) (next : List ℕ) : List ℕ → List ℕ → Type 0 where
  -- a character that neither closes the quotes nor is a backslash
  itself : {c : ℕ} → in_quotes k c ≡ plain → Element k next (c ∷ []) (utf8 c)
  -- `\n`, `\"`, `\|`, `\0` and the like
  escape : {c x : ℕ} → after_backslash c ≡ simple x → Element k next (code "\\" ∷ c ∷ []) (x ∷ [])
  -- `\x3bb;`, with a plus or without (E11)
  hex : (ds : List ℕ) {v : ℕ} → Many (Digit k (code ";")) ds → Spells ds v → Element k next (codes "\\x" ++ (ds ++ codes ";")) (utf8 v)
  -- `\u3bb;`
  unicode : (ds : List ℕ) {v : ℕ} → Many (Digit k (code ";")) ds → Spells ds v → Element k next (codes "\\u" ++ (ds ++ codes ";")) (utf8 v)
  -- `\u{3bb}`
  braced : (ds : List ℕ) {v : ℕ} → Many (Digit k (code "}")) ds → Spells ds v → Element k next (codes "\\u{" ++ (ds ++ codes "}")) (utf8 v)
  -- a line that goes on: "backslash, spaces or tabs, newline, spaces or tabs vanish". A second newline stays, as itself
  line : (trailing indent : List ℕ) → Many Intraline trailing → Many Intraline indent → Solid next
      → Element k next (code "\\" ∷ trailing ++ (code "\n" ∷ indent)) []

pub record Part : Type 0 where
  pub written : List ℕ
  pub value : List ℕ

unfoldable pub written : List Part → List ℕ
written [] = []
written (p ∷ ps) = p.written ++ written ps

unfoldable pub value : List Part → List ℕ
value [] = []
value (p ∷ ps) = p.value ++ value ps

-- some elements, one after the other, and then `after`
pub data Elements (k : Quotes) (after : List ℕ) : List Part → Type 0 where
  none : Elements k after []
  more : {p : Part} {ps : List Part} → Element k (written ps ++ after) p.written p.value → Elements k after ps → Elements k after (p ∷ ps)

-- where the elements of an item end: at the closing quote; in vertical lines the end of the text may stand for it (E9)
pub data Ends (k : Quotes) : List ℕ → Type 0 where
  closing : (rest : List ℕ) → Ends k (delim_of k ∷ rest)
  text_over : k ≡ Lines → Ends k []

-- the closing quote, where there is one
abbrev pub closer : List ℕ → List ℕ
closer [] = []
closer (c ∷ rest) = c ∷ []

-- no error
abbrev pub Well : Outcome → Type 0
Well (Token k d) = Unit {0}
Well Str = Unit {0}
Well HereStr = Unit {0}
Well Word = Unit {0}
Well Run = Unit {0}
Well Lined = Unit {0}
Well Keyword = Unit {0}
Well Character = Unit {0}
Well (Error n d) = ⊥
Well (ErrorAt n d a b) = ⊥

-- An item that was read from its opening quote on, with cs behind that: its elements are all that stands between the quotes, nothing
-- else is in it, and decoding its bytes gives what they stand for.
pub record Decoded (k : Quotes) (cs : List ℕ) (r : Read) : Type 0 where
  pub parts : List Part
  pub after : List ℕ
  pub elements : Elements k after parts
  pub ends : Ends k after
  pub text : written parts ++ after ≡ cs
  pub raw : r.item.bytes ≡ bytes_of (delim_of k ∷ written parts ++ closer after)
  pub rest : r.rest ≡ drop 1 after
  pub decoded : unescape k (drop 1 r.item.bytes) ≡ value parts
