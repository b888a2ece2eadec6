-- The meaning of an extent as the code hands it on: what crate `items` says, with a decoded text by its length, since its bytes are
-- written later.
use Rattle.std.specs.Prelude.{ℕ, ◌+◌, List, [], ◌∷◌, length}
use Rattle.items.specs.Kinds as kind
use Rattle.items.specs.Meaning as items
use Rattle.items.specs.declared.Outcome.{Outcome}
use Rattle.items.specs.declared.Outcome.TheVariants.{Token, Str, HereStr, Word, Run, Lined, Keyword, Character, Error, ErrorAt}
use Rattle.meaning.specs.declared.Text.{Text}
use Rattle.meaning.specs.declared.Text.TheVariants.{Nowhere, Source, Decoded}
use Rattle.meaning.specs.declared.Means.{Means}
use Rattle.meaning.specs.declared.Meant.{Meant}
use Rattle.meaning.specs.declared.Meant.TheVariants.{One, Two}

abbrev pub sized_text : items.Text → Text
sized_text items.none = Nowhere
sized_text (items.source a b) = Source a b
sized_text (items.decoded bs) = Decoded (length bs)

abbrev pub means : ℕ → ℕ → Text → Means
means k d t = record { kind = k; detail = d; text = t }

abbrev pub sized : items.Meaning → Means
sized m = means m.kind m.detail (sized_text m.text)

abbrev pub sized_all : List items.Meaning → List Means
sized_all [] = []
sized_all (m ∷ ms) = sized m ∷ sized_all ms

abbrev pub only : ℕ → ℕ → Text → Meant
only k d t = One (means k d t)

-- the two identifiers of a word that begins with a plus
abbrev pub pair : ℕ → ℕ → Meant
pair s e = Two (means kind.Identifier 0 (Source s (s + 1))) (means kind.Identifier 0 (Source (s + 1) e))

-- the items that the code hands on
abbrev pub meant : Meant → List Means
meant (One m) = m ∷ []
meant (Two m n) = m ∷ n ∷ []

-- the number of an outcome that is an error, else 0
abbrev pub error_of : Outcome → ℕ
error_of (Token k d) = 0
error_of Str = 0
error_of HereStr = 0
error_of Word = 0
error_of Run = 0
error_of Lined = 0
error_of Keyword = 0
error_of Character = 0
error_of (Error n d) = n
error_of (ErrorAt n d a b) = n

abbrev pub last_error : ℕ
last_error = kind.last_error
