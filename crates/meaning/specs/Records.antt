-- An item by itself, in nine words, as the code builds it.
use Rattle.std.specs.Prelude.{ℕ, ◌+◌, ◌<◌, ◌^◌, List, [], ◌∷◌, get_or}
use Rattle.items.specs.Items.{Item, nine_of}
use Rattle.items.specs.declared.Nine.{Nine}
use Rattle.meaning.specs.declared.Text.{Text}
use Rattle.meaning.specs.declared.Text.TheVariants.{Nowhere, Source, Decoded}
use Rattle.meaning.specs.declared.Means.{Means}
use Rattle.meaning.specs.declared.Range.{Range}

-- the item that has these nine words
abbrev pub nine_with : List ℕ → Nine
nine_with w = record {
  kind = get_or w 0 0;
  detail = get_or w 1 0;
  start = get_or w 2 0;
  «end» = get_or w 3 0;
  from = get_or w 4 0;
  to = get_or w 5 0;
  source = get_or w 6 0;
  first = get_or w 7 0;
  past = get_or w 8 0;
}

-- the words of an item; `free` is the first free byte of the text memory
abbrev pub packed : ℕ → Item → Nine
packed free i = nine_with (nine_of free i)

-- the last three words, of a text by its length
abbrev pub text_places : ℕ → Text → List ℕ
text_places free Nowhere = 0 ∷ 0 ∷ 0 ∷ []
text_places free (Source a b) = 1 ∷ a ∷ b ∷ []
text_places free (Decoded n) = 2 ∷ free ∷ (free + n) ∷ []

-- the same by its meaning, its extent and its place
abbrev pub nine_for : ℕ → Means → Range → Range → Nine
nine_for free m extent place =
    nine_with (m.kind ∷ m.detail ∷ extent.from ∷ extent.to ∷ place.from ∷ place.to ∷ text_places free m.text)

-- the text's places fit a word
abbrev pub TextFits : ℕ → Text → Type 0
TextFits free Nowhere = Unit
TextFits free (Source a b) = (a < 2 ^ 32) × (b < 2 ^ 32)
TextFits free (Decoded n) = free + n < 2 ^ 32
