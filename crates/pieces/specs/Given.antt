-- An item as a piece call gives it. Document 01: "Text is always copied here (text source 2, starting at 0), a number's whole extent
-- included".
use Rattle.std.specs.Prelude.{ℕ, ◌-◌, List, [], ◌∷◌, ◌++◌, length, take, drop, eqb, if◌then◌else◌}
use Rattle.items.specs.Kinds as kind
use Rattle.items.specs.Meaning.{Text, none, source, decoded}
use Rattle.items.specs.Items.{Item, depth_after}

pub record Given : Type 0 where
  pub words : List ℕ
  pub text : List ℕ

-- an item's text, of the extent's bytes `raw`
abbrev pub copied : ℕ → ℕ → List ℕ → Text → List ℕ
copied k s raw none = if eqb k kind.Number then raw else []
copied k s raw (source a b) = take (b - a) (drop (a - s) raw)
copied k s raw (decoded bs) = bs

-- where the text lies
abbrev pub copied_words : ℕ → Text → ℕ → List ℕ
copied_words k none n = if eqb k kind.Number then 2 ∷ 0 ∷ n ∷ [] else 0 ∷ 0 ∷ 0 ∷ []
copied_words k (source a b) n = 2 ∷ 0 ∷ n ∷ []
copied_words k (decoded bs) n = 2 ∷ 0 ∷ n ∷ []

-- an item of an extent whose bytes are raw, with so many brackets open before it
abbrev pub given : ℕ → List ℕ → Item → Given
given depth raw i =
    record {
      words =
          i.kind ∷ i.detail ∷ i.start ∷ i.end ∷ i.place.from ∷ i.place.to
          ∷ copied_words i.kind i.text (length (copied i.kind i.start raw i.text)) ++ (depth ∷ []);
      text = copied i.kind i.start raw i.text;
    }

-- the items of a text, given one by one; `bytes` are the bytes of the text, and `depth` is the depth before the first item
unfoldable pub given_all : List ℕ → ℕ → List Item → List Given
given_all bytes depth [] = []
given_all bytes depth (i ∷ is) = given depth (take (i.end - i.start) (drop i.start bytes)) i ∷ given_all bytes (depth_after i.kind depth) is
