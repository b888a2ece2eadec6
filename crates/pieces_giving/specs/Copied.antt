-- An item as it is given, by what the code knows of it: its text by its kind and its places, or between which quotes it is decoded.
-- proofs/Shown shows that this is what specs/Given of the crate pieces says of the item.
use Rattle.std.specs.Prelude.{ℕ, ◌-◌, Bool, true, ◌&&◌, List, [], ◌∷◌, ◌++◌, length, take, drop, eqb, if◌then◌else◌, Option}
use Rattle.items.specs.Kinds as kind
use Rattle.items.specs.declared.Quotes.{Quotes}
use Rattle.items.specs.declared.Quotes.TheVariants.{Double, Lines}
use Rattle.items.specs.Meaning.{unescape}
use Rattle.items.specs.Items.{Place, range, place_of}
use Rattle.meaning.specs.declared.Text.{Text}
use Rattle.meaning.specs.declared.Text.TheVariants.{Nowhere, Source, Decoded}
use Rattle.meaning.specs.declared.Means.{Means}
use Rattle.pieces.specs.declared.Stage.TheVariants.{Waiting}
use Rattle.pieces.specs.declared.State.{State}
use Rattle.pieces.specs.Given.{Given}
use Rattle.pieces.specs.Calls.{item, Turn, on, off, beyond, becomes, deeper, report, item_so_far}

-- a string's text stood between double quotes, an identifier's between vertical lines
abbrev pub quotes_of : ℕ → Quotes
quotes_of k = if eqb k kind.StringLiteral then Double else Lines

abbrev pub copied_by : ℕ → ℕ → List ℕ → Text → List ℕ
copied_by k s raw Nowhere = if eqb k kind.Number then raw else []
copied_by k s raw (Source a b) = take (b - a) (drop (a - s) raw)
copied_by k s raw (Decoded n) = unescape (quotes_of k) (drop 1 raw)

abbrev pub has_text : ℕ → Text → Bool
has_text k Nowhere = eqb k kind.Number
has_text k (Source a b) = true
has_text k (Decoded n) = true

abbrev pub given_by : ℕ → Bool → Means → Place → ℕ → ℕ → List ℕ → Given
given_by depth report m last s e raw =
    let place : Place = place_of report m.kind last (range s e) in
    let text : List ℕ = copied_by m.kind s raw m.text in
    record {
      words =
          m.kind ∷ m.detail ∷ s ∷ e ∷ place.from ∷ place.to
          ∷ (if has_text m.kind m.text then 2 ∷ 0 ∷ length text ∷ [] else 0 ∷ 0 ∷ 0 ∷ []) ++ (depth ∷ []);
      text = text;
    }

-- ---- the items of an extent that starts at st, by the first of them; `set` is the range for its place, `last` the one that stands on

abbrev pub one_given : State → ℕ → Place → Place → Option ℕ → Means → Turn
one_given s st set last b m =
    if s.marks.skip && eqb m.kind kind.Comment
    then on (beyond s last b)
    else off (beyond (deeper m.kind s) last b) (item (given_by s.marks.depth (report s) m set st s.marks.at (item_so_far s).bytes))

abbrev pub pair_given : State → ℕ → Place → Place → Option ℕ → Means → Turn
pair_given s st set last b m =
    off (becomes s s.buf (Waiting st b) s.marks.at s.marks.len last) (item (given_by s.marks.depth (report s) m set st s.marks.at (item_so_far s).bytes))
