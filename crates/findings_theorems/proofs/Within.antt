-- Where an error of report mode points at: from a place of its extent on. So do the errors of the mended reading.
use Prim.Native.Nat.{ℕ, ◌+◌, ◌≤◌, ◌<◌}
use mathlib.Core.Path.{◌≡◌, sym, subst}
use mathlib.Core.Bool.{Bool, true, false, ◌&&◌}
use mathlib.Core.List.{List, [], ◌∷◌}
use lib.ListN.{length, drop, length-drop}
use lib.Dec.{leb}
use native.Mathlib.Omega.{arith}
use Rattle.std.specs.Prelude.{Err, Ok, Result}
use Rattle.laws.proofs.Choice.{by_bool, and_true, no_yes}
use Rattle.chars.specs.Utf8.{chars}
use Rattle.chars.specs.Encode.{width}
use Rattle.chars.specs.Blank.{is_blank}
use Rattle.items.specs.Kinds as kind
use Rattle.items.specs.Points.{PointsAt}
use Rattle.items.specs.declared.Outcome.{Outcome}
use Rattle.items.specs.declared.Outcome.TheVariants.{Token, Str, HereStr, Word, Run, Lined, Keyword, Character, Error, ErrorAt}
use Rattle.items.specs.declared.CharError.{CharError}
use Rattle.items.specs.declared.CharError.TheVariants.{Wrong, WrongAt}
use Rattle.items.specs.Readers.{Read, SoFar, read_item}
use Rattle.items.specs.Meaning.{Meaning, character_of, char_inside, meaning_of}
use Rattle.items.specs.Items.{Place, Item, range, unset, is_set, place_of, character_sets, items_of, extent_items, range_after}
use Rattle.items.proofs.Every.{Every}
use Rattle.items.proofs.Failing.{Named, character_inside}
use Rattle.items.proofs.Own.{Own}
use Rattle.items.proofs.OwnSteps.{read_own}
use Rattle.items.proofs.Splits.{read_at, read_forward}
use Rattle.meaning.specs.Places.{place_in}
use Rattle.lexer.specs.Reading.{moved, pick, turn_at, turn_from, turn}
use Rattle.lexer.specs.declared.Spot.{Spot}
use Rattle.findings_theorems.proofs.Turns.{Given}

-- it points at a place from its start on, and up to its end
abbrev pub Within : Item → Type 0
Within i = (i.start ≤ i.place.from) × (i.place.from ≤ i.end)

-- a range that lies there, if it is set
abbrev Range : ℕ → ℕ → Place → Type 0
Range s e l = is_set true l ≡ true → (s ≤ l.from) × (l.from ≤ e)

unset_range : (s e : ℕ) → Range s e unset
unset_range s e h = no_yes h

points_within : (s e n a b : ℕ) → s < e → PointsAt s e n a b → (s ≤ a) × (a ≤ e)
points_within s e n a b h (PointsAt.extent m f g) = (omega arith, omega arith)
points_within s e n a b h (PointsAt.escape m f g k) = (f, omega arith)
points_within s e n a b h (PointsAt.failing m f g k) = (omega arith, omega arith)
points_within s e n a b h (PointsAt.delimiter m f g k) = (omega arith, omega arith)
points_within s e n a b h (PointsAt.stopped m f g k) = (omega arith, omega arith)
points_within s e n a b h (PointsAt.backslash m f g k l) = (f, omega arith)

character_range : (s : ℕ) (i : SoFar) → s < i.at → i.at ≡ s + length i.bytes → (v : Result ℕ CharError) → Named (length (char_inside i.bytes)) v
    → Range s i.at (character_sets true v unset s i)
character_range s i h l (Ok c) k = unset_range s i.at
character_range s i h l (Err (Wrong e d)) k = λ b. (omega arith, omega arith)
character_range s i h l (Err (WrongAt e d p)) k = λ b. (omega arith, omega (arith, k.0, k.1, length-drop 2 i.bytes))

range_within : (s : ℕ) (o : Outcome) (i : SoFar) → s < i.at → i.at ≡ s + length i.bytes → Own s i.at o → Range s i.at (range_after true unset s o i)
range_within s (Token k d) i h l w = unset_range s i.at
range_within s Str i h l w = unset_range s i.at
range_within s HereStr i h l w = unset_range s i.at
range_within s Word i h l w = unset_range s i.at
range_within s Run i h l w = unset_range s i.at
range_within s Lined i h l w = unset_range s i.at
range_within s Keyword i h l w = unset_range s i.at
range_within s Character i h l w = character_range s i h l (character_of true (char_inside i.bytes)) (character_inside true (char_inside i.bytes))
range_within s (Error n d) i h l w = unset_range s i.at
range_within s (ErrorAt n d a b) i h l w = λ x. points_within s i.at n a b h w.1

place_within : (k s e : ℕ) (l : Place) → s ≤ e → Range s e l → (s ≤ (place_of true k l (range s e)).from) × ((place_of true k l (range s e)).from ≤ e)
place_within k s e l h r = by_bool (leb kind.first_error k && is_set true l)
    (λ b. rw b (r (and_true (leb kind.first_error k) (is_set true l) b).1))
    (λ b. rw b (omega arith, h))

items_within : (l : Place) (s e : ℕ) (ms : List Meaning) → s ≤ e → Range s e l → Every Within (items_of true l s e ms)
items_within l s e [] h r = tt
items_within l s e (m ∷ ms) h r = (place_within m.kind s e l h r, items_within l s e ms h r)

pub extent_within : (last : Place) (at c : ℕ) (cs : List ℕ) → Every Within (extent_items true last at (read_item true at c cs).what (read_item true at c cs).item)
unfolding extent_items
extent_within last at c cs =
    let r : Read = read_item true at c cs in
    let f : at < r.item.at = read_forward true at c cs in
    items_within (range_after true unset at r.what r.item) at r.item.at (meaning_of true r.what at r.item.at r.item.bytes) (omega arith)
    (range_within at r.what r.item f (read_at true at c cs) (read_own at c cs))

-- ---- a turn in report mode

pick_within : (second : Bool) (stay past : Spot) (is : List Item) → Every Within is → Given Within (pick second stay past is)
pick_within second stay past [] h = tt
pick_within second stay past (i ∷ []) h = h.0
pick_within true stay past (i ∷ (j ∷ is)) h = h.1.0
pick_within false stay past (i ∷ (j ∷ is)) h = h.0

at_within : (p : Spot) → p.report ≡ true → (at c : ℕ) (cs : List ℕ) → Given Within (turn_at p at c cs)
at_within p e at c cs =
    let r : Read = read_item p.report at c cs in
    pick_within p.second (moved p at (place_in p.last) true)
    (moved p r.item.at (range_after p.report (place_in p.last) at r.what r.item) false)
    (extent_items p.report (place_in p.last) at r.what r.item)
    (subst (λ (b : Bool). Every Within (extent_items b (place_in p.last) at (read_item b at c cs).what (read_item b at c cs).item)) (sym e)
    (extent_within (place_in p.last) at c cs))

from_within : (p : Spot) → p.report ≡ true → (at : ℕ) (cs : List ℕ) → Given Within (turn_from p at cs)
unfolding turn_from
from_within p e at [] = tt
from_within p e at (c ∷ cs) = by_bool (is_blank c)
    (λ b. rw (b, turn_from) (from_within p e (at + width c) cs))
    (λ b. rw (b, turn_from) (at_within p e at c cs))

pub turn_within : (s : List ℕ) (p : Spot) → p.report ≡ true → Given Within (turn s p)
unfolding turn
turn_within s p e = from_within p e p.at (chars (drop p.at s))
