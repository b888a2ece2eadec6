-- Laws of the items of any text, in both modes: items come in the order of their extents, no item is empty or reaches past the text,
-- places and texts lie in the text, items never outnumber bytes, nor do the bytes of the text memory. One induction over the turns of
-- `items_from`, with what is known of one extent.
use Rattle.std.proofs.Common.{Err, Ok, Result}
use Rattle.items.specs.declared.Outcome.{Outcome}
use Rattle.items.specs.declared.Outcome.TheVariants.{Token, Str, HereStr, Word, Run, Lined, Keyword, Character, Error, ErrorAt}
use Rattle.items.specs.declared.CharError.{CharError}
use Rattle.items.specs.declared.CharError.TheVariants.{Wrong, WrongAt}
use Rattle.items.specs.Items.{unset, range, character_sets, range_after, standing, is_set, place_of, item_of, items_of, extent_items, items_from, items_at}
use Rattle.items.specs.Items.{past_line, after_pound, items, memory_of, texts, byte_count, Place, Item}
use Rattle.items.specs.Meaning.{character_of, char_inside, meaning_of, Meaning}
use Rattle.items.specs.Readers.{read_item, SoFar, Read}
use Rattle.items.proofs.Every.{Every, every_any, every_then}
use Rattle.items.proofs.Failing.{past_within, Named, character_inside}
use Rattle.items.proofs.Fine.{Ranged, Fine}
use Rattle.items.proofs.Meanings.{last_kind, Inside, Meant, held, made, Made}
use Rattle.items.proofs.Outcomes.{read_fine}
use Rattle.items.proofs.Splits.{read_every, read_at, read_forward, read_end}
use Rattle.chars.proofs.Width.{wide}
use Rattle.laws.specs.Quoted.{code}
use Rattle.laws.proofs.Choice.{by_bool, if_all}
use Rattle.chars.specs.Blank.{is_blank}
use Rattle.chars.specs.Encode.{width}
use Prim.Native.Nat.{ℕ, zero, suc, ◌+◌, ◌^◌, ◌≤◌, ◌<◌}
use mathlib.Core.Path.{◌≡◌, refl, ap, ◌∙◌}
use mathlib.Core.Bool.{Bool, true, false, ◌&&◌}
use mathlib.Core.List.{List, [], ◌∷◌, ◌++◌}
use mathlib.Core.Logic.{◌⊎◌, inl, inr}
use lib.ListN.{length, drop, length-append, length-drop}
use lib.Dec.{eqb, leb}
use native.Mathlib.Omega.{arith}
use native.Mathlib.Nat.{le_refl, le_trans}
use Rattle.items.specs.Kinds as kind

-- j follows i: its extent starts at the end of i's or later, or both are the two items of one extent
abbrev pub Follows : Item → Item → Type 0
Follows i j = (i.end ≤ j.start) ⊎ ((i.start ≡ j.start) × (i.end ≡ j.end))

-- every item is followed by all that come after it
abbrev pub InOrder : List Item → Type 0
InOrder [] = Unit {0}
InOrder (i ∷ is) = Every (Follows i) is × InOrder is

-- an item in a text of n bytes
pub record Placed (n : ℕ) (i : Item) : Type 0 where
  -- it is not empty, and ends in the text
  pub some : i.start < i.end
  pub ends : i.end ≤ n
  -- its place is a range in the text
  pub place : Ranged n i.place.from i.place.to
  -- its text lies where it does
  pub text : Inside i.start i.end i.text
  -- its kind is not past 01's last
  pub kind : i.kind ≤ last_kind

-- the items from the place `at` on in a text of n bytes; D is what is known of a detail
pub record Sorted (D : ℕ → Type 0) (n at : ℕ) (is : List Item) : Type 0 where
  pub placed : Every (Placed n) is
  pub details : Every (λ (i : Item). D i.detail) is
  pub onward : Every (λ (i : Item). at ≤ i.start) is
  pub order : InOrder is

pub record Laws (D : ℕ → Type 0) (n at : ℕ) (is : List Item) : Type 0 where
  pub sorted : Sorted D n at is
  pub count : at + length is ≤ n
  pub memory : at + length (texts is) ≤ n

pub texts_append : (xs ys : List Item) → length (texts (xs ++ ys)) ≡ length (texts xs) + length (texts ys)
unfolding texts
texts_append [] ys = omega arith
texts_append (i ∷ is) ys =
    omega (arith, texts_append is ys, length-append (memory_of i.text) (texts (is ++ ys)), length-append (memory_of i.text) (texts is))

module _ (D : ℕ → Type 0) (n : ℕ) where
  no_items : (at : ℕ) → at ≤ n → Laws D n at []
  unfolding texts
  no_items at h = record { sorted = record { placed = tt; details = tt; onward = tt; order = tt }; count = omega arith; memory = omega arith }

  -- what holds from a place on holds from an earlier one on
  sooner : (a b : ℕ) (is : List Item) → a ≤ b → Sorted D n b is → Sorted D n a is
  sooner a b is h l = record {
    placed = l.placed;
    details = l.details;
    onward = every_then (λ (i : Item). b ≤ i.start) (λ (i : Item). a ≤ i.start) (λ i g. le_trans h g) is l.onward;
    order = l.order;
  }

  earlier : (a b : ℕ) (is : List Item) → a ≤ b → Laws D n b is → Laws D n a is
  earlier a b is h l = record { sorted = sooner a b is h l.sorted; count = omega arith; memory = omega arith }

-- ---- the items of one extent, from s to e, and the items ys after them

module _ (report : Bool) (s e : ℕ) (last : Place) where
  pub items_length : (ms : List Meaning) → length (items_of report last s e ms) ≡ length ms
  items_length [] = refl
  items_length (m ∷ ms) = ap suc (items_length ms)

  items_held : (ms : List Meaning) → length (texts (items_of report last s e ms)) ≡ held ms
  unfolding texts
  items_held [] = refl
  items_held (m ∷ ms) =
      length-append (memory_of m.text) (texts (items_of report last s e ms)) ∙ ap (λ (k : ℕ). length (memory_of m.text) + k) (items_held ms)

  follow_all : (m : Meaning) (ms : List Meaning) (ys : List Item) → Every (λ (j : Item). e ≤ j.start) ys
      → Every (Follows (item_of report last s e m)) (items_of report last s e ms ++ ys)
  follow_all m [] ys h = every_then (λ (j : Item). e ≤ j.start) (Follows (item_of report last s e m)) (λ j g. inl g) ys h
  follow_all m (x ∷ ms) ys h = (inr (refl, refl), follow_all m ms ys h)

  module _ (D : ℕ → Type 0) (n : ℕ) (some : s < e) (ends : e ≤ n) (ranged : Ranged n last.from last.to) where
    place_ranged : (k : ℕ) → Ranged n (place_of report k last (range s e)).from (place_of report k last (range s e)).to
    place_ranged k =
        if_all (λ (p : Place). Ranged n p.from p.to) (leb kind.first_error k && is_set report last) ranged (omega arith, ends)

    extent_sorted : (ms : List Meaning) (ys : List Item) → Every (Meant D s e) ms → Sorted D n e ys → Sorted D n s (items_of report last s e ms ++ ys)
    extent_sorted [] ys h l = sooner D n s e ys (omega arith) l
    extent_sorted (m ∷ ms) ys h l =
        let r : Sorted D n s (items_of report last s e ms ++ ys) = extent_sorted ms ys h.1 l in
        let i : Placed n (item_of report last s e m) = record { some = some; ends = ends; place = place_ranged m.kind; text = h.0.1.1; kind = h.0.0 } in
        record { placed = (i, r.placed); details = (h.0.1.0, r.details); onward = (le_refl s, r.onward); order = (follow_all m ms ys l.onward, r.order) }

    extent_laws : (ms : List Meaning) (ys : List Item) → Made D s e ms → Laws D n e ys → Laws D n s (items_of report last s e ms ++ ys)
    extent_laws ms ys h l = record {
      sorted = extent_sorted ms ys h.meant l.sorted;
      count = omega (arith, length-append (items_of report last s e ms) ys, items_length ms);
      memory = omega (arith, texts_append (items_of report last s e ms) ys, items_held ms);
    }

-- ---- all items

standing_ranged : (n : ℕ) (report : Bool) (last : Place) → Ranged n last.from last.to
    → Ranged n (standing report last).from (standing report last).to
standing_ranged n true last h = (omega arith, omega arith)
standing_ranged n false last h = h

module _ (D : ℕ → Type 0) (small : (d : ℕ) → d < 2 ^ 32 → D d) (report : Bool) where
  -- the last range lies in the text
  range_ranged : (n : ℕ) (last : Place) (s : ℕ) (o : Outcome) (i : SoFar) → Fine D n i.bytes o → Ranged n last.from last.to
      → Ranged n s i.at
      → i.at ≡ s + length i.bytes
      → Ranged n (range_after report last s o i).from (range_after report last s o i).to
  range_ranged n last s (Token k d) i f h g l = h
  range_ranged n last s Str i f h g l = h
  range_ranged n last s HereStr i f h g l = h
  range_ranged n last s Word i f h g l = h
  range_ranged n last s Run i f h g l = h
  range_ranged n last s Lined i f h g l = h
  range_ranged n last s Keyword i f h g l = h
  range_ranged n last s Character i f h g l =
      sets (char_inside i.bytes) refl (character_of report (char_inside i.bytes)) (character_inside report (char_inside i.bytes))
    where
      sets : (t : List ℕ) → t ≡ char_inside i.bytes → (v : Result ℕ CharError) → Named (length t) v
          → Ranged n (character_sets report v last s i).from (character_sets report v last s i).to
      sets t q (Ok c) w = h
      sets t q (Err (Wrong e d)) w = g
      sets t q (Err (WrongAt e d p)) w =
          let past = past_within d (s + 2 + p) (drop p (char_inside i.bytes)) in
          if_all (λ (x : Place). Ranged n x.from x.to) report
          (past.0, omega (arith, past.1, ap length q, length-drop p (char_inside i.bytes), length-drop 2 i.bytes)) g
  range_ranged n last s (Error k d) i f h g l = h
  range_ranged n last s (ErrorAt k d a b) i f h g l = f.1

  -- the item that is read at a place, and the items ys after it
  module _ (n : ℕ) (last : Place) (at c : ℕ) (cs : List ℕ) (ranged : Ranged n last.from last.to) (room : at + byte_count (c ∷ cs) ≤ n)
      (ds : Every D (c ∷ cs)) where
    abbrev pub it : Read
    it = read_item report at c cs

    -- the range after it, with one that was set before it or none
    ranged_with : (l : Place) → Ranged n l.from l.to
        → Ranged n (range_after report l at it.what it.item).from (range_after report l at it.what it.item).to
    ranged_with l h =
        range_ranged n l at it.what it.item (read_fine D small n report at c cs room ds) h
        (omega (arith, read_forward report at c cs), omega (arith, read_end report at c cs)) (read_at report at c cs)

    abbrev pub after : Place
    after = range_after report last at it.what it.item

    pub after_ranged : Ranged n after.from after.to
    after_ranged = ranged_with last ranged

    shown_ranged : Ranged n (standing report last).from (standing report last).to
    shown_ranged = standing_ranged n report last ranged

    pub item_laws : (ys : List Item) → Laws D n it.item.at ys → Laws D n at (extent_items report last at it.what it.item ++ ys)
    unfolding extent_items
    item_laws ys l =
        let e : it.item.at ≡ at + length it.item.bytes = read_at report at c cs in
        let long : at < it.item.at = read_forward report at c cs in
        extent_laws report at it.item.at (range_after report (standing report last) at it.what it.item) D n long
        (omega (arith, read_end report at c cs)) (ranged_with (standing report last) shown_ranged)
        (meaning_of report it.what at it.item.at it.item.bytes) ys
        (made D small at it.item.at it.item.bytes e (omega arith) report n it.what (read_fine D small n report at c cs room ds))
        l

  pub from_laws : (n turns : ℕ) (last : Place) (at : ℕ) (cs : List ℕ) → Ranged n last.from last.to → at + byte_count cs ≤ n → Every D cs
      → Laws D n at (items_from report turns last at cs)
  unfolding items_from
  from_laws n zero last at cs h room ds = no_items D n at (omega arith)
  from_laws n (suc turns) last at [] h room ds = no_items D n at (omega arith)
  from_laws n (suc turns) last at (c ∷ cs) h room ds = by_bool (is_blank c)
      (λ b. rw (b, items_from) (earlier D n at (at + width c) _ (omega arith) (from_laws n turns last (at + width c) cs h (omega arith) ds.1)))
      (λ b. rw (b, items_from) (item_laws n last at c cs h room ds _ (from_laws n turns _ _ (read_item report at c cs).rest
      (after_ranged n last at c cs h room ds) (omega (arith, read_end report at c cs)) (read_every report D at c cs ds.1))))

  at_laws : (n at : ℕ) (cs : List ℕ) → at + byte_count cs ≤ n → Every D cs → Laws D n at (items_at report at cs)
  at_laws n at cs room ds = from_laws n (length cs) unset at cs (omega arith, omega arith) room ds

  line_laws : (n at : ℕ) (cs : List ℕ) → at + byte_count cs ≤ n → Every D cs → Laws D n at (past_line report at cs)
  unfolding past_line
  line_laws n at [] room ds = no_items D n at (omega arith)
  line_laws n at (c ∷ cs) room ds = by_bool (eqb c (code "\n"))
      (λ e. rw (e, past_line) (at_laws n at (c ∷ cs) room ds))
      (λ e. rw (e, past_line) (earlier D n at (at + width c) _ (omega arith) (line_laws n (at + width c) cs (omega arith) ds.1)))

  pound_laws : (n : ℕ) (cs : List ℕ) → 1 + byte_count cs ≤ n → Every D cs → Laws D n 0 (after_pound report cs)
  unfolding after_pound width
  pound_laws n [] room ds = at_laws n 0 (code "#" ∷ []) (omega arith) (small (code "#") (omega arith), tt)
  pound_laws n (c ∷ cs) room ds = by_bool (eqb c (code "!"))
      (λ e. rw (e, after_pound) (earlier D n 0 2 _ (omega arith) (line_laws n 2 cs (omega (arith, wide c)) ds.1)))
      (λ e. rw (e, after_pound) (at_laws n 0 (code "#" ∷ c ∷ cs) (omega arith) (small (code "#") (omega arith), ds)))

  pub text_laws : (cs : List ℕ) → Every D cs → Laws D (byte_count cs) 0 (items report cs)
  unfolding items
  text_laws [] ds = no_items D 0 0 (omega arith)
  text_laws (c ∷ cs) ds = by_bool (eqb c (code "#"))
      (λ e. rw (e, items) (pound_laws (byte_count (c ∷ cs)) cs (omega (arith, wide c)) ds.1))
      (λ e. rw (e, items) (at_laws (byte_count (c ∷ cs)) 0 (c ∷ cs) (omega arith) ds))

-- ---- the laws

module _ (report : Bool) (cs : List ℕ) where
  any_laws : Laws (λ _. Unit {0}) (byte_count cs) 0 (items report cs)
  any_laws = text_laws (λ _. Unit {0}) (λ d h. tt) report cs (every_any (λ _. Unit {0}) (λ c. tt) cs)

  pub items_placed : Every (Placed (byte_count cs)) (items report cs)
  items_placed = any_laws.sorted.placed

  pub items_order : InOrder (items report cs)
  items_order = any_laws.sorted.order

  pub items_count : length (items report cs) ≤ byte_count cs
  items_count = omega (arith, any_laws.count)

  pub items_memory : length (texts (items report cs)) ≤ byte_count cs
  items_memory = omega (arith, any_laws.memory)

  -- a detail is a small number, or a character of the text
  pub items_details : Every (λ (c : ℕ). c < 2 ^ 32) cs → Every (λ (i : Item). i.detail < 2 ^ 32) (items report cs)
  items_details h = (text_laws (λ (d : ℕ). d < 2 ^ 32) (λ d g. g) report cs h).sorted.details
