-- The records of items in order are such a chain, whatever their texts' words are.
use Prim.Native.Nat.{ℕ, ◌+◌, ◌*◌, ◌^◌, ◌≤◌, ◌<◌}
use mathlib.Core.Path.{◌≡◌, refl, sym, ap, subst, ◌∙◌}
use mathlib.Core.Bool.{Bool, ◌&&◌}
use mathlib.Core.List.{List, [], ◌∷◌, ◌++◌}
use mathlib.Core.Logic.{⊎_elim}
use lib.ListN.{length}
use lib.Dec.{eqb, ltb}
use native.Mathlib.Omega.{arith}
use Rattle.laws.proofs.Choice.{if_all}
use Rattle.chars.proofs.Good.{Scalars}
use Rattle.chars.proofs.Scalar.{scalar_true}
use Rattle.items.specs.Items.{Item, items, kept, ends_before, depth_after, most_open, byte_count}
use Rattle.items.specs.Kinds as kind
use Rattle.items.proofs.Depth.{depth_within}
use Rattle.items.proofs.Every.{Every, every_then}
use Rattle.items.proofs.Fit.{Fits}
use Rattle.items.proofs.Order.{Follows, InOrder, Placed, items_placed, items_order, items_details}
use Rattle.items.proofs.Skipped.{kept_every}
use Rattle.items_numbers.proofs.Calls.{before_every}
use Rattle.items_files.proofs.Trips as trips
use Rattle.items_files_theorems.proofs.Chain.{Row, Chain}

-- an item of a text of n bytes, its detail within 32 bits
pub record Sound (n : ℕ) (i : Item) : Type 0 where
  pub placed : Placed n i
  pub detail : Fits i.detail

-- the three words of a text: its source and its range
pub data Three (n : ℕ) : List ℕ → Type 0 where
  three : (c x y : ℕ) → c ≤ 2 → x ≤ y → y ≤ n → Three n (c ∷ x ∷ y ∷ [])

-- an item's record with these words and its depth
abbrev pub with : ℕ → Item → List ℕ → List ℕ
with depth i t = i.kind ∷ i.detail ∷ i.start ∷ i.end ∷ i.place.from ∷ i.place.to ∷ (t ++ (depth ∷ []))

-- the records of some items; `text` are the words of an item's text
abbrev pub each : (Item → List ℕ) → ℕ → List Item → List (List ℕ)
each text depth [] = []
each text depth (i ∷ is) = with depth i (text i) ∷ each text (depth_after i.kind depth) is

-- items in order start in order
pub starts_on : (n : ℕ) (i : Item) (is : List Item) → Placed n i → Every (Follows i) is → Every (λ (k : Item). i.start ≤ k.start) is
starts_on n i is p h =
    every_then (Follows i) (λ (k : Item). i.start ≤ k.start) (λ k f. ⊎_elim (λ x. omega (arith, x, p.some)) (λ x. omega (arith, x.0)) f) is h

module _ (n : ℕ) (long : n < 2 ^ 32) where
  item_row : (p depth : ℕ) (i : Item) (t : List ℕ) → p ≤ i.start → Sound n i → Three n t → depth ≤ most_open → Row p i.start (with depth i t)
  item_row p depth i t h s (three c x y small range inside) d =
      let at : Placed n i = s.placed in
      let kinds = at.kind in
      let some = at.some in
      let ends = at.ends in
      let from = at.place.0 in
      let to = at.place.1 in
      let detail = s.detail in
      record {
        record_of =
            record {
              nine =
                  record {
                    kind = i.kind;
                    detail = i.detail;
                    start = i.start;
                    end = i.end;
                    from = i.place.from;
                    to = i.place.to;
                    source = c;
                    first = x;
                    past = y;
                  };
              depth = depth;
            };
        is = refl;
        starts = refl;
        onward = record { start = h; extent = omega (arith, some); place = from; text = range };
        fits =
            trips.some {w = i.kind} (omega (arith, kinds))
            (trips.some {w = i.detail} (omega (arith, detail))
            (trips.some {w = i.start} (omega (arith, some, ends))
            (trips.some {w = i.end} (omega (arith, ends))
            (trips.some {w = i.place.from} (omega (arith, from, to))
            (trips.some {w = i.place.to} (omega (arith, to))
            (trips.some {w = c} (omega (arith, small))
            (trips.some {w = x} (omega (arith, range, inside))
            (trips.some {w = y} (omega (arith, inside))
            (trips.some {w = depth} (omega (arith, d))
            trips.none)))))))));
      }

  pub items_chain : (text : Item → List ℕ) → ((i : Item) → Sound n i → Three n (text i)) → (p depth : ℕ) (is : List Item) → Every (λ (i : Item). p ≤ i.start) is
      → Every (Sound n) is → InOrder is → depth ≤ most_open → Chain p (each text depth is)
  items_chain text t p depth [] h s o d = tt
  items_chain text t p depth (i ∷ is) h s o d = (
    i.start,
    (
      item_row p depth i (text i) h.0 s.0 (t i s.0) d,
      items_chain text t i.start (depth_after i.kind depth) is (starts_on n i is s.0.placed o.0) s.1 o.1 (depth_within i.kind depth d),
    ),
  )

-- ---- the items of some characters, comments kept or skipped, all or those that end before a place

pub kept_order : (skip : Bool) (is : List Item) → InOrder is → InOrder (kept skip is)
unfolding kept
kept_order skip [] o = tt
kept_order skip (i ∷ is) o =
    let more : InOrder (kept skip is) = kept_order skip is o.1 in
    let both : InOrder (i ∷ kept skip is) = (kept_every (Follows i) skip is o.0, more) in
    if_all InOrder (skip && eqb i.kind kind.Comment) more both

pub before_order : (n : ℕ) (is : List Item) → InOrder is → InOrder (ends_before n is)
unfolding ends_before
before_order n [] o = tt
before_order n (i ∷ is) o =
    let more : InOrder (ends_before n is) = before_order n is o.1 in
    let both : InOrder (i ∷ ends_before n is) = (before_every (Follows i) n is o.0, more) in
    if_all InOrder (ltb i.end n) both more

pub any_start : (is : List Item) → Every (λ (i : Item). 0 ≤ i.start) is
any_start [] = tt
any_start (i ∷ is) = (omega arith, any_start is)

pub scalars_fit : (cs : List ℕ) → Scalars cs → Every Fits cs
scalars_fit [] h = tt
scalars_fit (c ∷ cs) h = (⊎_elim (λ x. omega (arith, x)) (λ x. omega (arith, x.1)) (scalar_true c h.0), scalars_fit cs h.1)

all_sound : (n : ℕ) (is : List Item) → Every (Placed n) is → Every (λ (i : Item). Fits i.detail) is → Every (Sound n) is
all_sound n [] p d = tt
all_sound n (i ∷ is) p d = (record { placed = p.0; detail = d.0 }, all_sound n is p.1 d.1)

pub items_sound : (report : Bool) (cs : List ℕ) → Scalars cs → Every (Sound (byte_count cs)) (items report cs)
items_sound report cs h = all_sound (byte_count cs) (items report cs) (items_placed report cs) (items_details report cs (scalars_fit cs h))
