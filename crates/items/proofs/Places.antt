-- In report mode no earlier item has a say in the places of the items that follow.
use Prim.Native.Nat.{ℕ, zero, suc, ◌+◌}
use mathlib.Core.Path.{◌≡◌, refl, ap, ◌∙◌}
use mathlib.Core.Bool.{true}
use mathlib.Core.List.{List, [], ◌∷◌, ◌++◌}
use Rattle.laws.proofs.Choice.{by_bool}
use Rattle.chars.specs.Encode.{width}
use Rattle.chars.specs.Blank.{is_blank}
use Rattle.items.specs.declared.Outcome.{Outcome}
use Rattle.items.specs.Items.{Place, range_after, Item, extent_items, items_from}
use Rattle.items.specs.Readers.{SoFar, Read, read_item}

-- what ranges were set before makes no difference to an extent's items
pub extent_forgets : (l m : Place) (s : ℕ) (o : Outcome) (i : SoFar) → extent_items true l s o i ≡ extent_items true m s o i
unfolding extent_items
extent_forgets l m s o i = refl

-- nor to all that follow: reading on gives the places that reading afresh gives
pub places_forget : (turns : ℕ) (l m : Place) (at : ℕ) (cs : List ℕ) → items_from true turns l at cs ≡ items_from true turns m at cs
unfolding items_from
places_forget zero l m at cs = refl
places_forget (suc turns) l m at [] = refl
places_forget (suc turns) l m at (c ∷ cs) = by_bool (is_blank c)
    (λ b. rw (b, items_from) (places_forget turns l m (at + width c) cs))
    (λ b. let r : Read = read_item true at c cs in
    rw (b, items_from)
    (ap (λ (x : List Item). x ++ items_from true turns (range_after true l at r.what r.item) r.item.at r.rest)
    (extent_forgets l m at r.what r.item)
    ∙ ap (λ (x : List Item). extent_items true m at r.what r.item ++ x)
    (places_forget turns (range_after true l at r.what r.item) (range_after true m at r.what r.item) r.item.at r.rest)))
