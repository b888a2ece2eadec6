-- Skipping comments: what is left out does not hang on where a text is cut, and what holds of all items holds of those that are kept.
use Rattle.items.specs.Items.{kept, memory_of, texts, Item}
use Rattle.items.proofs.Every.{Every}
use Rattle.laws.proofs.Choice.{by_bool, if_all}
use Prim.Native.Nat.{suc, ◌+◌, ◌≤◌}
use mathlib.Core.Path.{◌≡◌, refl, ap}
use mathlib.Core.Bool.{Bool, ◌&&◌}
use mathlib.Core.List.{List, [], ◌∷◌, ◌++◌}
use lib.ListN.{length, length-append}
use lib.Dec.{eqb}
use native.Mathlib.Omega.{arith}
use native.Mathlib.Nat.{le_refl}
use Rattle.items.specs.Kinds as kind

pub kept_append : (skip : Bool) (xs ys : List Item) → kept skip (xs ++ ys) ≡ kept skip xs ++ kept skip ys
unfolding kept
kept_append skip [] ys = refl
kept_append skip (i ∷ is) ys = by_bool (skip && eqb i.kind kind.Comment)
    (λ e. rw (e, kept) (kept_append skip is ys))
    (λ e. rw (e, kept) (ap (λ (l : List Item). i ∷ l) (kept_append skip is ys)))

pub kept_every : (P : Item → Type 0) (skip : Bool) (is : List Item) → Every P is → Every P (kept skip is)
unfolding kept
kept_every P skip [] h = tt
kept_every P skip (i ∷ is) h = if_all (Every P) (skip && eqb i.kind kind.Comment) (kept_every P skip is h.1) (h.0, kept_every P skip is h.1)

pub kept_count : (skip : Bool) (is : List Item) → length (kept skip is) ≤ length is
unfolding kept
kept_count skip [] = le_refl 0
kept_count skip (i ∷ is) =
    if_all (λ (l : List Item). length l ≤ suc (length is)) (skip && eqb i.kind kind.Comment) (omega (arith, kept_count skip is)) (omega (arith, kept_count skip is))

pub kept_memory : (skip : Bool) (is : List Item) → length (texts (kept skip is)) ≤ length (texts is)
unfolding kept texts
kept_memory skip [] = le_refl 0
kept_memory skip (i ∷ is) =
    let t : length (texts (i ∷ is)) ≡ length (memory_of i.text) + length (texts is) = length-append (memory_of i.text) (texts is) in
    if_all (λ (l : List Item). length (texts l) ≤ length (texts (i ∷ is))) (skip && eqb i.kind kind.Comment)
    (omega (arith, kept_memory skip is))
    (omega (arith, kept_memory skip is, length-append (memory_of i.text) (texts (kept skip is))))
