-- Over the items of a text, record by record: the depth goes up by one at an open and down by one at a close that closes one, as the two counts do.
use Prim.Native.Nat.{ℕ, zero, suc, ◌+◌, ◌-◌, ◌≤◌, ◌<◌}
use mathlib.Core.Path.{◌≡◌, refl}
use mathlib.Core.Bool.{◌&&◌}
use mathlib.Core.List.{List, [], ◌∷◌, map}
use lib.ListN.{length, get_or, take, length-take}
use lib.Dec.{eqb, ltb}
use native.Mathlib.Omega.{arith}
use borrow.Author.Tests.{eqb-true, ltb-true, ltb-false, lt-ltb}
use Rattle.std.specs.Prelude.{if◌then◌else◌}
use Rattle.laws.proofs.Choice.{by_bool}
use Rattle.items.specs.Kinds as kind
use Rattle.items.specs.Items.{Item, most_open, depth_after, depth_past}
use Rattle.items.proofs.Depth.{past_slow}
use Rattle.items_depths.specs.Depths.{opens, closes, Depths}

-- the depth before item p, and its kind
abbrev pub deep : ℕ → List Item → ℕ → ℕ
deep d is p = depth_past d (take p is)

abbrev pub kind_of : List Item → ℕ → ℕ
kind_of is p = get_or (map (λ (i : Item). i.kind) is) p 0

-- one record more
one_more : (d : ℕ) (is : List Item) (p : ℕ) → p < length is → deep d is (suc p) ≡ depth_after (kind_of is p) (deep d is p)
unfolding depth_past
one_more d [] p h = absurd (omega arith)
one_more d (i ∷ is) zero h = refl
one_more d (i ∷ is) (suc p) h = one_more (depth_after i.kind d) is p (omega arith)

step : (k d c o : ℕ) → d + c ≡ o → d < most_open
    → depth_after k d + (c + (if eqb k kind.CloseParen && ltb c o then 1 else 0)) ≡ o + (if eqb k kind.OpenParen then 1 else 0)
step k d c o e h = by_bool (eqb k kind.OpenParen)
    (λ f. let same : k ≡ kind.OpenParen = eqb-true k kind.OpenParen f in rw (same, lt-ltb d most_open h) (omega arith))
    (λ f. rw f (by_bool (eqb k kind.CloseParen) (λ g. rw g closing) (λ g. rw g (omega arith))))
  where
    closing : d - 1 + (c + (if ltb c o then 1 else 0)) ≡ o + 0
    closing = by_bool (ltb c o) (λ g. rw g (omega (arith, ltb-true c o g))) (λ g. rw g (omega (arith, ltb-false c o g)))

module _ (kind_at : ℕ → ℕ) (is : List Item) (short : length is ≤ most_open) (same : (p : ℕ) → p < length is → kind_at p ≡ kind_of is p) where
  pub counts : (p : ℕ) → p ≤ length is → deep 0 is p + closes kind_at p ≡ opens kind_at p
  unfolding opens closes depth_past
  counts zero h = refl
  counts (suc p) h =
      let e : deep 0 is p + closes kind_at p ≡ opens kind_at p = counts p (omega arith) in
      let low : deep 0 is p < most_open = omega (arith, past_slow 0 (take p is), length-take p is) in
      rw (one_more 0 is p (omega arith), ← same p (omega arith)) (step (kind_at p) (deep 0 is p) (closes kind_at p) (opens kind_at p) e low)

  -- records of some items, whose depths are those of the items
  pub all_depths : (depth_at : ℕ → ℕ) → ((p : ℕ) → p < length is → depth_at p ≡ deep 0 is p) → Depths (length is) kind_at depth_at
  all_depths depth_at e p h = rw (e p h) (counts p (omega arith))
