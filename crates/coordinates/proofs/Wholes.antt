-- The value calls, a law for each return.
use Rattle.std.proofs.Common.{◌≡◌, ℕ, ◌-◌, ◌<◌, ◌≤◌, true, List, length, take, drop, le-ltb, lt-ltb, eq-eqb, ne_eqb, le-leb}
use borrow.Author.Tests.{lt-leb}
use Rattle.laws.proofs.Choice.{by_bool}
use Rattle.refusal.specs.Refusals.{over_long, out_of_bounds, limit}
use Rattle.items.specs.Kinds as kind
use Rattle.coordinates.specs.Answers.{Answer, refused}
use Rattle.coordinates.specs.Coordinate.{record_coordinate}
use Rattle.coordinates.specs.Inner.{wanted}
use Rattle.coordinates.specs.Values.{is_whole, value, record_value}
use Rattle.coordinates.proofs.Calls.{call_told}

module _ (s : List ℕ) where
  pub value_long : limit < length s → refused over_long limit ≡ value s
  unfolding value
  value_long h = simp (lt-ltb _ _ h)

  pub value_told : length s ≤ limit → wanted true s ≡ value s
  unfolding value wanted
  value_told h = by_bool (is_whole s) (λ w. simp (le-ltb _ _ h, w)) (λ w. simp (le-ltb _ _ h, w) (rw (call_told s h)))

module _ (s : List ℕ) (k from to : ℕ) where
  pub value_back : to < from → refused out_of_bounds 0 ≡ record_value s k from to
  unfolding record_value
  value_back h = simp (lt-leb _ _ h)

  module _ (h : from ≤ to) where
    pub value_past : length s < to → refused out_of_bounds 0 ≡ record_value s k from to
    unfolding record_value
    value_past l = simp (le-leb _ _ h, lt-leb _ _ l)

    module _ (l : to ≤ length s) where
      pub value_number : k ≡ kind.Number → (r : Answer) → r ≡ value (take (to - from) (drop from s)) → r ≡ record_value s k from to
      unfolding record_value
      value_number n r e = simp (le-leb _ _ h, le-leb _ _ l, eq-eqb _ _ n) e

      pub value_other : (k ≡ kind.Number → ⊥) → (r : Answer) → r ≡ record_coordinate s k from to → r ≡ record_value s k from to
      unfolding record_value
      value_other n r e = simp (le-leb _ _ h, le-leb _ _ l, ne_eqb _ _ n) e
