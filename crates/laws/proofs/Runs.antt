-- How a run goes on at a place of a text: what a loop that walks it needs at each turn.
use mathlib.Core.Path.{◌≡◌}
use mathlib.Core.Bool.{Bool, true, false, not}
use mathlib.Core.List.{List, [], ◌∷◌}
use Prim.Native.Nat.{ℕ, suc, ◌+◌, ◌≤◌, ◌<◌}
use native.Mathlib.Numerals.{add-one}
use native.Mathlib.Omega.{arith}
use lib.ListN.{length, get_or, drop, drop_of_length-le}
use lib.Seq.{drop-cons}
use lib.Dec.{eqb}
use Rattle.laws.specs.Texts.{span, before}
use Rattle.laws.proofs.Choice.{if_all}

module _ (f : ℕ → Bool) (t : List ℕ) (i : ℕ) where
  pub span_hit : i < length t → f (get_or t i 0) ≡ true → i + span f (drop i t) ≡ i + 1 + span f (drop (i + 1) t)
  unfolding span
  span_hit h e = simp (drop-cons t i 0 h, e, add-one) (omega arith)

  pub span_stop : i < length t → f (get_or t i 0) ≡ false → i + span f (drop i t) ≡ i
  unfolding span
  span_stop h e = simp (drop-cons t i 0 h, e) (omega arith)

  pub span_end : length t ≤ i → i + span f (drop i t) ≡ i
  unfolding span
  span_end h = simp (drop_of_length-le t h) (omega arith)

-- a run is a part of the text
pub span_le : (f : ℕ → Bool) (t : List ℕ) → span f t ≤ length t
unfolding span
span_le f [] = omega arith
span_le f (c ∷ t) = if_all (λ (n : ℕ). n ≤ suc (length t)) (f c) (omega (arith, span_le f t)) (omega arith)

pub before_le : (b : ℕ) (t : List ℕ) → before b t ≤ length t
before_le b t = span_le (λ c. not (eqb c b)) t
