-- The two calls, a law for each return.
use Rattle.coordinates.specs.declared.CoordinateError.{CoordinateError}
use Rattle.std.proofs.Common.{◌≡◌, ℕ, ◌-◌, ◌<◌, ◌≤◌, false, List, length, take, drop, sym, refl, ap, ◌∙◌, le-ltb, lt-ltb, eq-eqb, ne_eqb, le-leb, None, Option, Some, Err}
use borrow.Author.Tests.{lt-leb}
use Rattle.refusal.specs.Refusals.{over_long, not_utf8, out_of_bounds, limit}
use Rattle.chars.specs.Utf8.{first_bad}
use Rattle.numbers.specs.declared.Point.{Point}
use Rattle.numbers.specs.Reals.{one_decimal}
use Rattle.items.specs.Kinds as kind
use Rattle.coordinates.specs.Answers.{Answer, refused, CoordinateAnswer}
use Rattle.coordinates.specs.Coordinate.{outside, of_point, of_decimal, judged, coordinate, record_coordinate}
use Rattle.coordinates.specs.Inner.{told, wanted}
use Rattle.coordinates.proofs.Ascii.{decimal_good}

-- 20 and 21 before an answer
module _ (s : List ℕ) (a : Answer) where
  pub judged_long : limit < length s → refused over_long limit ≡ judged s a
  unfolding judged
  judged_long h = simp (lt-ltb _ _ h)

  module _ (h : length s ≤ limit) where
    pub judged_good : None ≡ first_bad s → a ≡ judged s a
    unfolding judged
    judged_good g = simp (le-ltb _ _ h, ← g)

    pub judged_bad : (at : ℕ) → Some at ≡ first_bad s → refused not_utf8 at ≡ judged s a
    unfolding judged
    judged_bad at g = simp (le-ltb _ _ h, ← g)

module _ (s : List ℕ) where
  pub call_long : limit < length s → refused over_long limit ≡ coordinate s
  unfolding coordinate
  call_long h = judged_long s (of_decimal s (one_decimal s)) h

  pub call_point : length s ≤ limit → (p : Point) (r : Answer) → Some p ≡ one_decimal s → r ≡ of_point s p → r ≡ coordinate s
  unfolding coordinate judged of_decimal
  call_point h p r d e = simp (le-ltb _ _ h, decimal_good s p (sym d), ← d) e

  pub call_none : None ≡ one_decimal s → (r : Answer) → r ≡ judged s outside → r ≡ coordinate s
  unfolding coordinate of_decimal
  call_none d r e = simp (← d) e

  pub call_told : length s ≤ limit → wanted false s ≡ coordinate s
  unfolding wanted
  call_told h = go (one_decimal s) refl
    where
      go : (d : Option Point) → d ≡ one_decimal s → told s (one_decimal s) ≡ coordinate s
      go (Some p) e = sym (ap (told s) e) ∙ call_point h p (told s (Some p)) e (unfold told in refl)
      go None e = sym (ap (told s) e) ∙ call_none e (told s None) (unfold told in refl)

module _ (s : List ℕ) (k from to : ℕ) where
  pub record_back : to < from → refused out_of_bounds 0 ≡ record_coordinate s k from to
  unfolding record_coordinate
  record_back h = simp (lt-leb _ _ h)

  module _ (h : from ≤ to) where
    pub record_past : length s < to → refused out_of_bounds 0 ≡ record_coordinate s k from to
    unfolding record_coordinate
    record_past l = simp (le-leb _ _ h, lt-leb _ _ l)

    module _ (l : to ≤ length s) where
      pub record_number : k ≡ kind.Number → (r : Answer) → r ≡ coordinate (take (to - from) (drop from s)) → r ≡ record_coordinate s k from to
      unfolding record_coordinate coordinate
      record_number n r e = simp (le-leb _ _ h, le-leb _ _ l, eq-eqb _ _ n) e

      pub record_other : (k ≡ kind.Number → ⊥) → (r : Answer) → r ≡ judged (take (to - from) (drop from s)) outside → r ≡ record_coordinate s k from to
      unfolding record_coordinate
      record_other n r e = simp (le-leb _ _ h, le-leb _ _ l, ne_eqb _ _ n) e

-- what an arm of a match tells of an answer: it is an error, and the error is one of its kinds
pub refused_as : (a : CoordinateAnswer) (e x : CoordinateError) → a ≡ Err e → e ≡ x → a ≡ Err x
refused_as a e x h k = h ∙ ap (λ (y : CoordinateError). Err y) k
