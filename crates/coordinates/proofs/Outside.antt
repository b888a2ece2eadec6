-- 28 in the request's words: of a text that is not refused with 20 or 21, exactly if it is not one decimal or its m or s lies outside; of a
-- record besides exactly if it is no Number.
use Rattle.std.proofs.Common.{◌≡◌, ℕ, ◌-◌, ◌≤◌, eqb, leb, ◌⊎◌, List, length, take, drop, sym, refl, ◌∙◌, inl, inr, le-ltb, ne_eqb, le-leb, leb-false, if◌then◌else◌, None, Option, Some}
use borrow.Author.Tests.{lt-leb, eqb-false}
use Rattle.laws.proofs.Choice.{by_bool, impossible}
use Rattle.refusal.specs.Refusals.{limit}
use Rattle.chars.specs.Utf8.{first_bad}
use Rattle.numbers.specs.declared.Point.{Point}
use Rattle.numbers.specs.Reals.{one_decimal}
use Rattle.items.specs.Kinds as kind
use Rattle.coordinates.specs.Answers.{Answer}
use Rattle.coordinates.specs.Coordinate.{all_digits, scale, most_digits, in_range, scaled, outside, of_point, of_decimal, judged, coordinate, record_coordinate}
use Rattle.coordinates.specs.Means.{Outside, no_decimal, too_many_digits, out_of_range}

module _ (s : List ℕ) where
  point_only : (p : Point) → one_decimal s ≡ Some p → of_point s p ≡ outside → Outside s
  unfolding of_point scaled
  point_only p d e = by_bool (leb (all_digits s p) most_digits)
      (λ f. by_bool (in_range (scale s p))
      (λ g. absurd (let z = rw (f, g) at e in impossible cc))
      (λ g. out_of_range p d g))
      (λ f. too_many_digits p d (leb-false _ _ f))

  decimal_only : (m : Option Point) → one_decimal s ≡ m → of_decimal s m ≡ outside → Outside s
  unfolding of_decimal
  decimal_only (Some p) d e = point_only p d e
  decimal_only None d e = no_decimal d

  decimal_if : Outside s → of_decimal s (one_decimal s) ≡ outside
  unfolding of_decimal of_point scaled
  decimal_if (no_decimal d) = rw d
  decimal_if (too_many_digits p d h) = simp (d, lt-leb _ _ h)
  decimal_if (out_of_range p d h) = rw d (by_bool (leb (all_digits s p) most_digits) (λ f. simp (f, h)) (λ f. simp f))

  module _ (short : length s ≤ limit) (good : first_bad s ≡ None) where
    -- past 20 and 21
    judged_is : (a : Answer) → judged s a ≡ a
    unfolding judged
    judged_is a = simp (le-ltb _ _ short, good)

    pub outside_only : coordinate s ≡ outside → Outside s
    unfolding coordinate
    outside_only e = decimal_only (one_decimal s) refl (sym (judged_is (of_decimal s (one_decimal s))) ∙ e)

    pub outside_if : Outside s → coordinate s ≡ outside
    unfolding coordinate
    outside_if o = judged_is (of_decimal s (one_decimal s)) ∙ decimal_if o

-- of a record, whose extent lies in the source
module _ (source : List ℕ) (k from to : ℕ) (forth : from ≤ to) (inside : to ≤ length source) where
  abbrev text : List ℕ
  text = take (to - from) (drop from source)

  module _ (short : length text ≤ limit) (good : first_bad text ≡ None) where
    record_is : record_coordinate source k from to ≡ (if eqb k kind.Number then of_decimal text (one_decimal text) else outside)
    unfolding record_coordinate
    record_is = simp (le-leb _ _ forth, le-leb _ _ inside) (judged_is text short good (if eqb k kind.Number then of_decimal text (one_decimal text) else outside))

    pub record_outside_only : record_coordinate source k from to ≡ outside → (k ≡ kind.Number → ⊥) ⊎ Outside text
    record_outside_only e = by_bool (eqb k kind.Number)
        (λ f. inr (decimal_only text (one_decimal text) refl (let z = rw f at (sym record_is ∙ e) in z)))
        (λ f. inl (eqb-false k kind.Number f))

    pub record_outside_if : (k ≡ kind.Number → ⊥) ⊎ Outside text → record_coordinate source k from to ≡ outside
    record_outside_if (inl h) = record_is ∙ (rw (ne_eqb k kind.Number h))
    record_outside_if (inr o) = record_is ∙ by_bool (eqb k kind.Number) (λ f. rw f (decimal_if text o)) (λ f. rw f)
