-- Parts, and the searches among rows.
use Prim.Native.Nat.{ℕ, suc, ◌+◌, ◌-◌, ◌≤◌, ◌<◌}
use mathlib.Core.Path.{◌≡◌, sym, ap, ◌∙◌}
use mathlib.Core.Bool.{Bool, true, false}
use mathlib.Core.List.{List, []}
use native.Mathlib.Omega.{arith}
use native.Mathlib.Numerals.{add-one}
use lib.ListN.{length, take, drop, length-drop, drop_of_length-le}
use lib.Seq.{take_all, take-nil}
use Rattle.findings.specs.Rows.{part, last_before, first_from}

module _ (s : List ℕ) (a b : ℕ) where
  -- a part that ends before it starts is empty
  pub part_back : b < a → [] ≡ part s a b
  part_back h = let z : b - a ≡ 0 = omega arith in sym (ap (λ (n : ℕ). take n (drop a s)) z)

  -- a part past the end goes to the end
  pub part_over : length s ≤ b → drop a s ≡ part s a b
  part_over h = sym (take_all (b - a) (drop a s) (omega (arith, length-drop a s)))

  -- a part that starts past the end is empty
  pub part_past : length s ≤ a → [] ≡ part s a b
  part_past h = sym (ap (take (b - a)) (drop_of_length-le s h) ∙ take-nil (b - a))

-- one number more
module _ (f : ℕ → Bool) (n : ℕ) where
  pub last_now : f n ≡ true → last_before f (n + 1) ≡ n
  unfolding last_before
  last_now e = rw add-one (rw e)

  pub last_old : f n ≡ false → last_before f (n + 1) ≡ last_before f n
  unfolding last_before
  last_old e = rw add-one (rw e)

-- ---- the search back from n stands at i
module _ (f : ℕ → Bool) (n i : ℕ) (on : last_before f n ≡ last_before f i) where
  pub last_end : i ≤ 0 → 0 ≡ last_before f n
  unfolding last_before
  last_end h = let z : i ≡ 0 = omega arith in sym (on ∙ ap (last_before f) z)

  module _ (h : 0 < i) where
    back : last_before f n ≡ last_before f (suc (i - 1))
    back = let z : i ≡ suc (i - 1) = omega arith in on ∙ ap (last_before f) z

    pub last_hit : f (i - 1) ≡ true → i - 1 ≡ last_before f n
    unfolding last_before
    last_hit e = sym (back ∙ rw e)

    pub last_miss : f (i - 1) ≡ false → last_before f n ≡ last_before f (i - 1)
    unfolding last_before
    last_miss e = back ∙ rw e

pub first_start : (f : ℕ → Bool) (n : ℕ) → first_from f n 0 ≡ first_from f (n - 0) 0
first_start f n = let z : n ≡ n - 0 = omega arith in ap (λ (m : ℕ). first_from f m 0) z

-- ---- the search on from the start stands at i, of n
module _ (f : ℕ → Bool) (n i : ℕ) (on : first_from f n 0 ≡ first_from f (n - i) i) where
  pub first_end : n ≤ i → i ≤ n → n ≡ first_from f n 0
  unfolding first_from
  first_end h k = let z : n - i ≡ 0 = omega arith in let y : n ≡ i = omega arith in sym (on ∙ ap (λ (m : ℕ). first_from f m i) z ∙ sym y)

  module _ (h : i < n) where
    forth : first_from f n 0 ≡ first_from f (suc (n - (i + 1))) i
    forth = let z : n - i ≡ suc (n - (i + 1)) = omega arith in on ∙ ap (λ (m : ℕ). first_from f m i) z

    pub first_hit : f i ≡ true → i ≡ first_from f n 0
    unfolding first_from
    first_hit e = sym (forth ∙ rw e)

    pub first_miss : f i ≡ false → first_from f n 0 ≡ first_from f (n - (i + 1)) (i + 1)
    unfolding first_from
    first_miss e = forth ∙ rw e
