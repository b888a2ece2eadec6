-- A negative value is taken from -1 first, which 64 bits hold for -2^63 too; what is left is one less than its magnitude.
use mathlib.Core.Path.{◌≡◌, sym, ap, ◌∙◌}
use mathlib.Core.Bool.{true}
use lib.IntN.{ℤ, pos, negsuc, nat_abs, ◌-ℤ◌}
use lib.Signed.{lt_z}
use mir.Syntax.{w64}
use mir.Val.{SFits, to_z, of_z}
use mir.Facts.{to_z-of_z}
use native.Mathlib.Omega.{arith}
use borrow.Author.Rules.{rules, sfits_of}
use Rattle.numbers_words.proofs.Words.{Negative, negative, positive, magnitude_of}
use Rattle.numbers_words.proofs.magnitude.Goals as goal

-- the value v as 64 bits hold it, found negative
module _ (v : ℤ) (s : SFits w64 v) (h : lt_z (to_z w64 (of_z w64 v)) (pos 0) ≡ true) where
  same : to_z w64 (of_z w64 v) ≡ v
  same = search rules

  under : Negative v
  under = negative v s (ap (λ (z : ℤ). lt_z z (pos 0)) (sym same) ∙ h)

  -- what is left, and what its 64 bits say
  left : negsuc 0 -ℤ to_z w64 (of_z w64 v) ≡ pos under.below
  left = ap (λ (z : ℤ). negsuc 0 -ℤ z) same ∙ under.less

  left-bits : to_z w64 (of_z w64 (negsuc 0 -ℤ to_z w64 (of_z w64 v))) ≡ pos under.below
  left-bits = rw left (to_z-of_z {w = w64} (sfits_of under.fits))

pub overflow_sub-result : goal.overflow_sub-result
overflow_sub-result c =
    let n = under c.args.v c.ranges.v c.if-v-lt0.true in
    rw (left c.args.v c.ranges.v c.if-v-lt0.true) (sfits_of n.fits)

pub overflow_cast-result : goal.overflow_cast-result
overflow_cast-result c =
    let n = under c.args.v c.ranges.v c.if-v-lt0.true in
    rw (left-bits c.args.v c.ranges.v c.if-v-lt0.true) (tt, record { fits = omega (arith, n.fits) })

pub overflow_add-result : goal.overflow_add-result
overflow_add-result c =
    let n = under c.args.v c.ranges.v c.if-v-lt0.true in
    rw (left-bits c.args.v c.ranges.v c.if-v-lt0.true) (record { fits = omega (arith, n.fits) })

pub returns-then-v-lt0 : goal.returns-then-v-lt0
returns-then-v-lt0 c =
    magnitude_of c.args.v (under c.args.v c.ranges.v c.if-v-lt0.true) (ap nat_abs (left-bits c.args.v c.ranges.v c.if-v-lt0.true))

pub overflow_cast-result-2 : goal.overflow_cast-result-2
overflow_cast-result-2 c =
    let f : to_z w64 (of_z w64 c.args.v) ≡ c.args.v = search rules in
    let p = positive c.args.v c.ranges.v (ap (λ (z : ℤ). lt_z z (pos 0)) (sym f) ∙ c.if-v-lt0.false) in
    rw (f, p.is) (tt, record { fits = omega (arith, p.fits) })
