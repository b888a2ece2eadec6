-- <infnan> in lower case only, and in either case: the two agree where there is no capital.
use mathlib.Core.Bool.{Bool, false, true}
use mathlib.Core.List.{List, [], ◌∷◌, map}
use Prim.Native.Nat.{◌-◌, ℕ}
use mathlib.Core.Path.{◌∙◌, ◌≡◌, refl, sym}
use mathlib.Core.Logic.{◌⊎◌, inl, inr}
use native.Mathlib.Omega.{arith}
use borrow.Author.Tests.{le-ltb}
use lib.Dec.{ltb}
use Rattle.numbers.specs.declared.Real.TheVariants.{NegInf, NegNan, PosInf, PosNan}
use Rattle.numbers.specs.declared.Real.{Real}
use Rattle.numbers_standard.proofs.Letters.{UpperOf, lower_is}
use Rattle.laws.proofs.Choice.{by_bool, yes_no, impossible}
use Rattle.laws.specs.Quoted.{code, codes, within}
use Rattle.std.specs.Prelude.{if◌then◌else◌, None, Option, Some}
use Rattle.numbers_standard.specs.Reals.{infnan}
use Rattle.laws.specs.Letters.{lower}
use Rattle.laws.specs.Texts.{same}
use Rattle.laws.proofs.Compared.{same_is}
use Rattle.numbers_difference.specs.R7rs.{Infnan}
use Rattle.numbers_difference.specs.Conditions.{capital, is_capital, is_n, somewhere}
use Rattle.numbers_difference.proofs.Sound.{none}
use Rattle.numbers.specs.Reals as bought

-- <infnan> in lower case, and in either
pub infnan_same : (s : List ℕ) (r : Real) → bought.infnan s ≡ Some r → (infnan s ≡ Some r) × (capital false s ≡ false)
unfolding infnan bought.infnan same lower somewhere is_capital is_n within
infnan_same s r h =
    by_bool (same s (codes "+inf.0")) (λ e. let q : Some PosInf ≡ Some r = rw e at h in rw (same_is s (codes "+inf.0") e) (q, refl)) (λ a.
    by_bool (same s (codes "-inf.0")) (λ e. let q : Some NegInf ≡ Some r = rw (a, e) at h in rw (same_is s (codes "-inf.0") e) (q, refl)) (λ b.
    by_bool (same s (codes "+nan.0")) (λ e. let q : Some PosNan ≡ Some r = rw (a, b, e) at h in rw (same_is s (codes "+nan.0") e) (q, refl)) (λ c.
    by_bool (same s (codes "-nan.0")) (λ e. let q : Some NegNan ≡ Some r = rw (a, b, c, e) at h in rw (same_is s (codes "-nan.0") e) (q, refl)) (λ d.
    none r (rw (a, b, c, d) at h)))))

pub infnan_low : (s : List ℕ) → infnan s ≡ None → bought.infnan s ≡ None
infnan_low s h = go (bought.infnan s) refl
  where
    go : (x : Option Real) → bought.infnan s ≡ x → bought.infnan s ≡ None
    go None e = e
    go (Some r) e = none r (sym h ∙ (infnan_same s r e).0)

-- the letters of w in upper case would be capitals
unfoldable lettered : Bool → List ℕ → Bool
lettered f [] = true
lettered f (x ∷ w) = if ltb x (code "a") then lettered (is_n f x) w else if is_capital f (x - 32) then lettered (is_n f x) w else false

low_exact : (f : Bool) (s w : List ℕ) → lettered f w ≡ true → map lower s ≡ w → capital f s ≡ false → s ≡ w
unfolding lettered somewhere
low_exact f [] [] h e k = refl
low_exact f [] (x ∷ w) h e k = impossible cc
low_exact f (c ∷ s) [] h e k = impossible cc
low_exact f (c ∷ s) (x ∷ w) h e k =
    let a : lower c ≡ x = cc in
    let b : map lower s ≡ w = cc in
    by_bool (is_capital f c) (λ q. yes_no (rw q at k)) (λ q.
    let k' : capital (is_n f c) s ≡ false = rw q at k in
    let m : c ≡ x = kept (lower_is c x a) q in
    cons m (low_exact (is_n f x) s w rest b (rw m at k')))
  where
    kept : (c ≡ x) ⊎ UpperOf c x → is_capital f c ≡ false → c ≡ x
    kept (inl m) q = m
    kept (inr m) q =
        let z : x - 32 ≡ c = omega arith in
        let y : ltb x (code "a") ≡ false = le-ltb x (code "a") (omega arith) in
        yes_no (sym (rw (y, z, q) at h))

    rest : lettered (is_n f x) w ≡ true
    rest = by_bool (ltb x (code "a")) (λ y. rw y at h) (λ y. by_bool (is_capital f (x - 32)) (λ q. rw (y, q) at h) (λ q. yes_no (sym (rw (y, q) at h))))

    cons : c ≡ x → s ≡ w → c ∷ s ≡ x ∷ w
    cons p q = cc

pub infnan_exact : {s : List ℕ} {r : Real} → Infnan s r → capital false s ≡ false → bought.infnan s ≡ Some r
unfolding lettered is_capital is_n bought.infnan same
infnan_exact {s} (Infnan.inf e) k = rw (low_exact false s _ refl e k)
infnan_exact {s} (Infnan.minus_inf e) k = rw (low_exact false s _ refl e k)
infnan_exact {s} (Infnan.nan e) k = rw (low_exact false s _ refl e k)
infnan_exact {s} (Infnan.minus_nan e) k = rw (low_exact false s _ refl e k)
