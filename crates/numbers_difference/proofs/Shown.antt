-- A text for each condition, which meets that one and no other: no condition implies another.
use Prim.Native.Nat.{ℕ, ◌<◌}
use mathlib.Core.Path.{◌≡◌, refl, sym}
use mathlib.Core.Bool.{true, false}
use mathlib.Core.List.{List, [], ◌∷◌}
use mathlib.Core.Logic.{inl, inr}
use lib.Dec.{lit<}
use lib.ListN.{drop}
use Rattle.laws.specs.Quoted.{code, codes, within}
use Rattle.laws.specs.Texts.{starts}
use Rattle.laws.proofs.Choice.{yes_no}
use Rattle.digits.specs.Digits.{digit_of}
use Rattle.laws.specs.Letters.{lower, is_sign}
use Rattle.numbers_difference.specs.Productions.{Letter, Digits, UInteger, Sign, Prefix}
use Rattle.numbers_difference.specs.Conditions.{URealText, RealText, ImaginaryText, ComplexText, NumberText, somewhere, is_capital, is_n}
use Rattle.numbers_difference.specs.Conditions.{sign_after, odd_e, sign_after_odd_e, SignedBelow, SideText, SignBelowSlash, UpperCase, OddE}
use Rattle.numbers_difference.proofs.Differs.{exclusive}

one_digit : {R : ℕ} (c : ℕ) → digit_of c < R → UInteger R (c ∷ [])
one_digit c h = UInteger.uint h Digits.none

-- 1: `1@1/-2`
pub shows_1 : SignBelowSlash (codes "1@1/-2")
unfolding digit_of within is_sign somewhere is_capital is_n
shows_1 =
    SignBelowSlash.polar Prefix.empty (SideText.plain (RealText.ureal Sign.empty (URealText.integer (one_digit (code "1") (lit< tt)))) refl)
    (SideText.slashed below) (inr below)
  where
    below : SignedBelow 10 (codes "1/-2")
    below = SignedBelow.ratio Sign.empty (one_digit (code "1") (lit< tt)) (code "-") refl (one_digit (code "2") (lit< tt))

-- 2: `+I`
pub shows_2 : UpperCase (codes "+I")
unfolding lower within somewhere is_capital is_n
shows_2 = record { number = NumberText.num Prefix.empty (ComplexText.imaginary ImaginaryText.one (Letter.letter refl)); upper = refl }

-- 3: `#xe+1i`
pub shows_3 : OddE (codes "#xe+1i")
unfolding lower within digit_of is_sign somewhere sign_after odd_e
shows_3 =
    OddE.odd (Letter.letter refl)
    (NumberText.num (Prefix.hex (Letter.letter refl))
    (ComplexText.rectangular (RealText.ureal Sign.empty (URealText.integer (one_digit (code "e") (lit< tt))))
    (ImaginaryText.positive (URealText.integer (one_digit (code "1") (lit< tt)))) (Letter.letter refl)))
    refl

-- what meets the third begins with #
odd_hash : {s : List ℕ} → OddE s → starts (code "#") s ≡ true
unfolding starts
odd_hash (OddE.odd m n o) = refl

-- each of the three meets no other condition
pub only_1 : (UpperCase (codes "1@1/-2") → ⊥) × (OddE (codes "1@1/-2") → ⊥)
only_1 = ((λ c. exclusive (codes "1@1/-2") shows_1 (inl c)), (λ c. exclusive (codes "1@1/-2") shows_1 (inr c)))

pub only_2 : (SignBelowSlash (codes "+I") → ⊥) × (OddE (codes "+I") → ⊥)
unfolding starts
only_2 = ((λ c. exclusive (codes "+I") c (inl shows_2)), (λ c. yes_no (sym (odd_hash c))))

pub only_3 : (SignBelowSlash (codes "#xe+1i") → ⊥) × (UpperCase (codes "#xe+1i") → ⊥)
unfolding somewhere is_capital is_n
only_3 = ((λ c. exclusive (codes "#xe+1i") c (inr shows_3)), (λ c. yes_no (sym c.upper)))

-- what meets the third has such a sign after its prefix
odd_sign : {s : List ℕ} → OddE s → sign_after_odd_e false (drop 2 s) ≡ true
odd_sign (OddE.odd m n o) = o

-- after an even number of e's the third is not met: `#xee+1i`
pub even_e : OddE (codes "#xee+1i") → ⊥
unfolding somewhere sign_after odd_e is_sign
even_e c = yes_no (sym (odd_sign c))

-- an A right after an n counts: `+nAn.0` meets the second
pub upper_nan : UpperCase (codes "+nAn.0")
unfolding lower within somewhere is_capital is_n
upper_nan = record {
  number = NumberText.num Prefix.empty (ComplexText.real (RealText.infnan (inr (inr (inl refl)))));
  upper = refl;
}
