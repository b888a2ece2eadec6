-- What a grammar of numbers is, by its productions: the bought reader's, and the standard's (crate numbers_standard). They differ in what
-- <infnan> and a denominator are, in the case of the last `i` and in where two parts join.
use Rattle.std.specs.Prelude.{◌≡◌, ℕ, ◌+◌, ◌-◌, Bool, true, false, List, [], length, take, drop, ltb, eqb, if◌then◌else◌, None, Option, Some, refl}
use Rattle.laws.specs.Quoted.{code, codes}
use Rattle.laws.specs.Texts.{before, starts, same}
use Rattle.digits.specs.declared.Int.{Int}
use Rattle.digits.specs.Digits.{sign, negative, whole_of}
use Rattle.numbers.specs.declared.Parts.{Parts}
use Rattle.numbers.specs.declared.Real.{Real}
use Rattle.numbers.specs.declared.Real.TheVariants.{ImpliedZero, ImpliedOne}
use Rattle.numbers.specs.Grammar.{just_of, complex_of, polar_of, ends_i, init, imaginary, alone_of, pair_of, to_sign, cut, rectangular, complex, prefix}
use Rattle.numbers.specs.Reals as bought
use Rattle.numbers.specs.Reals.{decimal, infnan, integral_of, rational_of, denominator, exact, ureal, real, or_else}

-- ---- a real

pub record Reals (infnan : List ℕ → (Option Real)) (denominator : ℕ → ℕ → List ℕ → (Option Int)) (exact ureal : ℕ → Bool → ℕ → List ℕ → (Option Real))
    (real : ℕ → ℕ → List ℕ → (Option Real)) : Type 0 where
  pub exact_is : (R : ℕ) (neg : Bool) (p : ℕ) (s : List ℕ)
      → exact R neg p s
      ≡ (if ltb (before (code "/") s) (length s)
      then rational_of (whole_of R neg p (take (before (code "/") s) s))
      (denominator R (p + before (code "/") s + 1) (drop (before (code "/") s + 1) s))
      else integral_of (whole_of R neg p s))
  pub ureal_is : (R : ℕ) (neg : Bool) (p : ℕ) (s : List ℕ) → ureal R neg p s ≡ or_else (if eqb R 10 then decimal neg p s else None) (exact R neg p s)
  pub real_is : (R p : ℕ) (s : List ℕ) → real R p s ≡ or_else (infnan s) (ureal R (negative s) (p + sign s) (drop (sign s) s))

-- ---- how a grammar reads letters: what it compares with a word in lower case

pub record Letters (cased : List ℕ → List ℕ) (infnan : List ℕ → (Option Real)) (ends_i : List ℕ → Bool) : Type 0 where
  pub length_is : (s : List ℕ) → length (cased s) ≡ length s
  pub infnan_is : (s : List ℕ) → infnan s ≡ bought.infnan (cased s)
  pub ends_is : (s : List ℕ) → ends_i s ≡ starts (code "i") (cased (drop (length s - 1) s))

-- the bought reader's letters, as they are
pub bought_letters : Letters (λ s. s) infnan ends_i
unfolding ends_i
bought_letters = record { length_is = λ s. refl; infnan_is = λ s. refl; ends_is = λ s. refl }

-- the bought reader's reals
pub bought_reals : Reals infnan denominator exact ureal real
unfolding exact ureal real
bought_reals =
    record {
      exact_is = λ R neg p s. refl;
      ureal_is = λ R neg p s. refl;
      real_is = λ R p s. refl;
    }

-- ---- a number's parts

pub record Grammar (ends_i : List ℕ → Bool) (real imaginary : ℕ → ℕ → List ℕ → (Option Real)) (alone_of : ℕ → ℕ → List ℕ → (Option Parts))
    (pair_of : ℕ → ℕ → ℕ → List ℕ → (Option Parts)) (rectangular complex : ℕ → ℕ → List ℕ → (Option Parts)) : Type 0 where
  pub empty_ends : false ≡ ends_i []
  pub imaginary_is : (R p : ℕ) (s : List ℕ)
      → imaginary R p s ≡ (if same s (codes "+") then Some (ImpliedOne false) else if same s (codes "-") then Some (ImpliedOne true) else real R p s)
  pub alone_is : (R p : ℕ) (s : List ℕ)
      → alone_of R p s ≡ (if ends_i s then (if eqb (sign s) 0 then None else complex_of (Some ImpliedZero) (imaginary R p (init s))) else just_of (real R p s))
  pub two_are : (R p k : ℕ) (s : List ℕ)
      → pair_of R p k s ≡ (if ends_i (drop k s) then complex_of (real R p (take k s)) (imaginary R (p + k) (init (drop k s))) else None)
  pub complex_is : (R p : ℕ) (s : List ℕ)
      → complex R p s
      ≡ (if ltb (before (code "@") s) (length s)
      then polar_of (real R p (take (before (code "@") s) s)) (real R (p + before (code "@") s + 1) (drop (before (code "@") s + 1) s))
      else rectangular R p s)

-- a number without @: where two parts join, and whether it is cut again past that place
pub record Cutting (joint : ℕ → List ℕ → ℕ) (again : ℕ → List ℕ → Bool) (alone_of : ℕ → ℕ → List ℕ → (Option Parts))
    (pair_of : ℕ → ℕ → ℕ → List ℕ → (Option Parts)) (rectangular : ℕ → ℕ → List ℕ → (Option Parts)) : Type 0 where
  pub rectangular_is : (R p : ℕ) (s : List ℕ)
      → rectangular R p s
      ≡ (if ltb (joint R s) (length s)
      then (if again (joint R s) s then None else pair_of R p (joint R s) s)
      else alone_of R p s)

-- whether another sign stands past that at k
abbrev pub another_sign : ℕ → List ℕ → Bool
another_sign k s = ltb (k + 1 + to_sign false (drop (k + 1) s)) (length s)

-- a number by its <complex R>: radix 10 without a prefix
abbrev pub parts_by : (ℕ → ℕ → List ℕ → (Option Parts)) → List ℕ → (Option Parts)
parts_by complex s = if eqb (prefix s) 0 then complex 10 0 s else complex (prefix s) 2 (drop 2 s)

-- the bought reader's parts
pub bought_parts : Grammar ends_i real imaginary alone_of pair_of rectangular complex
unfolding ends_i imaginary alone_of pair_of complex starts
bought_parts =
    record {
      empty_ends = refl;
      imaginary_is = λ R p s. refl;
      alone_is = λ R p s. refl;
      two_are = λ R p k s. refl;
      complex_is = λ R p s. refl;
    }

pub bought_cutting : Cutting (λ R s. cut s) another_sign alone_of pair_of rectangular
unfolding rectangular
bought_cutting = record { rectangular_is = λ R p s. refl }
