-- What is neither a <number> of the standard nor a polar number with a sign below the slash is no number here, and what is one here is one of the two:
-- crate numbers_difference's theorem that the two readers differ on its three conditions alone.
use Rattle.std.proofs.Common.{None, Option, Some, Ok, Err}
use Prim.Native.Nat.{ℕ}
use mathlib.Core.Path.{◌≡◌, refl, sym, ap, ◌∙◌}
use mathlib.Core.List.{List}
use mathlib.Core.Logic.{◌⊎◌, inl, inr}
use Rattle.laws.proofs.Choice.{impossible}
use Rattle.numbers.specs.declared.ParseError.TheVariants.{NoNumber, ZeroDenominator}
use Rattle.numbers.specs.declared.Parts.{Parts}
use Rattle.numbers.specs.Grammar.{judged, parse_number, Parsed}
use Rattle.numbers_standard.specs.Grammar.{number_parts, parse_standard}
use Rattle.numbers_difference.specs.Conditions.{NumberText, SignBelowSlash, OddE, Differs}
use Rattle.numbers_difference.proofs.Whole.{no_parts, parts_is, parts_inv}
use Rattle.numbers_difference.proofs.Differs.{number_text, number_at, differs, bought_alone}

odd_number : {t : List ℕ} → OddE t → NumberText t
odd_number (OddE.odd m x o) = x

module _ (s : List ℕ) (n : NumberText s → ⊥) (b : SignBelowSlash s → ⊥) where
  standard_none : parse_standard s ≡ Err NoNumber
  unfolding parse_standard judged
  standard_none = go (number_parts s) refl
    where
      go : (x : Option Parts) → number_parts s ≡ x → judged (number_parts s) ≡ Err NoNumber
      go None e = ap judged e
      go (Some a) e = absurd (n (number_text (parts_inv s a e)))

  alike : Differs s → ⊥
  alike (inl c) = b c
  alike (inr (inl c)) = n c.number
  alike (inr (inr c)) = n (odd_number c)

  pub no_number : parse_number s ≡ Err NoNumber
  no_number = go (parse_number s) refl
    where
      go : (x : Parsed) → parse_number s ≡ x → parse_number s ≡ Err NoNumber
      go (Err NoNumber) e = e
      go (Ok p) e = absurd (alike ((differs s).0 (λ q. let z : Ok p ≡ Err NoNumber = sym e ∙ (q ∙ standard_none) in impossible cc)))
      go (Err ZeroDenominator) e = absurd (alike ((differs s).0 (λ q. let z : (Err ZeroDenominator) ≡ Err NoNumber = sym e ∙ (q ∙ standard_none) in impossible cc)))

-- what is a number here, or has a zero denominator, is one of the two
pub numeric_back : (s : List ℕ) → (parse_number s ≡ Err NoNumber → ⊥) → NumberText s ⊎ SignBelowSlash s
unfolding parse_standard judged
numeric_back s n = go (number_parts s) refl
  where
    from : Differs s → NumberText s ⊎ SignBelowSlash s
    from (inl c) = inr c
    from (inr (inl c)) = inl c.number
    from (inr (inr c)) = inl (odd_number c)

    go : (x : Option Parts) → number_parts s ≡ x → NumberText s ⊎ SignBelowSlash s
    go (Some a) f = inl (number_text (parts_inv s a f))
    go None f = from ((differs s).0 (λ q. n (q ∙ ap judged f)))

pub number_back : (s : List ℕ) (p : Parts) → parse_number s ≡ Ok p → NumberText s ⊎ SignBelowSlash s
number_back s p e = numeric_back s (λ q. let z : Ok p ≡ Err NoNumber = sym e ∙ q in impossible cc)

-- how a text is seen to be neither: both readers find no number
pub unnumbered : (s : List ℕ) → number_parts s ≡ None → NumberText s → ⊥
unnumbered s e n = let f = number_at n in no_parts (sym e ∙ parts_is f.1)

pub unslashed : (s : List ℕ) → parse_number s ≡ Err NoNumber → SignBelowSlash s → ⊥
unslashed s e c = (bought_alone s c).0 e
