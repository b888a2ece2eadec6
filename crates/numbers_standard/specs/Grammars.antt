-- The standard's grammar as one of those of crate numbers (its specs/Grammars).
use Rattle.std.specs.Prelude.{false, map, refl}
use Rattle.laws.specs.Letters.{lower}
use lib.ListN.{length-map}
use Rattle.laws.specs.Texts.{starts}
use Rattle.digits.specs.Digits.{whole_of}
use Rattle.numbers.specs.Grammars.{Letters, Reals, Grammar, Cutting}
use Rattle.numbers_standard.specs.Grammar.{ends_i, imaginary, alone_of, pair_of, joint, rectangular, complex}
use Rattle.numbers_standard.specs.Reals.{infnan, ratio, ureal, real}

-- its letters, in either case
pub standard_letters : Letters (map lower) infnan ends_i
unfolding infnan ends_i
standard_letters = record { length_is = λ s. length-map s lower; infnan_is = λ s. refl; ends_is = λ s. refl }

-- its reals; a denominator has no sign
pub standard_reals : Reals infnan (λ R. whole_of R false) ratio ureal real
unfolding ratio ureal real
standard_reals =
    record {
      exact_is = λ R neg p s. refl;
      ureal_is = λ R neg p s. refl;
      real_is = λ R p s. refl;
    }

-- a number's parts
pub standard_parts : Grammar ends_i real imaginary alone_of pair_of rectangular complex
unfolding ends_i imaginary alone_of pair_of complex starts
standard_parts =
    record {
      empty_ends = refl;
      imaginary_is = λ R p s. refl;
      alone_is = λ R p s. refl;
      two_are = λ R p k s. refl;
      complex_is = λ R p s. refl;
    }

-- nothing cuts it again
pub standard_cutting : Cutting joint (λ k s. false) alone_of pair_of rectangular
unfolding rectangular
standard_cutting = record { rectangular_is = λ R p s. refl }
