-- The number call with a choice of reader on single texts: the whole answer, computed from the definition. `number_by` ensures that its
-- answer is `number_by` of the choice and the text.
use Rattle.std.specs.Prelude.{ℕ, ◌≡◌, refl, false, List, [], ◌∷◌, pos, negsuc, replicate}
use Rattle.laws.specs.Quoted.{within}
use Rattle.laws.specs.Texts.{span, starts, same}
use Rattle.chars.specs.Utf8.{first, rest, front, sequences, first_bad}
use Rattle.chars.specs.Encode.{utf8, bytes_of, spelled, lay}
use Rattle.digits.specs.declared.Int.TheVariants.{Small}
use Rattle.digits.specs.Digits.{digit_of, sign, uinteger, value, signed, whole_of, integer}
use Rattle.numbers.specs.declared.Real.TheVariants.{Integer, Rational, PosNan, ImpliedZero, ImpliedOne}
use Rattle.numbers.specs.declared.Parts.TheVariants.{Just, Complex, Polar}
use Rattle.numbers.specs.Reals as bought-reals
use Rattle.numbers.specs.Grammar as bought-grammar
use Rattle.numbers.specs.Call.{parts, no_number, refused, number}
use Rattle.laws.specs.Letters.{lower, is_sign}
use Rattle.numbers_standard.specs.Reals.{infnan, ratio, ureal, real}
use Rattle.numbers_standard.specs.Grammar.{ends_i, imaginary, alone_of, pair_of, joint, rectangular, complex, number_parts, parse_standard}
use Rattle.numbers_standard.specs.Call.{bought, standard, by_standard, number_by}
use Rattle.numbers_words.specs.Words.{int_words, formed, real_words, joined, parts_words, refusal_words, flattened, number_words, number_or}

-- a byte that begins no sequence
abbrev pub bad : List ℕ
bad = 0xFF ∷ []

-- a choice that there is not
abbrev pub unknown : ℕ
unknown = 2

pub record Rows : Type 0 where
  -- a sign below a slash: the bought reader's number, none by the standard
  pub slash_bought : number_by bought (spelled "1@1/-2") ≡ parts (Polar (Integer (Small (pos 1))) (Rational (Small (pos 1)) (Small (negsuc 1))))
  pub slash_standard : number_by standard (spelled "1@1/-2") ≡ no_number
  -- upper case: a number by the standard alone
  pub upper_bought : number_by bought (spelled "+I") ≡ no_number
  pub upper_standard : number_by standard (spelled "+I") ≡ parts (Complex ImpliedZero (ImpliedOne false))
  pub nan_standard : number_by standard (spelled "+nAn.0") ≡ parts (Just PosNan)
  -- a sign after an odd number of e's, and after an even one
  pub odd_bought : number_by bought (spelled "#xe+1i") ≡ no_number
  pub odd_standard : number_by standard (spelled "#xe+1i") ≡ parts (Complex (Integer (Small (pos 14))) (Integer (Small (pos 1))))
  pub even_bought : number_by bought (spelled "#xee+1i") ≡ parts (Complex (Integer (Small (pos 238))) (Integer (Small (pos 1))))
  pub even_standard : number_by standard (spelled "#xee+1i") ≡ parts (Complex (Integer (Small (pos 238))) (Integer (Small (pos 1))))
  -- 39 with 0 goes before 21; a known choice is not refused with it
  pub unknown_first : number_by unknown bad ≡ refused 39 0
  pub bad-bought : number_by bought bad ≡ refused 21 0
  pub bad-standard : number_by standard bad ≡ refused 21 0
  -- what C is told: the answer's number; 39 and 21 go before 22
  pub told_standard : number_or (replicate number_words 7) (number_by standard (spelled "#xe+1i")) ≡ 0
  pub told_bought : number_or (replicate number_words 7) (number_by bought (spelled "#xe+1i")) ≡ 1
  pub told_unknown : number_or [] (number_by unknown bad) ≡ 39
  pub told_bad : number_or [] (number_by standard bad) ≡ 21
  -- and the words: 39 changes none, 21 the first alone
  pub words_unknown : lay (flattened (number_by unknown bad)) (7 ∷ 7 ∷ []) ≡ 7 ∷ 7 ∷ []
  pub words_bad : lay (flattened (number_by standard bad)) (7 ∷ 7 ∷ []) ≡ 0 ∷ 7 ∷ []

pub computed : Rows
-- the list only permits the computing
unfolding within span starts same first rest front sequences first_bad utf8 bytes_of digit_of sign uinteger value signed whole_of integer
    bought-reals.exponent_marker bought-reals.exponent bought-reals.suffix bought-reals.point_of bought-reals.dotted bought-reals.undotted
    bought-reals.decimal bought-reals.infnan bought-reals.integral_of bought-reals.rational_of bought-reals.denominator bought-reals.exact
    bought-reals.or_else bought-reals.ureal bought-reals.real bought-grammar.just_of bought-grammar.complex_of bought-grammar.polar_of
    bought-grammar.ends_i bought-grammar.imaginary bought-grammar.alone_of bought-grammar.pair_of bought-grammar.to_sign bought-grammar.starts_e
    bought-grammar.rectangular bought-grammar.complex bought-grammar.zero_int bought-grammar.zero_real bought-grammar.zero_parts
    bought-grammar.judged bought-grammar.radix_mark bought-grammar.prefix bought-grammar.parse_number number lower is_sign infnan ratio ureal
    real ends_i imaginary alone_of pair_of joint rectangular complex number_parts parse_standard by_standard number_by int_words formed real_words
    joined parts_words refusal_words flattened number_or lay
computed = record {
  slash_bought = refl;
  slash_standard = refl;
  upper_bought = refl;
  upper_standard = refl;
  nan_standard = refl;
  odd_bought = refl;
  odd_standard = refl;
  even_bought = refl;
  even_standard = refl;
  unknown_first = refl;
  bad-bought = refl;
  bad-standard = refl;
  told_standard = refl;
  told_bought = refl;
  told_unknown = refl;
  told_bad = refl;
  words_unknown = refl;
  words_bad = refl;
}
