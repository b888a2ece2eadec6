-- Items of error 11 with the place that they point at in report mode, the extent's bytes from place 0 on. Theorem `read_points_at_first` of
-- `items_errors` says of every such record that the whole-text call writes that it has such a row.
use Rattle.std.specs.Prelude.{ℕ, ◌≡◌, refl, List, [], ◌∷◌}
use Rattle.std.proofs.Common.{arith}
use Rattle.laws.specs.Quoted.{code, codes, within}
use Rattle.laws.specs.Texts.{starts, begins}
use Rattle.chars.specs.Encode.{utf8, width, is_scalar}
use Rattle.digits.specs.Digits.{digit_of, value}
use Rattle.digits.specs.Hex.{empty, bad_digit, overflow}
use Rattle.items_errors.specs.First.{OfCharacter, OfEscape, character, escape, plus, FirstFails, none, bad, over}

-- 02: `"\x4G1;"`, the one character that fails
pub one_character : FirstFails (codes "\"\\x4G1;") 0 bad_digit 4 5
unfolding starts begins plus value digit_of within width utf8 is_scalar
one_character = record {
  ds = codes "4G1";
  n = 3;
  p = 1;
  q = 2;
  stand = escape refl (codes "\"") (codes "\\x") (codes ";") OfEscape.x refl (refl, (refl, (refl, tt)));
  fails = bad (codes "4") (code "G") (codes "1") refl (omega arith, tt) (omega arith) refl (omega arith);
  begins = refl;
  ends = refl;
}

-- no digits at all: the empty place behind `\x`
pub no_digits : FirstFails (codes "\"\\x;") 0 empty 3 3
unfolding starts begins plus
no_digits = record {
  ds = [];
  n = 3;
  p = 0;
  q = 0;
  stand = escape refl (codes "\"") (codes "\\x") (codes ";") OfEscape.x refl tt;
  fails = none refl;
  begins = refl;
  ends = refl;
}

-- nine digits fit no 32 bits, so the ninth fails, and not the tenth
pub ninth_digit : FirstFails (codes "\"\\x1FFFFFFFFF;") 0 overflow 11 12
unfolding starts begins plus value digit_of within
ninth_digit = record {
  ds = codes "1FFFFFFFFF";
  n = 3;
  p = 8;
  q = 9;
  stand = escape refl (codes "\"") (codes "\\x") (codes ";") OfEscape.x refl
      (refl, (refl, (refl, (refl, (refl, (refl, (refl, (refl, (refl, (refl, tt))))))))));
  fails = over (codes "1FFFFFFF") (code "F") (codes "F") refl
      (omega arith, (omega arith, (omega arith, (omega arith, (omega arith, (omega arith, (omega arith, (omega arith, tt))))))))
      (omega arith) (omega arith) (omega arith);
  begins = refl;
  ends = refl;
}

-- one plus is allowed, and the second is no digit
pub second_plus : FirstFails (codes "\"\\u++1;") 0 bad_digit 4 5
unfolding starts begins plus value digit_of within width utf8 is_scalar
second_plus = record {
  ds = codes "++1";
  n = 3;
  p = 1;
  q = 2;
  stand = escape refl (codes "\"") (codes "\\u") (codes ";") OfEscape.u refl (refl, (refl, (refl, tt)));
  fails = bad [] (code "+") (codes "1") refl tt (omega arith) refl (omega arith);
  begins = refl;
  ends = refl;
}

-- a lone plus is taken for a digit
pub lone_plus : FirstFails (codes "#\\u{+}") 0 bad_digit 4 5
unfolding starts begins plus value digit_of within width utf8 is_scalar
lone_plus = record {
  ds = codes "+";
  n = 4;
  p = 0;
  q = 1;
  stand = character (codes "#\\u{") (codes "}") OfCharacter.brace refl;
  fails = bad [] (code "+") [] refl tt (omega arith) refl (omega arith);
  begins = refl;
  ends = refl;
}

-- of two escapes the second fails, and there its first digit
pub second_escape : FirstFails (codes "|\\x41;\\u{G}") 0 bad_digit 9 10
unfolding starts begins plus value digit_of within width utf8 is_scalar
second_escape = record {
  ds = codes "G";
  n = 9;
  p = 0;
  q = 1;
  stand = escape refl (codes "|\\x41;") (codes "\\u{") (codes "}") OfEscape.brace refl (refl, tt);
  fails = bad [] (code "G") [] refl tt (omega arith) refl (omega arith);
  begins = refl;
  ends = refl;
}
