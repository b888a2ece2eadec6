-- The words that have a kind of their own: none of them is a number, and none begins with `#!`.
use Rattle.std.proofs.Common.{Err}
use Prim.Native.Nat.{ℕ}
use mathlib.Core.Path.{◌≡◌, refl, sym, subst, ◌∙◌}
use mathlib.Core.Bool.{true, false}
use mathlib.Core.List.{List, [], ◌∷◌}
use lib.Dec.{eqb, leb}
use borrow.Author.Tests.{eq-eqb, eqb-true}
use Rattle.laws.specs.Quoted.{code, codes, within}
use Rattle.laws.specs.Texts.{span, starts, begins, same}
use Rattle.laws.proofs.Choice.{by_bool, if_all, no_yes, impossible}
use Rattle.laws.proofs.Compared.{same_is}
use Rattle.chars.specs.Encode.{utf8, bytes_of}
use Rattle.digits.specs.Digits.{digit_of, sign, uinteger, value, fit, signed, whole_of, integer}
use Rattle.numbers.specs.Grammar.{just_of, complex_of, polar_of, ends_i, imaginary, alone_of, pair_of, to_sign, starts_e}
use Rattle.numbers.specs.Grammar.{rectangular, complex, zero_int, zero_real, zero_parts, judged, radix_mark, prefix, parse_number}
use Rattle.numbers.specs.Reals.{exponent_marker, exponent, suffix, point_of, dotted, undotted, decimal, infnan, integral_of, rational_of, denominator, exact, or_else, ureal, real}
use Rattle.numbers.specs.declared.ParseError.TheVariants.{NoNumber}
use Rattle.items.specs.Meaning.{Row, lookup, words, word_kind}
use Rattle.items.specs.Kinds as kind
use Rattle.items.proofs.Every.{Every}
use Rattle.items_writing.proofs.FirstLine.{other_start, other_next, lone_start}

-- what holds of every row's text holds of a text that has a row
lookup_row : (P : List ℕ → Type 0) (rows : List Row) (raw : List ℕ) (n : ℕ) → Every (λ (r : Row). P r.text) rows → eqb (lookup rows raw n) n ≡ false → P raw
unfolding lookup
lookup_row P [] raw n h e = let z : true ≡ false = rw (eq-eqb n n refl) at e in impossible cc
lookup_row P (r ∷ rs) raw n h e = by_bool (same raw r.text)
    (λ f. subst P (sym (same_is raw r.text f)) h.0)
    (λ f. lookup_row P rs raw n h.1 (rw f at e))

rows_numbers : Every (λ (r : Row). parse_number r.text ≡ Err NoNumber) words
unfolding words span starts begins same utf8 bytes_of within digit_of sign uinteger value fit signed whole_of integer exponent_marker exponent suffix point_of dotted
    undotted decimal infnan integral_of rational_of denominator exact or_else ureal real just_of complex_of polar_of ends_i imaginary alone_of pair_of to_sign starts_e rectangular
    complex zero_int zero_real zero_parts judged radix_mark prefix parse_number
rows_numbers = (refl, (refl, (refl, (refl, (refl, (refl, (refl, (refl, (refl, (refl, (refl, (refl, (refl, (refl, (refl, (refl, (refl, (refl, (refl, tt)))))))))))))))))))

rows_lines : Every (λ (r : Row). begins (codes "#!") r.text ≡ false) words
unfolding words begins bytes_of utf8
rows_lines = (refl, (refl, (refl, (refl, (refl, (refl, (refl, (refl, (refl, (refl, (refl, (refl, (refl, (refl, (refl, (refl, (refl, (refl, (refl, tt)))))))))))))))))))

pub word_number : (raw : List ℕ) → eqb (word_kind raw) kind.Identifier ≡ false → parse_number raw ≡ Err NoNumber
unfolding word_kind
word_number raw e = lookup_row (λ (l : List ℕ). parse_number l ≡ Err NoNumber) words raw kind.Identifier rows_numbers e

word_line : (raw : List ℕ) → eqb (word_kind raw) kind.Identifier ≡ false → begins (codes "#!") raw ≡ false
unfolding word_kind
word_line raw e = lookup_row (λ (l : List ℕ). begins (codes "#!") l ≡ false) words raw kind.Identifier rows_lines e

-- of characters, by their bytes
line_both : (u : List ℕ) → begins (codes "#!") (bytes_of (code "#" ∷ code "!" ∷ u)) ≡ true
unfolding begins bytes_of utf8
line_both u = refl

pub line_chars : (v : List ℕ) → begins (codes "#!") (bytes_of v) ≡ false → begins (codes "#!") v ≡ false
unfolding begins
line_chars [] h = refl
line_chars (c ∷ []) h = lone_start c
line_chars (c ∷ d ∷ u) h = by_bool (eqb d (code "!"))
    (λ e. by_bool (eqb c (code "#"))
    (λ f. no_yes (sym (rw (eqb-true c (code "#") f, eqb-true d (code "!") e) at h) ∙ line_both u))
    (λ f. other_start c (d ∷ u) f))
    (λ e. other_next c d u e)

pub word_no_line : (v : List ℕ) → eqb (word_kind (bytes_of v)) kind.Identifier ≡ false → begins (codes "#!") v ≡ false
word_no_line v e = line_chars v (word_line (bytes_of v) e)

-- what holds of every row's number, and of the other, holds of the number that is found
lookup-number : (P : ℕ → Type 0) (rows : List Row) (raw : List ℕ) (n : ℕ) → Every (λ (r : Row). P r.number) rows → P n → P (lookup rows raw n)
unfolding lookup
lookup-number P [] raw n h e = e
lookup-number P (r ∷ rs) raw n h e = if_all P (same raw r.text) h.0 (lookup-number P rs raw n h.1 e)

pub word_no_string : (raw : List ℕ) → eqb (word_kind raw) kind.StringLiteral ≡ false
unfolding word_kind words
word_no_string raw =
    lookup-number (λ (n : ℕ). eqb n kind.StringLiteral ≡ false) words raw kind.Identifier
    (refl, (refl, (refl, (refl, (refl, (refl, (refl, (refl, (refl, (refl, (refl, (refl, (refl, (refl, (refl, (refl, (refl, (refl, (refl, tt))))))))))))))))))) refl

pub word_no_keyword : (raw : List ℕ) → eqb (word_kind raw) kind.Keyword ≡ false
unfolding word_kind words
word_no_keyword raw =
    lookup-number (λ (n : ℕ). eqb n kind.Keyword ≡ false) words raw kind.Identifier
    (refl, (refl, (refl, (refl, (refl, (refl, (refl, (refl, (refl, (refl, (refl, (refl, (refl, (refl, (refl, (refl, (refl, (refl, (refl, tt))))))))))))))))))) refl

pub word_kind_lem : (raw : List ℕ) → leb (word_kind raw) kind.Dot ≡ true
unfolding word_kind words
word_kind_lem raw =
    lookup-number (λ (n : ℕ). leb n kind.Dot ≡ true) words raw kind.Identifier
    (refl, (refl, (refl, (refl, (refl, (refl, (refl, (refl, (refl, (refl, (refl, (refl, (refl, (refl, (refl, (refl, (refl, (refl, (refl, tt))))))))))))))))))) refl
