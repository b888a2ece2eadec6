-- A text of one of the plainest shapes is a number: it has no @, no second sign and no `i`, so that it is one real, and that is an integer,
-- a decimal, or a rational whose denominator does not begin with zero and so is not zero.
use Rattle.numbers.specs.declared.Real.{Real}
use Rattle.digits.specs.declared.Int.{Int}
use Rattle.numbers.specs.declared.Parts.{Parts}
use Rattle.numbers.specs.declared.Parts.TheVariants.{Just}
use Rattle.numbers.specs.Reals.{exponent_marker, suffix, point_of, dotted, undotted, decimal, infnan, integral_of, rational_of, denominator, exact, or_else, ureal, real}
use Rattle.numbers.specs.Grammar.{just_of, ends_i, alone_of, to_sign, starts_e, rectangular, complex, zero_int, zero_real, zero_parts, judged, prefix, parse_number}
use Rattle.numbers.specs.Plain.{fraction, ratio, unsigned_plain, plain}
use Rattle.std.specs.Prelude.{if◌then◌else◌, None, Option, Some, Ok}
use Rattle.laws.specs.Quoted.{code, codes, within}
use Rattle.laws.specs.Texts.{span, before, starts, same}
use Rattle.laws.proofs.Choice.{by_bool, if_all, and_true, within_is, no_yes}
use Rattle.digits.specs.Digits.{digit_of, digits, sign, negative, uinteger, value, signed, top, whole_of, integer}
use Rattle.digits.proofs.Digits.{decimal_digit, digit_decimal}
use Rattle.digits.proofs.Integers.{value_ge}
use Rattle.laws.proofs.Compared.{starts_in}
use Rattle.laws.proofs.Runs.{span_le}
use Prim.Native.Nat.{ℕ, zero, suc, ◌+◌, ◌-◌, ◌*◌, ◌≤◌, ◌<◌}
use mathlib.Core.Path.{◌≡◌, refl, sym, ap, ◌∙◌}
use mathlib.Core.Bool.{Bool, true, false, ◌&&◌}
use mathlib.Core.List.{List, [], ◌∷◌}
use lib.ListN.{length, get_or, take, drop}
use lib.Seq.{drop-drop, drop-length, length-take-le}
use lib.Dec.{eqb, ltb}
use native.Mathlib.Omega.{arith}
use borrow.Author.Tests.{eq-eqb, ne_eqb, lt-ltb, le-ltb, le-leb, eqb-true, ltb-true}

abbrev pub All : (ℕ → Type 0) → List ℕ → Type 0
All P [] = Unit {0}
All P (c ∷ s) = P c × All P s

pub all_map : (P Q : ℕ → Type 0) → ((c : ℕ) → P c → Q c) → (s : List ℕ) → All P s → All Q s
all_map P Q f [] h = tt
all_map P Q f (c ∷ s) h = (f c h.0, all_map P Q f s h.1)

-- a digit; a digit, a dot or a slash
abbrev Digit : ℕ → Type 0
Digit c = (code "0" ≤ c) × (c ≤ code "9")

abbrev pub Numeral : ℕ → Type 0
Numeral c = (code "." ≤ c) × (c ≤ code "9")

digit_is : (c : ℕ) → ltb (digit_of c) 10 ≡ true → Digit c
digit_is c h = within_is _ _ _ (sym (decimal_digit c) ∙ h)

digit_within : (c : ℕ) → Digit c → within (code "0") (code "9") c ≡ true
unfolding within
digit_within c d = simp (le-leb (code "0") c d.0, le-leb c (code "9") d.1)

-- ---- digits and nothing else

digits-all : (s : List ℕ) → digits 10 s ≡ length s → All Digit s
unfolding span
digits-all [] h = tt
digits-all (c ∷ s) h = by_bool (ltb (digit_of c) 10)
    (λ e. let k : suc (digits 10 s) ≡ suc (length s) = rw (e, span) at h in (digit_is c e, digits-all s (omega arith)))
    (λ e. let k : 0 ≡ suc (length s) = rw (e, span) at h in absurd (omega arith))

module _ (s : List ℕ) (h : uinteger 10 s ≡ true) where
  pub some : 0 < length s
  unfolding uinteger
  some = by_bool (ltb 0 (length s)) (λ e. ltb-true _ _ e) (λ e. no_yes (rw e at h))

  pub whole : digits 10 s ≡ length s
  unfolding uinteger
  whole = eqb-true _ _ (rw (lt-ltb 0 (length s) some) at h)

  uinteger-digits : All Digit s
  uinteger-digits = digits-all s whole

  uinteger_numerals : All Numeral s
  uinteger_numerals = all_map Digit Numeral (λ c d. (omega arith, d.1)) s uinteger-digits

-- ---- digits and what is after them

after_digits : (s : List ℕ) → All Numeral (drop (digits 10 s) s) → All Numeral s
unfolding span
after_digits [] h = tt
after_digits (c ∷ s) h = by_bool (ltb (digit_of c) 10)
    (λ e. let d = digit_is c e in ((omega arith, d.1), after_digits s (rw (e, span) at h)))
    (λ e. rw (e, span) at h)

fraction_numerals : (s : List ℕ) → fraction s ≡ true → All Numeral s
unfolding starts
fraction_numerals [] h = no_yes h
fraction_numerals (c ∷ s) h =
    let a = and_true (eqb c (code ".")) (uinteger 10 s) h in
    let d = eqb-true c (code ".") a.0 in
    ((omega arith, omega arith), uinteger_numerals s a.1)

ratio_numerals : (s : List ℕ) → ratio s ≡ true → All Numeral s
unfolding starts
ratio_numerals [] h = no_yes h
ratio_numerals (c ∷ s) h =
    let a = and_true (eqb c (code "/")) (ltb (code "0") (get_or s 0 0) && uinteger 10 s) h in
    let d = eqb-true c (code "/") a.0 in
    ((omega arith, omega arith), uinteger_numerals s (and_true (ltb (code "0") (get_or s 0 0)) (uinteger 10 s) a.1).1)

-- the three shapes
pub by_shape : {A : Type 0} (s : List ℕ) → unsigned_plain s ≡ true → (uinteger 10 s ≡ true → A) → (fraction (drop (digits 10 s) s) ≡ true → A)
    → (0 < digits 10 s → ratio (drop (digits 10 s) s) ≡ true → A) → A
by_shape s h f g k = by_bool (uinteger 10 s) f
    (λ e. let x = rw e at h in by_bool (fraction (drop (digits 10 s) s)) g
    (λ i. let a = and_true (ltb 0 (digits 10 s)) (ratio (drop (digits 10 s) s)) (rw i at x) in k (ltb-true 0 (digits 10 s) a.0) a.1))

plain_numerals : (s : List ℕ) → unsigned_plain s ≡ true → All Numeral s
plain_numerals s h =
    by_shape s h (λ e. uinteger_numerals s e) (λ e. after_digits s (fraction_numerals (drop (digits 10 s) s) e))
    (λ _ e. after_digits s (ratio_numerals (drop (digits 10 s) s) e))

-- ---- what numerals are not

abbrev pub Avoids : ℕ → List ℕ → Type 0
Avoids b s = All (λ c. c ≡ b → ⊥) s

pub before_all : (b : ℕ) (s : List ℕ) → Avoids b s → before b s ≡ length s
unfolding span
before_all b [] h = refl
before_all b (c ∷ s) h = simp (ne_eqb c b h.0) (ap suc (before_all b s h.1))

pub sign_all : (skip : Bool) (s : List ℕ) → Avoids (code "+") s → Avoids (code "-") s → to_sign skip s ≡ length s
unfolding to_sign
sign_all true [] h g = refl
sign_all false [] h g = refl
sign_all true (c ∷ s) h g = ap suc (sign_all false s h.1 g.1)
sign_all false (c ∷ s) h g = simp (ne_eqb c (code "+") h.0, ne_eqb c (code "-") g.0) (ap suc (sign_all _ s h.1 g.1))

pub avoids_start : (b k : ℕ) (s : List ℕ) → Avoids b s → starts b (drop k s) ≡ false
unfolding starts
avoids_start b zero [] h = refl
avoids_start b (suc k) [] h = refl
avoids_start b zero (c ∷ s) h = ne_eqb c b h.0
avoids_start b (suc k) (c ∷ s) h = avoids_start b k s h.1

pub uinteger_avoids : (s : List ℕ) → uinteger 10 s ≡ true → Avoids (code "/") s
uinteger_avoids s h = all_map Digit (λ d. d ≡ code "/" → ⊥) (λ d n e. omega arith) s (uinteger-digits s h)

-- ---- a first character, which may be a sign, and others that cut nothing are one real

-- a character that is neither @, a sign nor a letter of an imaginary part, an infinity or a NaN
pub record Calm (c : ℕ) : Type 0 where
  pub at : c ≡ code "@" → ⊥
  pub plus : c ≡ code "+" → ⊥
  pub minus : c ≡ code "-" → ⊥
  pub i : c ≡ code "i" → ⊥
  pub n : c ≡ code "n" → ⊥
  pub big : c ≡ code "I" → ⊥
  pub large : c ≡ code "N" → ⊥
  pub ascii : c < 0x80

pub numeral_calm : (c : ℕ) → Numeral c → Calm c
numeral_calm c h =
    let l = h.0 in
    let u = h.1 in
    record {
      at = λ e. omega arith;
      plus = λ e. omega arith;
      minus = λ e. omega arith;
      i = λ e. omega arith;
      n = λ e. omega arith;
      big = λ e. omega arith;
      large = λ e. omega arith;
      ascii = omega arith;
    }

module _ (R p c : ℕ) (s : List ℕ) (l : c ≡ code "@" → ⊥) (u : c ≡ code "i" → ⊥) (h : All Calm s) where
  avoid : (b : ℕ) → ((d : ℕ) → Calm d → d ≡ b → ⊥) → Avoids b s
  avoid b f = all_map Calm (λ d. d ≡ b → ⊥) f s h

  one_part : complex R p (c ∷ s) ≡ rectangular R p (c ∷ s)
  unfolding complex
  one_part = simp (before_all (code "@") (c ∷ s) (l, avoid (code "@") (λ d n. n.at)), le-ltb (length (c ∷ s)) (length (c ∷ s)) (omega arith))

  uncut : rectangular R p (c ∷ s) ≡ alone_of R p (c ∷ s)
  unfolding rectangular
  uncut =
      simp (sign_all (starts_e (c ∷ s)) s (avoid (code "+") (λ d n. n.plus)) (avoid (code "-") (λ d n. n.minus)), le-ltb (1 + length s) (length (c ∷ s)) (omega arith))

  alone : alone_of R p (c ∷ s) ≡ just_of (real R p (c ∷ s))
  unfolding alone_of ends_i
  alone = simp (avoids_start (code "i") (length (c ∷ s) - 1) (c ∷ s) (u, avoid (code "i") (λ d n. n.i)))

  pub one_complex : complex R p (c ∷ s) ≡ just_of (real R p (c ∷ s))
  one_complex = one_part ∙ uncut ∙ alone

pub one_real : (c : ℕ) (s : List ℕ) → code "+" ≤ c → c ≤ code "9" → All Numeral s → parse_number (c ∷ s) ≡ judged (just_of (real 10 0 (c ∷ s)))
unfolding parse_number prefix
one_real c s l u h =
    simp (ne_eqb c (code "#") (λ e. omega arith))
    (ap judged (one_complex 10 0 c s (λ e. omega arith) (λ e. omega arith) (all_map Numeral Calm numeral_calm s h)))

-- ---- the real, and no zero denominator

abbrev pub Good : Option Real → Type 0
Good (Some r) = zero_real r ≡ false
Good None = ⊥

abbrev Harmless : Option Real → Type 0
Harmless (Some r) = zero_real r ≡ false
Harmless None = Unit {0}

or_good : (x y : Option Real) → Harmless x → Good y → Good (or_else x y)
unfolding or_else
or_good (Some r) y h g = h
or_good None y h g = g

good_or : (x y : Option Real) → Good x → Good (or_else x y)
unfolding or_else
good_or (Some r) y h = h
good_or None y h = absurd h

infnan_harmless : (s : List ℕ) → Harmless (infnan s)
unfolding infnan zero_real
infnan_harmless s =
    if_all Harmless (same s (codes "+inf.0")) refl
    (if_all Harmless (same s (codes "-inf.0")) refl
    (if_all Harmless (same s (codes "+nan.0")) refl (if_all Harmless (same s (codes "-nan.0")) refl tt)))

dotted_good : (neg : Bool) (p w q : ℕ) (s : List ℕ) → uinteger 10 s ≡ true → Good (dotted neg p w q s)
unfolding dotted suffix point_of zero_real
dotted_good neg p w q s h =
    simp (whole s h, ne_eqb (w + length s) 0 (λ e. omega (arith, some s h)), drop-length s) refl

-- ---- a rational: its parts are integers, and the denominator is not zero

abbrev Whole : Option Int → Type 0
Whole (Some n) = Unit {0}
Whole None = ⊥

abbrev Nonzero : Option Int → Type 0
Nonzero (Some n) = zero_int n ≡ false
Nonzero None = ⊥

rational_good : (n d : Option Int) → Whole n → Nonzero d → Good (rational_of n d)
unfolding rational_of zero_real
rational_good (Some n) (Some d) h g = g
rational_good (Some n) None h g = absurd g
rational_good None d h g = absurd h

whole_good : (neg : Bool) (p : ℕ) (s : List ℕ) → uinteger 10 s ≡ true → Whole (whole_of 10 neg p s)
unfolding whole_of
whole_good neg p s h = rw h tt

pub before_slash : (s : List ℕ) → starts (code "/") (drop (digits 10 s) s) ≡ true → before (code "/") s ≡ digits 10 s
unfolding span starts
before_slash [] h = refl
before_slash (c ∷ s) h = by_bool (ltb (digit_of c) 10)
    (λ e. let d = digit_is c e in simp (e, ne_eqb c (code "/") (λ q. omega arith)) (ap suc (before_slash s (rw (e, span) at h))))
    (λ e. let k : eqb c (code "/") ≡ true = rw (e, span) at h in simp (e, k))

front_digits : (s : List ℕ) → digits 10 (take (digits 10 s) s) ≡ length (take (digits 10 s) s)
unfolding span
front_digits [] = refl
front_digits (c ∷ s) = by_bool (ltb (digit_of c) 10) (λ e. simp e (ap suc (front_digits s))) (λ e. simp e)

front_uinteger : (s : List ℕ) → 0 < digits 10 s → uinteger 10 (take (digits 10 s) s) ≡ true
unfolding uinteger
front_uinteger s h =
    simp (lt-ltb 0 (length (take (digits 10 s) s)) (omega (arith, length-take-le (digits 10 s) s (span_le (λ c. ltb (digit_of c) 10) s))))
    (eq-eqb _ _ (front_digits s))

second : (s : List ℕ) → get_or s 1 0 ≡ get_or (drop 1 s) 0 0
second [] = refl
second (c ∷ s) = refl

denominator_good : (q : ℕ) (s : List ℕ) → uinteger 10 s ≡ true → code "0" < get_or s 0 0 → Nonzero (denominator 10 q s)
unfolding denominator integer sign starts value zero_int signed whole_of
denominator_good q [] h g = absurd (omega arith)
denominator_good q (c ∷ s) h g =
    let d = (uinteger-digits (c ∷ s) h).0 in
    let v : c - code "0" ≡ digit_of c = digit_decimal c (sym (digit_within c d)) in
    simp (ne_eqb c (code "+") (λ e. omega arith), ne_eqb c (code "-") (λ e. omega arith), h)
    (if_all (λ n. zero_int n ≡ false) (ltb (value 10 0 (c ∷ s)) (top false))
    (ne_eqb (value 10 (0 * 10 + digit_of c) s) 0 (λ e. omega (arith, value_ge 10 (omega arith) (0 * 10 + digit_of c) s))) refl)

module _ (neg : Bool) (p : ℕ) (s : List ℕ) where
  -- digits alone are no decimal, for want of a dot
  pub no_decimal_lem : uinteger 10 s ≡ true → decimal neg p s ≡ None
  unfolding decimal starts suffix undotted
  no_decimal_lem h = simp (whole s h, drop-length s)

  integer_good : uinteger 10 s ≡ true → Good (exact 10 neg p s)
  unfolding exact integral_of whole_of zero_real
  integer_good h =
      simp (before_all (code "/") s (uinteger_avoids s h), le-ltb (length s) (length s) (omega arith), h) refl

  pub decimal_good : fraction (drop (digits 10 s) s) ≡ true → Good (decimal neg p s)
  unfolding decimal
  decimal_good h =
      let n : ℕ = digits 10 s in
      let a = and_true (starts (code ".") (drop n s)) (uinteger 10 (drop 1 (drop n s))) h in
      rw a.0 (dotted_good neg p n (p + n + 1) (drop (n + 1) s) (ap (uinteger 10) (sym (drop-drop 1 n s)) ∙ a.1))

  -- digits and a slash are no decimal either
  pub ratio-decimal : ratio (drop (digits 10 s) s) ≡ true → decimal neg p s ≡ None
  unfolding decimal starts suffix undotted exponent_marker
  ratio-decimal h = at_slash (drop (digits 10 s) s) (and_true (starts (code "/") (drop (digits 10 s) s)) _ h).0
    where
      at_slash : (r : List ℕ) → starts (code "/") r ≡ true
          → (if starts (code ".") r then dotted neg p (digits 10 s) (p + digits 10 s + 1) (drop (digits 10 s + 1) s) else undotted neg p (digits 10 s) (suffix (p + digits 10 s) r)) ≡ None
      at_slash [] e = no_yes e
      at_slash (c ∷ r) e = rw (eqb-true c (code "/") e)

  ratio_good : 0 < digits 10 s → ratio (drop (digits 10 s) s) ≡ true → Good (exact 10 neg p s)
  unfolding exact
  ratio_good k h =
      let n : ℕ = digits 10 s in
      let a = and_true (starts (code "/") (drop n s)) (ltb (code "0") (get_or (drop n s) 1 0) && uinteger 10 (drop 1 (drop n s))) h in
      let b = and_true (ltb (code "0") (get_or (drop n s) 1 0)) (uinteger 10 (drop 1 (drop n s))) a.1 in
      simp (before_slash s a.0, lt-ltb n (length s) (starts_in (code "/") s n (sym a.0)))
      (rational_good (whole_of 10 neg p (take n s)) (denominator 10 (p + n + 1) (drop (n + 1) s)) (whole_good neg p (take n s) (front_uinteger s k))
      (rw (← drop-drop 1 n s) (denominator_good (p + n + 1) (drop 1 (drop n s)) b.1 (rw (second (drop n s)) at (ltb-true (code "0") (get_or (drop n s) 1 0) b.0)))))

  ureal_good : unsigned_plain s ≡ true → Good (ureal 10 neg p s)
  unfolding ureal
  ureal_good h =
      by_shape s h
      (λ e. or_good (decimal neg p s) (exact 10 neg p s) (rw (no_decimal_lem e) tt) (integer_good e))
      (λ e. good_or (decimal neg p s) (exact 10 neg p s) (decimal_good e))
      (λ k e. or_good (decimal neg p s) (exact 10 neg p s) (rw (ratio-decimal e) tt) (ratio_good k e))

pub real_good : (p : ℕ) (s : List ℕ) → plain s ≡ true → Good (real 10 p s)
unfolding real plain
real_good p s h = or_good (infnan s) (ureal 10 (negative s) (p + sign s) (drop (sign s) s)) (infnan_harmless s) (ureal_good (negative s) (p + sign s) (drop (sign s) s) h)

good_number : (x : Option Real) → Good x → (p : Parts) × (judged (just_of x) ≡ Ok p)
unfolding judged just_of zero_parts
good_number (Some r) h = (Just r, rw h)
good_number None h = absurd h

-- ---- the sign taken off

-- a first character, which may be a sign, and numerals
pub plain_first : (c : ℕ) (s : List ℕ) → plain (c ∷ s) ≡ true → (code "+" ≤ c) × (c ≤ code "9") × All Numeral s
unfolding plain sign
plain_first c s h = by_bool (eqb c (code "+"))
    (λ e. let d = eqb-true c (code "+") e in (omega arith, omega arith, plain_numerals s (rw (e, sign) at h)))
    (λ e. by_bool (eqb c (code "-"))
    (λ f. let d = eqb-true c (code "-") f in (omega arith, omega arith, plain_numerals s (simp (e, f) at h)))
    (λ f. let n = plain_numerals (c ∷ s) (simp (e, f) at h) in (omega arith, n.0.1, n.1)))

pub plain_some : plain [] ≡ false
unfolding plain sign uinteger starts span
plain_some = refl

pub plain_one : (s : List ℕ) → plain s ≡ true → parse_number s ≡ judged (just_of (real 10 0 s))
plain_one [] h = no_yes (sym plain_some ∙ h)
plain_one (c ∷ s) h = let n = plain_first c s h in one_real c s n.0 n.1 n.2

pub plain_is : (s : List ℕ) → plain s ≡ true → (p : Parts) × (parse_number s ≡ Ok p)
plain_is s h = let g = good_number (real 10 0 s) (real_good 0 s h) in (g.0, plain_one s h ∙ g.1)
