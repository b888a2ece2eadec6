-- A decimal is a text of ASCII, so it has no bad sequence: each production passes digits, a sign, a dot or a marker.
use Rattle.numbers.specs.declared.Real.{Real}
use Rattle.std.proofs.Common.{◌≡◌, ℕ, suc, ◌+◌, ◌<◌, Bool, true, eqb, ltb, List, [], ◌∷◌, length, drop, sym, ◌∙◌, arith, drop-drop, eqb-true, None, Option, Some}
use Rattle.laws.specs.Quoted.{code}
use Rattle.laws.specs.Texts.{span, starts}
use Rattle.laws.proofs.Choice.{by_bool, if_all, if_is, within_is, impossible}
use Rattle.laws.proofs.Places.{past}
use Rattle.chars.specs.Utf8.{ascii, first_bad}
use Rattle.digits.specs.declared.Span.{Span}
use Rattle.digits.specs.Digits.{digit_of, digits, sign, negative, uinteger, span_at}
use Rattle.digits.proofs.Digits.{decimal_digit}
use Rattle.numbers.specs.declared.Point.{Point}
use Rattle.numbers.specs.declared.Real.TheVariants.{Integer, Rational, Decimal, PosInf, NegInf, PosNan, NegNan, ImpliedZero, ImpliedOne}
use Rattle.numbers.specs.declared.Suffix.{Suffix}
use Rattle.numbers.specs.declared.Suffix.TheVariants.{Empty, Marked, Bad}
use Rattle.numbers.specs.Reals.{exponent_marker, exponent, suffix, point_of, dotted, undotted, decimal, point_in, one_decimal}
use Rattle.numbers.proofs.Ascii.{Ascii, ascii_good}
use Rattle.coordinates.specs.Values.{is_whole}

-- P, where there is a suffix, a real, a decimal
abbrev IfSuffix : Type 0 → Suffix → Type 0
IfSuffix P Empty = P
IfSuffix P (Marked e) = P
IfSuffix P Bad = Unit {0}

abbrev IfReal : Type 0 → Option Real → Type 0
IfReal P (Some r) = P
IfReal P None = Unit {0}

abbrev IfPoint : Type 0 → Option Point → Type 0
IfPoint P (Some d) = P
IfPoint P None = Unit {0}

-- what is passed is ASCII
digits_ascii : (s : List ℕ) → Ascii (drop (digits 10 s) s) → Ascii s
unfolding span
digits_ascii [] h = tt
digits_ascii (c ∷ s) h =
    by_bool (ltb (digit_of c) 10)
    (λ e. let r = within_is (code "0") (code "9") c (sym (decimal_digit c) ∙ e) in (omega arith, digits_ascii s (rw e at h)))
    (λ e. rw e at h)

sign_ascii : (s : List ℕ) → Ascii (drop (sign s) s) → Ascii s
unfolding sign
sign_ascii [] h = tt
sign_ascii (c ∷ s) h =
    by_bool (eqb c (code "+"))
    (λ e. let k = eqb-true c (code "+") e in (omega arith, rw e at h))
    (λ e. by_bool (eqb c (code "-"))
    (λ f. let k = eqb-true c (code "-") f in (omega arith, rw (e, f) at h))
    (λ f. rw (e, f) at h))

starts_ascii : (b : ℕ) (s : List ℕ) → b < 0x80 → starts b s ≡ true → Ascii (drop 1 s) → Ascii s
unfolding starts
starts_ascii b [] l e h = tt
starts_ascii b (c ∷ s) l e h = let k = eqb-true c b e in (omega arith, h)

-- a text of digits alone
uinteger_ascii : (s : List ℕ) → uinteger 10 s ≡ true → Ascii s
unfolding uinteger
uinteger_ascii s e =
    by_bool (ltb 0 (length s))
    (λ f. let k = eqb-true (digits 10 s) (length s) (rw f at e) in digits_ascii s (rw (past s (digits 10 s) (omega arith)) tt))
    (λ f. absurd (let g = rw f at e in impossible cc))

marker_ascii : (c : ℕ) → exponent_marker c ≡ true → c < 0x80
unfolding exponent_marker
marker_ascii c e =
    by_bool (eqb c (code "e"))
    (λ f. let k = eqb-true c (code "e") f in omega arith)
    (λ f. let k = eqb-true c (code "E") (rw f at e) in omega arith)

-- the productions
exponent_ascii : (p : ℕ) (s : List ℕ) → IfSuffix (Ascii s) (exponent p s)
unfolding exponent
exponent_ascii p s =
    if_is (IfSuffix (Ascii s)) (uinteger 10 (drop (sign s) s)) (λ e. sign_ascii s (uinteger_ascii (drop (sign s) s) e)) (λ _. tt)

suffix_after : (P Q : Type 0) (x : Suffix) → (P → Q) → IfSuffix P x → IfSuffix Q x
suffix_after P Q Empty f h = f h
suffix_after P Q (Marked e) f h = f h
suffix_after P Q Bad f h = tt

suffix_ascii : (p : ℕ) (s : List ℕ) → IfSuffix (Ascii s) (suffix p s)
unfolding suffix
suffix_ascii p [] = tt
suffix_ascii p (c ∷ s) =
    if_is (IfSuffix (Ascii (c ∷ s))) (exponent_marker c)
    (λ e. suffix_after (Ascii s) (Ascii (c ∷ s)) (exponent (p + 1) s) (λ h. (marker_ascii c e, h)) (exponent_ascii (p + 1) s))
    (λ _. tt)

point_if : (P : Type 0) (neg : Bool) (w f : Span) (x : Suffix) → IfSuffix P x → IfReal P (point_of neg w f x)
unfolding point_of
point_if P neg w f Empty h = h
point_if P neg w f (Marked e) h = h
point_if P neg w f Bad h = tt

undotted_if : (P : Type 0) (neg : Bool) (p w : ℕ) (x : Suffix) → IfSuffix P x → IfReal P (undotted neg p w x)
unfolding undotted
undotted_if P neg p w Empty h = tt
undotted_if P neg p w Bad h = tt
undotted_if P neg p w (Marked e) h =
    if_all (IfReal P) (eqb w 0) tt (point_if P neg (span_at p w) (record { start = p + w; end = p + w }) (Marked e) h)

-- digits and what follows them
run_suffix : (p : ℕ) (s : List ℕ) → IfSuffix (Ascii s) (suffix (p + digits 10 s) (drop (digits 10 s) s))
run_suffix p s =
    suffix_after (Ascii (drop (digits 10 s) s)) (Ascii s) (suffix (p + digits 10 s) (drop (digits 10 s) s)) (digits_ascii s)
    (suffix_ascii (p + digits 10 s) (drop (digits 10 s) s))

dotted_ascii : (neg : Bool) (p w q : ℕ) (s : List ℕ) → IfReal (Ascii s) (dotted neg p w q s)
unfolding dotted
dotted_ascii neg p w q s =
    if_all (IfReal (Ascii s)) (eqb (w + digits 10 s) 0) tt
    (point_if (Ascii s) neg (span_at p w) (span_at q (digits 10 s)) (suffix (q + digits 10 s) (drop (digits 10 s) s)) (run_suffix q s))

real_after : (P Q : Type 0) (x : Option Real) → (P → Q) → IfReal P x → IfReal Q x
real_after P Q (Some r) f h = f h
real_after P Q None f h = tt

decimal_ascii : (neg : Bool) (p : ℕ) (s : List ℕ) → IfReal (Ascii s) (decimal neg p s)
unfolding decimal
decimal_ascii neg p s =
    let n = digits 10 s in
    if_is (IfReal (Ascii s)) (starts (code ".") (drop n s))
    (λ e. real_after (Ascii (drop (n + 1) s)) (Ascii s) (dotted neg p n (p + n + 1) (drop (n + 1) s))
    (λ h. digits_ascii s (starts_ascii (code ".") (drop n s) (omega arith) e (rw (drop-drop 1 n s) h)))
    (dotted_ascii neg p n (p + n + 1) (drop (n + 1) s)))
    (λ _. undotted_if (Ascii s) neg p n (suffix (p + n) (drop n s)) (run_suffix p s))

told_if_lem : (P : Type 0) (r : Option Real) → IfReal P r → IfPoint P (point_in r)
unfolding point_in
told_if_lem P (Some (Integer a)) h = tt
told_if_lem P (Some (Rational a b)) h = tt
told_if_lem P (Some (Decimal d)) h = h
told_if_lem P (Some PosInf) h = tt
told_if_lem P (Some NegInf) h = tt
told_if_lem P (Some PosNan) h = tt
told_if_lem P (Some NegNan) h = tt
told_if_lem P (Some ImpliedZero) h = tt
told_if_lem P (Some (ImpliedOne neg)) h = tt
told_if_lem P None h = tt

one_decimal_ascii : (s : List ℕ) → IfPoint (Ascii s) (one_decimal s)
unfolding one_decimal
one_decimal_ascii s =
    told_if_lem (Ascii s) (decimal (negative s) (sign s) (drop (sign s) s))
    (real_after (Ascii (drop (sign s) s)) (Ascii s) (decimal (negative s) (sign s) (drop (sign s) s)) (sign_ascii s)
    (decimal_ascii (negative s) (sign s) (drop (sign s) s)))

-- so a decimal is UTF-8
pub decimal_good : (s : List ℕ) (d : Point) → one_decimal s ≡ Some d → first_bad s ≡ None
decimal_good s d e = ascii_good s (rw e at (one_decimal_ascii s))

-- so has an integer none
pub whole_good : (s : List ℕ) → is_whole s ≡ true → first_bad s ≡ None
unfolding is_whole
whole_good s e = ascii_good s (sign_ascii s (uinteger_ascii (drop (sign s) s) e))

-- and a text that is passed to its end as ASCII
spanned : (s : List ℕ) → span ascii s ≡ length s → Ascii s
unfolding span
spanned [] e = tt
spanned (c ∷ s) e =
    by_bool (ascii c)
    (λ f. let r = within_is 0x00 0x7F c f in let g : suc (span ascii s) ≡ suc (length s) = rw f at e in
    (omega arith, spanned s (omega arith)))
    (λ f. absurd (let g : 0 ≡ suc (length s) = rw f at e in omega arith))

pub ascii_whole : (s : List ℕ) → true ≡ eqb (span ascii s) (length s) → None ≡ first_bad s
ascii_whole s e = sym (ascii_good s (spanned s (eqb-true (span ascii s) (length s) (sym e))))
