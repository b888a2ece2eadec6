-- The parts that are told of a brief number are its parts: its text is cut where they meet (BriefNumbers), no denominator is zero, and it is ASCII.
use Rattle.std.proofs.Common.{None, Option, Some, Ok}
use Rattle.digits.specs.declared.Int.{Int}
use Rattle.numbers.specs.declared.Real.{Real}
use Rattle.numbers.specs.declared.Parts.{Parts}
use Rattle.numbers.specs.declared.Parts.TheVariants.{Just, Complex, Polar}
use Rattle.numbers.specs.Brief.{plain_from, Briefly}
use Rattle.numbers.specs.Call.{parts, given, number}
use Rattle.numbers.specs.Grammar.{just_of, zero_real, zero_parts, judged, prefix, parse_number}
use Rattle.numbers.proofs.Ascii.{Ascii, ascii_good}
use Rattle.numbers.proofs.BriefNumbers.{unmarked, polar_ascii, complex_ascii, sign_there, sign_alone, markless, polar_parts, complex_parts}
use Rattle.numbers.proofs.Call.{served}
use Rattle.numbers.proofs.Cuts.{ends_here, cut_is, again_no}
use Rattle.numbers.proofs.Grammars.{rectangular_pair}
use Rattle.numbers.specs.Grammars.{bought_parts, bought_cutting}
use Rattle.numbers.proofs.Judged.{prefix_le, parse_ten, parse_radix}
use Rattle.numbers.proofs.Plain.{plain_one}
use Rattle.numbers.proofs.PlainReals.{plain_ascii, plain-told}
use Rattle.numbers.proofs.RadixNumbers.{prefixed_ascii, prefixed_complex}
use Rattle.numbers.specs.declared.Real.TheVariants.{Integer}
use Rattle.numbers.specs.AfterPlus.{is_real}
use Rattle.numbers.specs.Reals.{integral_of}
use Rattle.digits.specs.Digits.{sign, negative, whole_of}
use Rattle.laws.proofs.Choice.{yes_no}
use mathlib.Core.Logic.{inl, inr}
use Rattle.refusal.specs.Refusals.{limit}
use Rattle.laws.specs.Quoted.{code}
use Prim.Native.Nat.{ℕ, ◌+◌, ◌-◌, ◌≤◌}
use mathlib.Core.Path.{◌≡◌, refl, sym, ap, ◌∙◌}
use mathlib.Core.Bool.{false}
use mathlib.Core.List.{List}
use lib.ListN.{length, get_or, take, drop}
use native.Mathlib.Omega.{arith}
use borrow.Author.Tests.{eq-eqb}

areal_one : {a b : Real} → Some a ≡ Some b → a ≡ b
areal_one {a} {b} e = ap inner e
  where
    inner : Option Real → Real
    inner (Some r) = r
    inner None = a

-- one real, where it is there
pub briefly_just : (t : List ℕ) (x : Option Real) → x ≡ plain_from 0 t → Briefly t (just_of x)
unfolding just_of
briefly_just t (Some a) e = inl e
briefly_just t None e = tt

-- no denominator is zero
pub judged_is : (p : Parts) → zero_parts p ≡ false → Ok p ≡ judged (Some p)
unfolding judged
judged_is p h = simp h

integral_nonzero : (n : Option Int) (a : Real) → Some a ≡ integral_of n → zero_real a ≡ false
unfolding integral_of zero_real
integral_nonzero (Some n) a e = let f : a ≡ Integer n = areal_one e in rw f
integral_nonzero None a e = yes_no (ap is_real e)

pub nonzero : (t : List ℕ) (p : Parts) → Briefly t (Some p) → zero_parts p ≡ false
unfolding zero_parts
nonzero t (Just a) (inl h) = (plain-told 0 t a h).2
nonzero t (Just a) (inr h) = integral_nonzero (whole_of (prefix t) (negative (drop 2 t)) (2 + sign (drop 2 t)) (drop (2 + sign (drop 2 t)) t)) a h.2
nonzero t (Polar a b) h = simp (plain-told 0 (drop 0 (take h.0 t)) a h.3).2 (plain-told (h.0 + 1) (drop (h.0 + 1) t) b h.4).2
nonzero t (Complex a b) h =
    simp (plain-told 0 (drop 0 (take h.0 t)) a h.4).2 (plain-told h.0 (drop h.0 (take (length t - 1) t)) b h.5).2

-- all is ASCII
pub brief_ascii : (t : List ℕ) (p : Parts) → Briefly t (Some p) → Ascii t
brief_ascii t (Just a) (inl h) = plain_ascii t (plain-told 0 t a h).0
brief_ascii t (Just a) (inr h) = prefixed_ascii t (prefix_le t) h.0 h.1
brief_ascii t (Polar a b) h =
    polar_ascii t h.0 h.1 (plain-told 0 (drop 0 (take h.0 t)) a h.3).0 h.2 (plain-told (h.0 + 1) (drop (h.0 + 1) t) b h.4).0
brief_ascii t (Complex a b) h =
    complex_ascii t h.0 h.1 (plain-told 0 (drop 0 (take h.0 t)) a h.4).0 h.2 h.3
    (plain-told h.0 (drop h.0 (take (length t - 1) t)) b h.5).0

-- the parts by the bought reader
brief_parsed : (t : List ℕ) (p : Parts) → Briefly t (Some p) → Ok p ≡ parse_number t
unfolding just_of
brief_parsed t (Just a) (inl h) =
    let r = plain-told 0 t a h in judged_is (Just a) (nonzero t (Just a) (inl h)) ∙ ap (λ (x : Option Real). judged (just_of x)) r.1 ∙ sym (plain_one t r.0)
brief_parsed t (Just a) (inr h) =
    parse_radix t (prefix t) (Some (Just a)) (Ok (Just a)) refl (λ e. omega (arith, h.0)) (prefixed_complex t (Some a) (prefix_le t) h)
    (judged_is (Just a) (nonzero t (Just a) (inr h)))
brief_parsed t (Polar a b) h =
    let k = h.0 in
    let u = (plain-told 0 (drop 0 (take k t)) a h.3).0 in
    parse_ten t 0 (Some (Polar a b)) (Ok (Polar a b)) (unmarked t k h.1 u) refl
    (polar_parts bought_parts (λ q s e. refl) t k h.1 a b h.3 h.2 h.4) (judged_is (Polar a b) (nonzero t (Polar a b) h))
brief_parsed t (Complex a b) h =
    let k = h.0 in
    let u = (plain-told 0 (drop 0 (take k t)) a h.4).0 in
    let w = (plain-told k (drop k (take (length t - 1) t)) b h.5).0 in
    let l = h.1 in
    let e = sym (eq-eqb (get_or t (length t - 1) 0) (code "i") h.3) ∙ ends_here t k h.1 in
    parse_ten t 0 (Some (Complex a b)) (Ok (Complex a b)) (unmarked t k h.1 u) refl
    (complex_parts bought_parts (λ q s e. refl) t k h.1 a b h.4 h.2 h.3 h.5 e
    (λ r z. rectangular_pair bought_cutting 10 t 0 k
    (cut_is t 0 (omega arith) false (markless t k h.1 u h.2 h.3 w) k (sign_there t k h.1 u h.2 h.3 w)) h.1 r
    (again_no t 0 k (omega arith) _ refl (sign_alone t k h.1 u h.2 h.3 w)) z))
    (judged_is (Complex a b) (nonzero t (Complex a b) h))

pub brief_answer : (t : List ℕ) → length t ≤ limit → (p : Parts) → Briefly t (Some p) → parts p ≡ number t
brief_answer t l p h = ap given (brief_parsed t p h) ∙ sym (served t l (ascii_good t (brief_ascii t p h)))
