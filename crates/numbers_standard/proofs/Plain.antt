-- The plainest reals are read as by the bought reader: they have no letter, so that case does not matter, and no sign but the first. So are
-- brief numbers, which are cut at the same place.
use Rattle.std.proofs.Common.{None, Option, Some, Ok}
use Rattle.numbers.specs.declared.Real.{Real}
use Rattle.numbers.specs.declared.Parts.{Parts}
use Rattle.numbers.specs.declared.Parts.TheVariants.{Just, Complex, Polar}
use Rattle.numbers.specs.Brief.{Prefixed, Briefly}
use Rattle.numbers.specs.Reals.{integral_of}
use Rattle.numbers.proofs.Judged.{prefix_le}
use Rattle.numbers.proofs.RadixNumbers.{slashless, kept}
use Rattle.numbers.specs.Call.{parts, given}
use Rattle.numbers.specs.Grammar.{just_of, starts_e, judged, prefix}
use Rattle.numbers.specs.Plain.{ratio, unsigned_plain, plain}
use Rattle.numbers.specs.Reals as bought
use Rattle.numbers.proofs.Plain.{All, Numeral, Calm, numeral_calm, all_map, by_shape, uinteger_avoids, before_all, sign_all, no_decimal_lem, decimal_good, before_slash, plain_first, plain_some}
use Rattle.numbers.proofs.PlainReals.{first_good, plain-told}
use Rattle.numbers.proofs.Ascii.{ascii_good}
use Rattle.numbers.proofs.BriefNumbers.{unmarked, sign_there, markless, polar_parts, complex_parts}
use Rattle.numbers.proofs.BriefAnswers.{judged_is, nonzero, brief_ascii}
use Rattle.numbers_standard.specs.Reals.{infnan, ureal, real}
use Rattle.numbers_standard.specs.Reals as standard
use Rattle.numbers_standard.specs.Grammar.{ends_i, alone_of, joint, rectangular, complex, number_parts, parse_standard}
use Rattle.numbers_standard.specs.Call.{by_standard}
use Rattle.numbers_standard.proofs.Call.{parse_ten, parse_radix, served}
use Rattle.numbers_standard.proofs.Cuts.{ends_here, joint_other}
use Rattle.numbers.proofs.Grammars.{rectangular_pair}
use Rattle.numbers_standard.specs.Grammars.{standard_parts, standard_cutting}
use Rattle.numbers_standard.proofs.Letters.{lower_below}
use Rattle.refusal.specs.Refusals.{limit}
use Rattle.laws.specs.Letters.{lower, is_sign}
use Rattle.laws.specs.Quoted.{code, within}
use Rattle.laws.specs.Texts.{span, starts, same}
use Rattle.laws.proofs.Choice.{by_bool, and_true, and_no, no_yes}
use Rattle.laws.proofs.Compared.{starts_in}
use Rattle.digits.specs.Digits.{digits, sign, negative, uinteger, whole_of, integer}
use Prim.Native.Nat.{ℕ, zero, suc, ◌+◌, ◌-◌, ◌≤◌, ◌<◌}
use mathlib.Core.Path.{◌≡◌, refl, sym, ap, ◌∙◌}
use mathlib.Core.Bool.{Bool, true, false, not, ◌&&◌}
use mathlib.Core.Logic.{inl, inr}
use mathlib.Core.List.{List, [], ◌∷◌, map}
use lib.ListN.{length, get_or, take, drop}
use lib.Seq.{drop-drop}
use lib.Dec.{eqb, ltb}
use native.Mathlib.Omega.{arith}
use native.Mathlib.Nat.{add-zero}
use borrow.Author.Tests.{ne_eqb, eqb-true, lt-ltb, le-ltb, ltb-true}

-- ---- no letters

abbrev Low : ℕ → Type 0
Low c = c < code "A"

low_same : (s : List ℕ) → All Low s → map lower s ≡ s
low_same [] h = refl
low_same (c ∷ s) h = rw (sym (lower_below c h.0), low_same s h.1)

-- only i in either case is i in lower case, and so with n
lower_not : (b c : ℕ) → code "a" ≤ b → b ≤ code "z" → (c ≡ b → ⊥) → (c ≡ b - 32 → ⊥) → lower c ≡ b → ⊥
unfolding lower
lower_not b c l u n m e = by_bool (within (code "A") (code "Z") c)
    (λ h. let k : c + 32 ≡ b = rw h at e in m (omega arith))
    (λ h. let k : c ≡ b = rw h at e in n k)

calm_i : (c : ℕ) → (c ≡ code "i" → ⊥) → (c ≡ code "I" → ⊥) → lower c ≡ code "i" → ⊥
calm_i c n m = lower_not (code "i") c (omega arith) (omega arith) n m

lower_avoids : (k : ℕ) (s : List ℕ) → All (λ c. lower c ≡ code "i" → ⊥) s → starts (code "i") (map lower (drop k s)) ≡ false
unfolding starts
lower_avoids zero [] h = refl
lower_avoids (suc k) [] h = refl
lower_avoids zero (c ∷ s) h = ne_eqb (lower c) (code "i") h.0
lower_avoids (suc k) (c ∷ s) h = lower_avoids k s h.1

signless : (s : List ℕ) → All Calm s → span (λ c. not (is_sign c)) s ≡ length s
unfolding span is_sign
signless [] h = refl
signless (c ∷ s) h = simp (ne_eqb c (code "+") h.0.plus, ne_eqb c (code "-") h.0.minus) (ap suc (signless s h.1))

-- ---- a first character, which may be a sign, and others that cut nothing are one real

module _ (R p c : ℕ) (s : List ℕ) (l : c ≡ code "@" → ⊥) (u : c ≡ code "i" → ⊥) (w : c ≡ code "I" → ⊥) (h : All Calm s) where
  avoid : (b : ℕ) → ((d : ℕ) → Calm d → d ≡ b → ⊥) → All (λ d. d ≡ b → ⊥) s
  avoid b f = all_map Calm (λ d. d ≡ b → ⊥) f s h

  one_part : complex R p (c ∷ s) ≡ rectangular R p (c ∷ s)
  unfolding complex
  one_part = simp (before_all (code "@") (c ∷ s) (l, avoid (code "@") (λ d n. n.at)), le-ltb (length (c ∷ s)) (length (c ∷ s)) (omega arith))

  unjoined : joint R (c ∷ s) ≡ 1 + length s
  unfolding joint
  unjoined = by_bool (eqb R 16)
      (λ e. simp (e, signless s h))
      (λ e. simp (e, sign_all (starts_e (c ∷ s)) s (avoid (code "+") (λ d n. n.plus)) (avoid (code "-") (λ d n. n.minus))))

  uncut : rectangular R p (c ∷ s) ≡ alone_of R p (c ∷ s)
  unfolding rectangular
  uncut = simp (unjoined, le-ltb (1 + length s) (length (c ∷ s)) (omega arith))

  alone : alone_of R p (c ∷ s) ≡ just_of (real R p (c ∷ s))
  unfolding alone_of ends_i
  alone =
      simp (lower_avoids (length (c ∷ s) - 1) (c ∷ s) (calm_i c u w, all_map Calm (λ d. lower d ≡ code "i" → ⊥) (λ d n. calm_i d n.i n.big) s h))

  one_complex : complex R p (c ∷ s) ≡ just_of (real R p (c ∷ s))
  one_complex = one_part ∙ uncut ∙ alone

one_real : (c : ℕ) (s : List ℕ) → code "+" ≤ c → c ≤ code "9" → All Numeral s → parse_standard (c ∷ s) ≡ judged (just_of (real 10 0 (c ∷ s)))
unfolding parse_standard number_parts prefix
one_real c s l u h =
    simp (ne_eqb c (code "#") (λ e. omega arith))
    (ap judged (one_complex 10 0 c s (λ e. omega arith) (λ e. omega arith) (λ e. omega arith) (all_map Numeral Calm numeral_calm s h)))

low : (c : ℕ) (s : List ℕ) → c ≤ code "9" → All Numeral s → All Low (c ∷ s)
low c s u h = (omega arith, all_map Numeral Low (λ d n. let k = n.1 in omega arith) s h)

-- ---- the same real

-- a denominator that begins with a digit has no sign
unsigned_denominator : (q : ℕ) (s : List ℕ) → code "0" < get_or s 0 0 → whole_of 10 false q s ≡ bought.denominator 10 q s
unfolding bought.denominator integer sign starts
unsigned_denominator q [] h = absurd (omega arith)
unsigned_denominator q (c ∷ s) h = simp (ne_eqb c (code "+") (λ e. omega arith), ne_eqb c (code "-") (λ e. omega arith), add-zero)

module _ (neg : Bool) (p : ℕ) (s : List ℕ) where
  whole_same : uinteger 10 s ≡ true → standard.ratio 10 neg p s ≡ bought.exact 10 neg p s
  unfolding standard.ratio bought.exact
  whole_same h = simp (before_all (code "/") s (uinteger_avoids s h), le-ltb (length s) (length s) (omega arith))

  ratio_same : ratio (drop (digits 10 s) s) ≡ true → standard.ratio 10 neg p s ≡ bought.exact 10 neg p s
  unfolding standard.ratio bought.exact
  ratio_same h =
      let n : ℕ = digits 10 s in
      let a = and_true (starts (code "/") (drop n s)) (ltb (code "0") (get_or (drop n s) 1 0) && uinteger 10 (drop 1 (drop n s))) h in
      let b = and_true (ltb (code "0") (get_or (drop n s) 1 0)) (uinteger 10 (drop 1 (drop n s))) a.1 in
      simp (
        before_slash s a.0,
        lt-ltb n (length s) (starts_in (code "/") s n (sym a.0)),
        unsigned_denominator (p + n + 1) (drop (n + 1) s) (positive n (ltb-true (code "0") (get_or (drop n s) 1 0) b.0)),
      )
    where
      next : (r : List ℕ) → get_or r 1 0 ≡ get_or (drop 1 r) 0 0
      next [] = refl
      next (c ∷ r) = refl

      positive : (n : ℕ) → code "0" < get_or (drop n s) 1 0 → code "0" < get_or (drop (n + 1) s) 0 0
      positive n h = rw (sym (drop-drop 1 n s)) (rw (next (drop n s)) at h)

  ureal_same : unsigned_plain s ≡ true → ureal 10 neg p s ≡ bought.ureal 10 neg p s
  unfolding ureal bought.ureal
  ureal_same h =
      by_shape s h
      (λ e. rw (whole_same e))
      (λ e. first_good (bought.decimal neg p s) (standard.ratio 10 neg p s) (decimal_good neg p s e)
      ∙ sym (first_good (bought.decimal neg p s) (bought.exact 10 neg p s) (decimal_good neg p s e)))
      (λ _ e. rw (ratio_same e))

pub real_same : (p : ℕ) (s : List ℕ) → plain s ≡ true → real 10 p s ≡ bought.real 10 p s
unfolding real bought.real infnan plain
real_same p [] h = no_yes (sym plain_some ∙ h)
real_same p (c ∷ s) h =
    let n = plain_first c s h in
    rw (low_same (c ∷ s) (low c s n.1 n.2), ureal_same (negative (c ∷ s)) (p + sign (c ∷ s)) (drop (sign (c ∷ s)) (c ∷ s)) h)

plain_one : (s : List ℕ) → plain s ≡ true → parse_standard s ≡ judged (just_of (bought.real 10 0 s))
plain_one [] h = no_yes (sym plain_some ∙ h)
plain_one (c ∷ s) h =
    let n = plain_first c s h in one_real c s n.0 n.1 n.2 ∙ ap (λ (x : Option Real). judged (just_of x)) (real_same 0 (c ∷ s) h)

-- ---- an integer behind a prefix

ratio_digits : (R : ℕ) (r : R ≤ 16) (s : List ℕ) (h : uinteger R s ≡ true) (neg : Bool) (p : ℕ) → ureal R neg p s ≡ integral_of (whole_of R neg p s)
unfolding ureal standard.ratio bought.or_else
ratio_digits R r s h neg p =
    by_bool (eqb R 10)
    (λ e. let q = eqb-true R 10 e in simp (e, no_decimal_lem neg p s (ap (λ (n : ℕ). uinteger n s) (sym q) ∙ h), slashless R r s h, le-ltb (length s) (length s) (omega arith)))
    (λ e. simp (e, slashless R r s h, le-ltb (length s) (length s) (omega arith)))

kept_finite : (c : ℕ) (s : List ℕ) → All Calm s → infnan (c ∷ s) ≡ None
unfolding infnan bought.infnan same
kept_finite c [] h = simp and_no
kept_finite c (d ∷ s) h =
    simp (ne_eqb (lower d) (code "i") (calm_i d h.0.i h.0.big), ne_eqb (lower d) (code "n") (lower_not (code "n") d (omega arith) (omega arith) h.0.n h.0.large), and_no)

radix_complex : (R : ℕ) → R ≤ 16 → (s : List ℕ) → uinteger R (drop (sign s) s) ≡ true
    → complex R 2 s ≡ just_of (integral_of (whole_of R (negative s) (2 + sign s) (drop (sign s) s)))
unfolding real bought.or_else uinteger sign
radix_complex R r [] h = no_yes h
radix_complex R r (c ∷ s) h =
    let k = kept R r c s h in
    one_complex R 2 c s k.at k.i k.big k.rest
    ∙ ap just_of (simp (kept_finite c s k.rest, ratio_digits R r (drop (sign (c ∷ s)) (c ∷ s)) h (negative (c ∷ s)) (2 + sign (c ∷ s))))

prefixed_complex : (t : List ℕ) (x : Option Real) → prefix t ≤ 16 → Prefixed t x → just_of x ≡ complex (prefix t) 2 (drop 2 t)
prefixed_complex t x r h =
    let d = drop-drop (sign (drop 2 t)) 2 t in
    sym (radix_complex (prefix t) r (drop 2 t) (ap (uinteger (prefix t)) d ∙ h.1) ∙ ap just_of (simp d (sym h.2)))

-- ---- brief numbers: both grammars cut them at the same place

brief_parsed : (t : List ℕ) (p : Parts) → Briefly t (Some p) → Ok p ≡ parse_standard t
unfolding just_of lower within
brief_parsed t (Just a) (inl h) =
    let r = plain-told 0 t a h in judged_is (Just a) (nonzero t (Just a) (inl h)) ∙ ap (λ (x : Option Real). judged (just_of x)) r.1 ∙ sym (plain_one t r.0)
brief_parsed t (Just a) (inr h) =
    parse_radix t (prefix t) (Some (Just a)) (Ok (Just a)) refl (λ e. omega (arith, h.0)) (prefixed_complex t (Some a) (prefix_le t) h)
    (judged_is (Just a) (nonzero t (Just a) (inr h)))
brief_parsed t (Polar a b) h =
    let k = h.0 in
    let u = (plain-told 0 (drop 0 (take k t)) a h.3).0 in
    parse_ten t 0 (Some (Polar a b)) (Ok (Polar a b)) (unmarked t k h.1 u) refl
    (polar_parts standard_parts real_same t k h.1 a b h.3 h.2 h.4) (judged_is (Polar a b) (nonzero t (Polar a b) h))
brief_parsed t (Complex a b) h =
    let k = h.0 in
    let u = (plain-told 0 (drop 0 (take k t)) a h.4).0 in
    let w = (plain-told k (drop k (take (length t - 1) t)) b h.5).0 in
    let l = h.1 in
    let e = ends_here t k h.1 (code "i") (ap lower (sym h.3)) in
    let j = joint_other 10 t 0 k (λ q. omega arith) (omega arith) false (markless t k h.1 u h.2 h.3 w) (sign_there t k h.1 u h.2 h.3 w) in
    parse_ten t 0 (Some (Complex a b)) (Ok (Complex a b)) (unmarked t k h.1 u) refl
    (complex_parts standard_parts real_same t k h.1 a b h.4 h.2 h.3 h.5 e (λ r z. rectangular_pair standard_cutting 10 t 0 k j h.1 r refl z))
    (judged_is (Complex a b) (nonzero t (Complex a b) h))

pub brief_answer : (t : List ℕ) → length t ≤ limit → (p : Parts) → Briefly t (Some p) → parts p ≡ by_standard t
brief_answer t l p h = ap given (brief_parsed t p h) ∙ sym (served t l (ascii_good t (brief_ascii t p h)))
