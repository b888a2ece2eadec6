-- An integer after a prefix: a sign and digits of the radix cut nothing and are no infinity, so that they are one real, an integer.
use Rattle.numbers.specs.declared.Real.{Real}
use Rattle.numbers.specs.declared.Real.TheVariants.{Integer}
use Rattle.numbers.specs.Brief.{Prefixed}
use Rattle.numbers.specs.Grammar.{just_of, complex, radix_mark, prefix}
use Rattle.numbers.specs.Reals.{infnan, integral_of, exact, or_else, ureal, real}
use Rattle.numbers.proofs.Ascii.{Ascii}
use Rattle.numbers.proofs.Plain.{All, all_map, Calm, before_all, no_decimal_lem, one_complex}
use Rattle.std.specs.Prelude.{None, Option, Some}
use Rattle.laws.specs.Quoted.{code, within}
use Rattle.laws.specs.Texts.{span, before, same}
use Rattle.laws.proofs.Choice.{by_bool, and_no, no_yes}
use Rattle.digits.specs.declared.Int.TheVariants.{Small}
use Rattle.digits.specs.Digits.{digit_of, digits, sign, negative, uinteger, value, signed, top, whole_of}
use Rattle.digits.proofs.Integers.{fit_fits, top_le, whole_small}
use Rattle.digits.proofs.Digits.{digit_all, uinteger_run}
use Rattle.laws.proofs.Runs.{span_le}
use lib.IntN.{ℤ}
use mir.Syntax.{w64}
use mir.Val.{to_z, of_z}
use Prim.Native.Nat.{ℕ, suc, ◌+◌, ◌≤◌, ◌<◌}
use mathlib.Core.Path.{◌≡◌, refl, sym, ap, ◌∙◌}
use mathlib.Core.Bool.{Bool, true}
use mathlib.Core.List.{List, [], ◌∷◌}
use lib.ListN.{length, drop, length-drop}
use lib.Seq.{drop-drop}
use lib.Dec.{eqb, ltb}
use native.Mathlib.Omega.{arith}
use borrow.Author.Tests.{eq-eqb, ne_eqb, eqb-true, lt-ltb, le-ltb, ltb-true, ltb-false}

-- ---- digits of a radix

abbrev Hex : ℕ → Type 0
Hex c = digit_of c < 16

hex_not : (b c : ℕ) → digit_of b ≡ 16 → Hex c → c ≡ b → ⊥
hex_not b c n h e = let k : digit_of b < 16 = rw e at h in omega arith

hex_calm : (c : ℕ) → Hex c → Calm c
unfolding digit_of within
hex_calm c h =
    record {
      at = hex_not (code "@") c refl h;
      plus = hex_not (code "+") c refl h;
      minus = hex_not (code "-") c refl h;
      i = hex_not (code "i") c refl h;
      n = hex_not (code "n") c refl h;
      big = hex_not (code "I") c refl h;
      large = hex_not (code "N") c refl h;
      ascii =
          digit_all c (λ d. d < 16 → c < 0x80) (λ r k. let u = r.1 in omega arith) (λ r k. let u = r.1 in omega arith) (λ r k. let u = r.1 in omega arith)
          (λ k. absurd (omega arith)) h;
    }

run_all : (R : ℕ) (s : List ℕ) → R ≤ 16 → digits R s ≡ length s → All Hex s
unfolding span
run_all R [] r h = tt
run_all R (c ∷ s) r h = by_bool (ltb (digit_of c) R)
    (λ e. let k : suc (digits R s) ≡ suc (length s) = rw (e, span) at h in
    let l = ltb-true (digit_of c) R e in (omega arith, run_all R s r (omega arith)))
    (λ e. let k : 0 ≡ suc (length s) = rw (e, span) at h in absurd (omega arith))

module _ (R : ℕ) (r : R ≤ 16) (s : List ℕ) (h : uinteger R s ≡ true) where
  some : 0 < length s
  unfolding uinteger
  some = by_bool (ltb 0 (length s)) (λ e. ltb-true _ _ e) (λ e. no_yes (rw e at h))

  uinteger_hex : All Hex s
  unfolding uinteger
  uinteger_hex = run_all R s r (eqb-true _ _ (rw (lt-ltb 0 (length s) some) at h))

  pub slashless : before (code "/") s ≡ length s
  unfolding digit_of within
  slashless = before_all (code "/") s (all_map Hex (λ c. c ≡ code "/" → ⊥) (λ c k. hex_not (code "/") c refl k) s uinteger_hex)

  -- digits alone are an integer
  pub ureal_digits : (neg : Bool) (p : ℕ) → ureal R neg p s ≡ integral_of (whole_of R neg p s)
  unfolding ureal exact or_else
  ureal_digits neg p =
      by_bool (eqb R 10)
      (λ e. let q = eqb-true R 10 e in simp (e, no_decimal_lem neg p s (ap (λ (n : ℕ). uinteger n s) (sym q) ∙ h), slashless, le-ltb (length s) (length s) (omega arith)))
      (λ e. simp (e, slashless, le-ltb (length s) (length s) (omega arith)))

-- ---- a sign and digits

pub record Kept (c : ℕ) (s : List ℕ) : Type 0 where
  pub at : c ≡ code "@" → ⊥
  pub i : c ≡ code "i" → ⊥
  pub big : c ≡ code "I" → ⊥
  pub ascii : c < 0x80
  pub rest : All Calm s

signed_kept : (R : ℕ) → R ≤ 16 → (c : ℕ) (s : List ℕ) → c ≤ code "-" → uinteger R s ≡ true → Kept c s
signed_kept R r c s l h =
    record {
      at = λ e. omega arith;
      i = λ e. omega arith;
      big = λ e. omega arith;
      ascii = omega arith;
      rest = all_map Hex Calm hex_calm s (uinteger_hex R r s h);
    }

pub kept : (R : ℕ) → R ≤ 16 → (c : ℕ) (s : List ℕ) → uinteger R (drop (sign (c ∷ s)) (c ∷ s)) ≡ true → Kept c s
unfolding sign
kept R r c s h = by_bool (eqb c (code "+"))
    (λ e. let d = eqb-true c (code "+") e in signed_kept R r c s (omega arith) (rw (e, sign) at h))
    (λ e. by_bool (eqb c (code "-"))
    (λ f. let d = eqb-true c (code "-") f in signed_kept R r c s (omega arith) (simp (e, f) at h))
    (λ f. let x = uinteger_hex R r (c ∷ s) (simp (e, f) at h) in
    let m = hex_calm c x.0 in
    record { at = m.at; i = m.i; big = m.big; ascii = m.ascii; rest = all_map Hex Calm hex_calm s x.1 }))

pub kept_finite : (c : ℕ) (s : List ℕ) → All Calm s → infnan (c ∷ s) ≡ None
unfolding infnan same
kept_finite c [] h = simp and_no
kept_finite c (d ∷ s) h = simp (ne_eqb d (code "i") h.0.i, ne_eqb d (code "n") h.0.n, and_no)

-- ---- behind a prefix

all_ascii : (s : List ℕ) → All Calm s → Ascii s
all_ascii [] h = tt
all_ascii (c ∷ s) h = (h.0.ascii, all_ascii s h.1)

kept_ascii : (R : ℕ) → R ≤ 16 → (s : List ℕ) → uinteger R (drop (sign s) s) ≡ true → Ascii s
kept_ascii R r [] h = tt
kept_ascii R r (c ∷ s) h = let k = kept R r c s h in (k.ascii, all_ascii s k.rest)

mark_ascii : (c : ℕ) → 0 < radix_mark c → c < 0x80
unfolding radix_mark
mark_ascii c h = by_bool (ltb c 0x80)
    (λ e. ltb-true c 0x80 e)
    (λ e. let l = ltb-false c 0x80 e in
    let z : radix_mark c ≡ 0 = simp (
      ne_eqb c (code "x") (λ q. omega arith),
      ne_eqb c (code "X") (λ q. omega arith),
      ne_eqb c (code "d") (λ q. omega arith),
      ne_eqb c (code "D") (λ q. omega arith),
      ne_eqb c (code "o") (λ q. omega arith),
      ne_eqb c (code "O") (λ q. omega arith),
      ne_eqb c (code "b") (λ q. omega arith),
      ne_eqb c (code "B") (λ q. omega arith),
    ) in absurd (omega arith))

pub prefixed_ascii : (t : List ℕ) → prefix t ≤ 16 → 0 < prefix t → uinteger (prefix t) (drop (2 + sign (drop 2 t)) t) ≡ true → Ascii t
unfolding prefix radix_mark
prefixed_ascii [] r h u = tt
prefixed_ascii (x ∷ []) r h u = by_bool (eqb x (code "#"))
    (λ e. let d = eqb-true x (code "#") e in (omega arith, tt))
    (λ e. let k : 0 < 0 = simp e at h in absurd (omega arith))
prefixed_ascii (x ∷ y ∷ s) r h u = by_bool (eqb x (code "#"))
    (λ e. let d = eqb-true x (code "#") e in
    let k : 0 < radix_mark y = simp e at h in
    (omega arith, (mark_ascii y k, kept_ascii (prefix (x ∷ y ∷ s)) r s (ap (uinteger (prefix (x ∷ y ∷ s))) (drop-drop (sign s) 2 (x ∷ y ∷ s)) ∙ u))))
    (λ e. let k : 0 < 0 = simp e at h in absurd (omega arith))

radix_complex : (R : ℕ) → R ≤ 16 → (s : List ℕ) → uinteger R (drop (sign s) s) ≡ true
    → complex R 2 s ≡ just_of (integral_of (whole_of R (negative s) (2 + sign s) (drop (sign s) s)))
unfolding real or_else uinteger sign
radix_complex R r [] h = no_yes h
radix_complex R r (c ∷ s) h =
    let k = kept R r c s h in
    one_complex R 2 c s k.at k.i k.rest
    ∙ ap just_of (simp (kept_finite c s k.rest, ureal_digits R r (drop (sign (c ∷ s)) (c ∷ s)) h (negative (c ∷ s)) (2 + sign (c ∷ s))))

pub prefixed_complex : (t : List ℕ) (x : Option Real) → prefix t ≤ 16 → Prefixed t x → just_of x ≡ complex (prefix t) 2 (drop 2 t)
prefixed_complex t x r h =
    let d = drop-drop (sign (drop 2 t)) 2 t in
    sym (radix_complex (prefix t) r (drop 2 t) (ap (uinteger (prefix t)) d ∙ h.1) ∙ ap just_of (simp d (sym h.2)))

pub run_end_in : (R : ℕ) (t : List ℕ) (p e : ℕ) → e ≡ p + digits R (drop p t) → p < length t → e ≤ length t
run_end_in R t p e h l = omega (arith, span_le (λ x. ltb (digit_of x) R) (drop p t), length-drop p t)

-- what the code finds: the radix R, the sign's end p and the digits' e, and their value m
pub prefixed_told : (t : List ℕ) (R p : ℕ) (neg : Bool) (e m : ℕ) (z : ℤ) → R ≡ prefix t → (R ≡ 0 → ⊥) → neg ≡ negative (drop 2 t)
    → p ≡ 2 + sign (drop 2 t) → e ≡ p + digits R (drop p t) → p < length t → length t ≤ e → m ≡ value R 0 (drop p t) → m < top neg → z ≡ signed neg m
    → Prefixed t (Some (Integer (Small (to_z w64 (of_z w64 z)))))
unfolding integral_of
prefixed_told t R p neg e m z a n b c d i f v l s =
    let last : e ≡ length t = omega (arith, span_le (λ x. ltb (digit_of x) R) (drop p t), length-drop p t) in
    let u = sym (eq-eqb e (length t) last) ∙ uinteger_run R t p e i d in
    let w = whole_small R neg p t u m z (rw v (fit_fits (value R 0 (drop p t)) (omega (arith, top_le neg)))) l s in
    let x : (0 < R) × (uinteger R (drop p t) ≡ true) × (Some (Integer (Small (to_z w64 (of_z w64 z)))) ≡ integral_of (whole_of R neg p (drop p t)))
    = (positive n, sym u, ap integral_of w) in
    simp (a, b, c) at x
  where
    positive : {k : ℕ} → (k ≡ 0 → ⊥) → 0 < k
    positive {k} h = by_bool (ltb 0 k) (λ q. ltb-true 0 k q) (λ q. absurd (h (omega (arith, ltb-false 0 k q))))
