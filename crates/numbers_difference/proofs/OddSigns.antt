-- Signs after an odd number of e's, and where the bought reader's cut would stop.
use mathlib.Core.Bool.{Bool, false, true}
use mathlib.Core.List.{List, [], ◌++◌, ◌∷◌, append_assoc}
use Prim.Native.Nat.{◌+◌, ◌<◌, ◌≤◌, suc, ℕ}
use mathlib.Core.Path.{◌∙◌, ◌≡◌, ap, refl, sym}
use native.Mathlib.Omega.{arith}
use lib.ListN.{drop, length, length-append, take}
use lib.Dec.{eqb, lit≤}
use Rattle.numbers.specs.declared.Real.{Real}
use Rattle.laws.proofs.Choice.{by_bool, yes_no}
use Rattle.laws.specs.Quoted.{code}
use Rattle.numbers.specs.Grammar.{cut, starts_e, to_sign}
use Rattle.numbers.specs.Reals.{exponent_marker}
use Rattle.laws.specs.Letters.{is_sign}
use Rattle.laws.specs.Texts.{span}
use Rattle.numbers_difference.specs.R7rs.{ImaginaryAt, Infnan, RealAt, URealAt}
use Rattle.numbers_difference.specs.Productions.{Sign}
use Rattle.numbers_difference.specs.Conditions.{SignedBelow, odd_e, sign_after, sign_after_odd_e, somewhere}
use Rattle.numbers_difference.proofs.Runs.{all, all_append, all_cons, all_imp, span_whole, uint_digits, uint_pos}
use Rattle.numbers_difference.proofs.Walk.{all_nil, free, free_digits, infnan_quiet, marks, quiet, quiet-free}
use Rattle.numbers_difference.proofs.Somewhere.{reset_join, some_none}

-- where the bought reader's cut would stop
below_walk : (f : Bool) (x : List ℕ) (c : ℕ) (z : List ℕ) → is_sign c ≡ true → to_sign f (x ++ code "/" ∷ c ∷ z) ≤ length x + 1
unfolding to_sign is_sign exponent_marker
below_walk true [] c z e = by_bool (eqb c (code "+")) (λ g. rw g (lit≤ tt)) (λ g. by_bool (eqb c (code "-")) (λ h. rw (g, h) (lit≤ tt)) (λ h. yes_no (sym (rw (g, h) at e))))
below_walk false [] c z e = by_bool (eqb c (code "+")) (λ g. rw g (lit≤ tt)) (λ g. by_bool (eqb c (code "-")) (λ h. rw (g, h) (lit≤ tt)) (λ h. yes_no (sym (rw (g, h) at e))))
below_walk true (d ∷ x) c z e = omega (arith, below_walk false x c z e)
below_walk false (d ∷ x) c z e =
    let r = below_walk (exponent_marker d) x c z e in
    by_bool (eqb d (code "+")) (λ g. rw g (omega arith)) (λ g. by_bool (eqb d (code "-")) (λ h. rw (g, h) (omega arith)) (λ h. rw (g, h) (omega (arith, r))))

cut_below : (w : List ℕ) (c : ℕ) (z : List ℕ) → 0 < length w → is_sign c ≡ true → cut (w ++ code "/" ∷ c ∷ z) ≤ length w + 1
cut_below [] c z h e = absurd (omega arith)
cut_below (d ∷ x) c z h e = omega (arith, below_walk (starts_e (d ∷ (x ++ code "/" ∷ c ∷ z))) x c z e)

pub below_cut : {R : ℕ} {s : List ℕ} (y : List ℕ) → SignedBelow R s → cut (s ++ y) < length s
below_cut {R} y (SignedBelow.ratio {g = g} {a = a} {b = b} z u c e v) =
    let q : g ++ (a ++ code "/" ∷ c ∷ b) ++ y ≡ g ++ a ++ code "/" ∷ c ∷ (b ++ y) = simp append_assoc in
    let k : cut (g ++ a ++ code "/" ∷ c ∷ (b ++ y)) ≤ length (g ++ a) + 1 = cut_below (g ++ a) c (b ++ y) (omega (arith, length-append g a, uint_pos u)) e in
    rw q (omega (arith, length-append g a, length-append g (a ++ code "/" ∷ c ∷ b), length-append a (code "/" ∷ c ∷ b)))

-- signs after an odd number of e's, in radix 16
free_odd : (f : Bool) (s : List ℕ) → all free s ≡ true → sign_after_odd_e f s ≡ false
unfolding sign_after
free_odd f s h = some_none sign_after odd_e free go f s h
  where
    go : (f : Bool) (c : ℕ) → free c ≡ true → sign_after f c ≡ false
    go true c e = by_bool (is_sign c) (λ q. yes_no (sym (rw q at e))) (λ q. q)
    go false c e = refl

tail_odd : (c : ℕ) (t : List ℕ) → all free t ≡ true → sign_after_odd_e false (c ∷ t) ≡ false
unfolding somewhere sign_after
tail_odd c t h = free_odd (odd_e false c) t h

hex_free : {R : ℕ} {neg : Bool} {p : ℕ} {s : List ℕ} {r : Real} → R ≡ 16 → URealAt R neg p s r → all free s ≡ true
hex_free h (URealAt.integer u) = free_digits (omega arith) (uint_digits u)
hex_free h (URealAt.rational {a = a} {b = b} u v) = all_append free a
    (code "/" ∷ b) (free_digits (omega arith) (uint_digits u)) (all_cons free (code "/") b marks.2 (free_digits (omega arith) (uint_digits v)))
hex_free h (URealAt.decimal e d) = absurd (omega arith)

infnan_odd : {s : List ℕ} {r : Real} → Infnan s r → sign_after_odd_e false s ≡ false
infnan_odd i = let q = infnan_quiet i in rw q.2 (tail_odd q.0 q.1 (all_imp quiet free quiet-free q.1 q.4))

signed_odd : {g : List ℕ} {n : Bool} (s : List ℕ) → Sign g n → all free s ≡ true → sign_after_odd_e false (g ++ s) ≡ false
signed_odd s Sign.empty h = free_odd false s h
signed_odd s Sign.positive h = tail_odd (code "+") s h
signed_odd s Sign.negative h = tail_odd (code "-") s h

pub real_odd : {R p : ℕ} {s : List ℕ} {r : Real} → R ≡ 16 → RealAt R p s r → sign_after_odd_e false s ≡ false
real_odd h (RealAt.ureal {s = s} z u) = signed_odd s z (hex_free h u)
real_odd h (RealAt.infnan i) = infnan_odd i

pub imaginary_odd : {R p : ℕ} {s : List ℕ} {r : Real} → R ≡ 16 → ImaginaryAt R p s r → sign_after_odd_e false s ≡ false
imaginary_odd h (ImaginaryAt.positive {s = s} u) = tail_odd (code "+") s (hex_free h u)
imaginary_odd h (ImaginaryAt.negative {s = s} u) = tail_odd (code "-") s (hex_free h u)
imaginary_odd h (ImaginaryAt.infnan i) = infnan_odd i
imaginary_odd h ImaginaryAt.one = tail_odd (code "+") [] (all_nil free)
imaginary_odd h ImaginaryAt.minus_one = tail_odd (code "-") [] (all_nil free)

pub odd_hit : (x : ℕ) → is_sign x ≡ false → (f : Bool) → sign_after f x ≡ false
unfolding sign_after
odd_hit x h true = h
odd_hit x h false = refl

pub odd_next : (x : ℕ) → exponent_marker x ≡ false → (f : Bool) → odd_e f x ≡ false
unfolding odd_e exponent_marker
odd_next x h true = refl
odd_next x h false = h

pub mark_facts : (is_sign (code "/") ≡ false) × (exponent_marker (code "/") ≡ false)
    × (is_sign (code "@") ≡ false) × (exponent_marker (code "@") ≡ false) × (is_sign (code "i") ≡ false) × (exponent_marker (code "i") ≡ false)
unfolding is_sign exponent_marker
mark_facts = (refl, refl, refl, refl, refl, refl)

pub below_odd : {R : ℕ} {s : List ℕ} → R ≡ 16 → SignedBelow R s → sign_after_odd_e false s ≡ false
below_odd {R} h (SignedBelow.ratio {g = g} {a = a} {b = b} z u c e v) =
    let q : g ++ (a ++ code "/" ∷ c ∷ b) ≡ g ++ a ++ code "/" ∷ c ∷ b = sym (append_assoc g a (code "/" ∷ c ∷ b)) in
    rw q (reset_join sign_after odd_e (code "/") (odd_hit (code "/") mark_facts.0) (odd_next (code "/") mark_facts.1) false (g ++ a) (c ∷ b)
    (signed_odd a z (free_digits (omega arith) (uint_digits u))) (tail_odd c b (free_digits (omega arith) (uint_digits v))))

-- where the walk stops, it remembers nothing
pub to_sign_odd : (f : Bool) (s : List ℕ) → to_sign f s < length s
    → sign_after_odd_e f (take (to_sign f s) s) ≡ false → sign_after_odd_e false (drop (to_sign f s) s) ≡ false → sign_after_odd_e f s ≡ false
unfolding to_sign somewhere sign_after odd_e exponent_marker
to_sign_odd f [] h p q = refl
to_sign_odd true (c ∷ s) h p q = by_bool (is_sign c) (λ e. yes_no (rw e at p)) (λ e. rw e (to_sign_odd false s (omega arith) (rw e at p) q))
to_sign_odd false (c ∷ s) h p q =
    by_bool (eqb c (code "+")) (λ e. rw e at q) (λ e.
    by_bool (eqb c (code "-")) (λ f. rw (e, f) at q) (λ f.
    to_sign_odd (exponent_marker c) s (omega (arith, rw (e, f) at h)) (rw (e, f) at p) (rw (e, f) at q)))

pub to_sign-span : (f : Bool) (s : List ℕ) → sign_after_odd_e f s ≡ false → to_sign f s ≡ span free s
unfolding to_sign somewhere sign_after odd_e span is_sign exponent_marker
to_sign-span true [] h = refl
to_sign-span false [] h = refl
to_sign-span true (c ∷ s) h = by_bool (is_sign c) (λ e. yes_no (rw e at h)) (λ e. rw e (ap suc (to_sign-span false s (rw e at h))))
to_sign-span false (c ∷ s) h =
    by_bool (eqb c (code "+")) (λ e. rw e) (λ e.
    by_bool (eqb c (code "-")) (λ f. rw (e, f)) (λ f. rw (e, f) (ap suc (to_sign-span (exponent_marker c) s h))))

pub free_walk : (f : Bool) (s : List ℕ) → all free s ≡ true → to_sign f s ≡ length s
free_walk f s h = to_sign-span f s (free_odd f s h) ∙ span_whole free s h
