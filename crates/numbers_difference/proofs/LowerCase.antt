-- What the grammar derives as <complex R> with no capital and no sign after an odd number of e's, the bought reader reads.
use Rattle.std.proofs.Common.{Some}
use mathlib.Core.Bool.{Bool, false, not, true}
use mathlib.Core.List.{List, [], ◌++◌, ◌∷◌, append_assoc, append-nil}
use Prim.Native.Nat.{◌+◌, suc, ℕ}
use mathlib.Core.Path.{◌∙◌, ◌≡◌, ap, refl, subst, sym}
use mathlib.Core.Logic.{◌⊎◌, inl, inr}
use native.Mathlib.Nat.{add-zero}
use native.Mathlib.Omega.{arith}
use lib.ListN.{drop, length, length-append}
use lib.Seq.{drop-append-add, drop-append_seam, take-append_seam}
use borrow.Author.Tests.{eq-eqb, le-ltb, lt-ltb, ne_eqb}
use lib.Dec.{eqb, ltb}
use Rattle.numbers.specs.declared.Parts.{Parts}
use Rattle.numbers.specs.declared.Real.{Real}
use Rattle.numbers_standard.proofs.Letters.{UpperOf, lower_is}
use Rattle.laws.specs.Texts.{before, span}
use Rattle.laws.specs.Quoted.{code}
use Rattle.laws.proofs.Choice.{yes_no}
use Rattle.numbers.specs.Grammar.{complex_of, cut, just_of, polar_of, starts_e, to_sign}
use Rattle.numbers.specs.Reals.{exponent_marker}
use Rattle.laws.specs.Letters.{is_sign}
use Rattle.numbers_standard.specs.Grammar.{joint}
use Rattle.digits.specs.Digits.{sign}
use Rattle.numbers_difference.specs.R7rs.{ComplexAt, ImaginaryAt}
use Rattle.numbers_difference.specs.Productions.{Letter}
use Rattle.numbers_difference.proofs.Walk.{Radix, Signed, all_nil, foreign_at, free, i_other, imaginary_joint, imaginary_other}
use Rattle.numbers_difference.proofs.Walk.{imaginary_signed, joint_cons, other, radix_le, real_joint, real_other, sign_marker, signed_sign}
use Rattle.numbers_difference.proofs.Walk.{signed_walk, walk, walk_hex, walk_i, walk_ten}
use Rattle.numbers_difference.proofs.Runs.{all, all_append, all_cons, before_here, before_none, span_full}
use Rattle.numbers_difference.proofs.Bought.{cap_back, cap_join, cap_nil, ends_i_no, ends_i_snoc, imaginary_low, sign_mark}
use Rattle.numbers_difference.specs.Conditions.{capital, is_capital, is_n, odd_e, sign_after, sign_after_odd_e, somewhere}
use Rattle.numbers_difference.proofs.Whole.{ends_not, init_snoc}
use Rattle.numbers_difference.proofs.OddSigns.{free_walk, to_sign-span}
use Rattle.numbers_difference.proofs.Reals.{real_low}
use Rattle.numbers_difference.proofs.Somewhere.{some_front, some_last}
use Rattle.numbers.specs.Grammar as bought-grammar

-- what the grammar derives, without capitals and without a sign after an odd number of e's in radix 16, the bought reader reads
cut-span : (s : List ℕ) → sign_after_odd_e false s ≡ false → cut s ≡ 1 + span (λ c. not (is_sign c)) (drop 1 s)
unfolding starts_e somewhere sign_after odd_e to_sign span exponent_marker
cut-span [] q = refl
cut-span (c ∷ t) q = ap (λ (n : ℕ). 1 + n) (to_sign-span (exponent_marker c) t q)

cut-joint : (R : ℕ) (s : List ℕ) → Radix R → (R ≡ 16 → sign_after_odd_e false s ≡ false) → cut s ≡ joint R s
unfolding joint
cut-joint R s (inl h) o = rw (ne_eqb R 16 (λ e. omega arith))
cut-joint R s (inr h) o = rw (eq-eqb R 16 h) (cut-span s (o h))

-- no sign after the joining one
rest_of : (R x : ℕ) (t : List ℕ) {c : ℕ} → Radix R → is_sign x ≡ true → Letter "i" c → joint R (x ∷ (t ++ c ∷ [])) ≡ suc (length t) + walk R false (c ∷ []) → to_sign false (t ++ c ∷ []) ≡ suc (length t)
rest_of R x t {c} h e m j = go h
  where
    k : walk R false (t ++ c ∷ []) ≡ suc (length t)
    k = let a : joint R (x ∷ (t ++ c ∷ [])) ≡ 1 + walk R false (t ++ c ∷ []) =
        joint_cons R x (t ++ c ∷ []) ∙ ap (λ (b : Bool). 1 + walk R b (t ++ c ∷ [])) (sign_marker x e) in omega (arith, walk_i R m)

    n : length (t ++ c ∷ []) ≡ suc (length t)
    n = length-append t (c ∷ []) ∙ omega arith

    go : Radix R → to_sign false (t ++ c ∷ []) ≡ suc (length t)
    go (inl q) = sym (walk_ten R false (t ++ c ∷ []) q) ∙ k
    go (inr q) = free_walk false (t ++ c ∷ []) (span_full free (t ++ c ∷ []) (sym (walk_hex R false (t ++ c ∷ []) q) ∙ k ∙ sym n)) ∙ n

rest_walk : {R p : ℕ} {b : List ℕ} {c : ℕ} {y : Real} → Radix R → ImaginaryAt R p b y → Letter "i" c → to_sign false (drop 1 (b ++ c ∷ [])) ≡ length b
rest_walk {R} {p} {b} {c} h d m =
    let g = imaginary_signed d in
    let j : joint R (g.0 ∷ (g.1 ++ c ∷ [])) ≡ suc (length g.1) + walk R false (c ∷ []) =
    subst (λ (y : List ℕ). joint R (y ++ c ∷ []) ≡ length y + walk R false (c ∷ [])) g.2 (imaginary_joint (c ∷ []) h d) in
    rw g.2 (rest_of R g.0 g.1 h g.3 m j)

capital_i : (g : Bool) → is_capital g (code "I") ≡ true
unfolding is_capital
capital_i g = refl

low_i : {c : ℕ} (s : List ℕ) → Letter "i" c → capital false (s ++ c ∷ []) ≡ false → c ≡ code "i"
unfolding is_capital
low_i {c} s (Letter.letter m) h = go (lower_is c (code "i") m)
  where
    go : (c ≡ code "i") ⊎ UpperOf c (code "i") → c ≡ code "i"
    go (inl e) = e
    go (inr e) = let z : c ≡ code "I" = omega arith in let k = some_last is_capital is_n false s c h in yes_no (sym (capital_i k.0) ∙ ap (is_capital k.0) (sym z) ∙ k.1)

cap_part : (a b x : List ℕ) → Signed b → capital false (a ++ (b ++ x)) ≡ false → capital false b ≡ false
cap_part a b x g k =
    let k' : capital false (a ++ g.0 ∷ (g.1 ++ x)) ≡ false = subst (λ (y : List ℕ). capital false (a ++ (y ++ x)) ≡ false) g.2 k in
    let t : capital false g.1 ≡ false = some_front is_capital is_n false g.1 x (cap_back g.0 (sign_mark g.0 g.3) a (g.1 ++ x) k') in
    ap (capital false) g.2 ∙ cap_join g.0 (sign_mark g.0 g.3) [] g.1 cap_nil t

pub complex_low : {R p : ℕ} {s : List ℕ} {a : Parts} → Radix R → ComplexAt R p s a → capital false s ≡ false → (R ≡ 16 → sign_after_odd_e false s ≡ false) → bought-grammar.complex R p s ≡ Some a
unfolding bought-grammar.complex bought-grammar.rectangular bought-grammar.alone_of bought-grammar.pair_of just_of polar_of complex_of
complex_low {R} {p} h (ComplexAt.real {s = s} {r = r} d) k o =
    let l = radix_le h in
    let j : ltb (cut s) (length s) ≡ false = le-ltb (cut s) (length s) (omega (arith, simp append-nil at (real_joint [] h d), cut-joint R s h o)) in
    simp (before_none (code "@") s (real_other (code "@") foreign_at l d), j, ends_i_no s (ends_not l d), real_low l d k)
complex_low {R} {p} h (ComplexAt.polar {a = a} {b = b} d e) k o =
    let l = radix_le h in
    let j : before (code "@") (a ++ code "@" ∷ b) ≡ length a = before_here (code "@") a b (real_other (code "@") foreign_at l d) in
    simp (
      j,
      lt-ltb (length a) (length (a ++ code "@" ∷ b)) (omega (arith, length-append a (code "@" ∷ b))),
      take-append_seam a (code "@" ∷ b),
      drop-append-add a (code "@" ∷ b) 1,
      real_low l d (some_front is_capital is_n false a (code "@" ∷ b) k),
      real_low l e (cap_back (code "@") (inr (inr (inr (inl refl)))) a b k),
    )
complex_low {R} {p} h (ComplexAt.rectangular {a = a} {b = b} {c = c} d e m) k o =
    let l = radix_le h in
    let s : List ℕ = a ++ (b ++ c ∷ []) in
    let j : cut (a ++ (b ++ c ∷ [])) ≡ length a = cut-joint R (a ++ (b ++ c ∷ [])) h o
    ∙ real_joint (b ++ c ∷ []) h d ∙ ap (λ (n : ℕ). length a + n) (signed_walk R b (c ∷ []) (imaginary_signed e)) ∙ add-zero (length a) in
    let q : all (λ x. not (eqb x (code "@"))) (a ++ (b ++ c ∷ [])) ≡ true =
    all_append (other (code "@")) a (b ++ c ∷ []) (real_other (code "@") foreign_at l d) (all_append (other (code "@")) b
    (c ∷ []) (imaginary_other (code "@") foreign_at l e) (all_cons (other (code "@")) c [] (i_other m).0 (all_nil (other (code "@"))))) in
    let n : length (a ++ (b ++ c ∷ [])) ≡ length a + (length b + 1) = length-append a (b ++ c ∷ []) ∙ ap (λ (n : ℕ). length a + n) (length-append b (c ∷ [])) in
    let v : to_sign false (drop 1 (b ++ c ∷ [])) ≡ length b = rest_walk h e m in
    let i : c ≡ code "i" = low_i (a ++ b) m (rw append_assoc k) in
    let w : bought-grammar.ends_i (b ++ c ∷ []) ≡ true = ends_i_snoc b c ∙ eq-eqb c (code "i") i in
    let z : capital false b ≡ false = cap_part a b (c ∷ []) (imaginary_signed e) k in
    simp (
      before_none (code "@") (a ++ (b ++ c ∷ [])) q,
      j,
      lt-ltb (length a) (length (a ++ (b ++ c ∷ []))) (omega arith),
      drop-append-add a (b ++ c ∷ []) 1,
      v,
      le-ltb (length a + 1 + length b) (length (a ++ (b ++ c ∷ []))) (omega arith),
      take-append_seam a (b ++ c ∷ []),
      drop-append_seam a (b ++ c ∷ []),
      w,
      init_snoc b c,
      real_low l d (some_front is_capital is_n false a (b ++ c ∷ []) k),
      imaginary_low l e z,
    )
complex_low {R} {p} h (ComplexAt.imaginary {b = b} {c = c} e m) k o =
    let l = radix_le h in
    let j : ltb (cut (b ++ c ∷ [])) (length (b ++ c ∷ [])) ≡ false = le-ltb (cut (b ++ c ∷ []))
    (length (b ++ c ∷ [])) (omega (arith, cut-joint R (b ++ c ∷ []) h o, imaginary_joint (c ∷ []) h e, length-append b (c ∷ []), walk_i R m)) in
    let q : all (λ x. not (eqb x (code "@"))) (b ++ c ∷ []) ≡ true = all_append (other (code "@")) b
    (c ∷ []) (imaginary_other (code "@") foreign_at l e) (all_cons (other (code "@")) c [] (i_other m).0 (all_nil (other (code "@")))) in
    let w : bought-grammar.ends_i (b ++ c ∷ []) ≡ true = ends_i_snoc b c ∙ eq-eqb c (code "i") (low_i b m k) in
    simp (
      before_none (code "@") (b ++ c ∷ []) q,
      j,
      w,
      ne_eqb (sign (b ++ c ∷ [])) 0 (signed_sign b (c ∷ []) (imaginary_signed e)),
      init_snoc b c,
      imaginary_low l e (some_front is_capital is_n false b (c ∷ []) k),
    )
