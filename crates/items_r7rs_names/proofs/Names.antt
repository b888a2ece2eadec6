-- Every text of a character or more but a dot is a name or foreign, if no character ends a word before its first odd one: by its first characters.
use Prim.Native.Nat.{ℕ, ◌<◌}
use mathlib.Core.Path.{◌≡◌, refl, sym, ap, subst, ◌∙◌}
use mathlib.Core.Bool.{Bool, true, false, ◌||◌}
use mathlib.Core.List.{List, [], ◌∷◌, ◌++◌}
use mathlib.Core.Logic.{◌⊎◌, inl, inr}
use lib.ListN.{length}
use lib.Dec.{eqb, ltb}
use native.Mathlib.Omega.{arith}
use borrow.Author.Tests.{eqb-true, ltb-true, ltb-false}
use Rattle.laws.specs.Quoted.{codes, code, one_of, within}
use Rattle.laws.proofs.Choice.{by_bool, no_yes, if_all}
use Rattle.chars.specs.Blank.{is_blank}
use Rattle.items.specs.Classes.{breaks_word}
use Rattle.items_r7rs.specs.Escape.{digits}
use Rattle.items_r7rs.specs.Identifier.{letters, special_initials, explicit_signs, Initial, letter, beyond, Subsequent, initial, numeral}
use Rattle.items_r7rs.specs.Identifier.{plain, SignSubsequent, DotSubsequent, sign, dot_again, alone, signed, signed_dot, dotted}
use Rattle.items_r7rs.specs.Identifier as id
use Rattle.items_r7rs.specs.Repeated.{Many, done, more}
use Rattle.items_r7rs.proofs.BelowBound.{all_below, below_all}
use Rattle.items_r7rs.proofs.Classes.{at_one_of}
use Rattle.items_r7rs_names.specs.Names.{Odd, mark, control, Name}
use Rattle.items_r7rs_names.specs.Names as foreign

-- ---- characters that end no word

-- of ASCII
abbrev tested : ℕ → Bool
tested c =
    breaks_word c || (one_of letters c || (one_of special_initials c || (one_of digits c || (one_of (codes "+-.@") c || (one_of (codes "#|\\") c || (ltb c 0x20 || eqb c 0x7F))))))

all_tested : all_below tested 0x80 ≡ true
unfolding all_below breaks_word is_blank within
all_tested = refl

subsequent_or_odd : (c : ℕ) → breaks_word c ≡ false → Subsequent c ⊎ Odd c
unfolding breaks_word
subsequent_or_odd c h = by_bool (ltb c 0x80)
    (λ l. let t : tested c ≡ true = below_all tested 0x80 all_tested c (ltb-true c 0x80 l) in
    by_bool (one_of letters c) (λ e. inl (initial (letter e)))
    (λ e₁. by_bool (one_of special_initials c) (λ e. inl (initial (id.Initial.special e)))
    (λ e₂. by_bool (one_of digits c) (λ e. inl (numeral e))
    (λ e₃. by_bool (one_of (codes "+-.@") c) (λ e. inl (id.Subsequent.special e))
    (λ e₄. by_bool (one_of (codes "#|\\") c) (λ e. inr (mark e))
    (λ e₅. inr (control (rw (h, e₁, e₂, e₃, e₄, e₅) at t))))))))
    (λ l. by_bool (is_blank c)
    (λ e. no_yes (sym h ∙ if_all (λ (b : Bool). b ≡ true) (one_of (codes "([)]{}'\"`;,") c) refl e))
    (λ e. inl (initial (beyond (ltb-false c 0x80 l) e))))

-- no character ends a word before the first odd one
pub data Tame : List ℕ → Type 0 where
  none : Tame []
  goes : {c : ℕ} {t : List ℕ} → breaks_word c ≡ false → Tame t → Tame (c ∷ t)
  stops : {c : ℕ} {t : List ℕ} → Odd c → Tame (c ∷ t)

data Rest : List ℕ → Type 0 where
  all : {t : List ℕ} → Many Subsequent t → Rest t
  but : (u : List ℕ) {c : ℕ} (t : List ℕ) → Many Subsequent u → Odd c → Rest (u ++ (c ∷ t))

rest_of : {t : List ℕ} → Tame t → Rest t
rest_of none = all done
rest_of (stops {t = t} o) = but [] t done o
rest_of (goes {c = c} {t = t} h k) = go (subsequent_or_odd c h) (rest_of k)
  where
    go : Subsequent c ⊎ Odd c → {t : List ℕ} → Rest t → Rest (c ∷ t)
    go (inl s) (all m) = all (more s m)
    go (inl s) (but u t m o) = but (c ∷ u) t (more s m) o
    go (inr o) {t} r = but [] t done o

-- ---- what a <subsequent> is

data Class (c : ℕ) : Type 0 where
  an_initial : Initial c → Class c
  a_digit : one_of digits c ≡ true → Class c
  a_sign : one_of explicit_signs c ≡ true → Class c
  a_dot : c ≡ code "." → Class c
  an_at : c ≡ code "@" → Class c

class_of : {c : ℕ} → Subsequent c → Class c
class_of (initial h) = an_initial h
class_of (numeral h) = a_digit h
class_of {c} (id.Subsequent.special h) =
    by_bool (one_of explicit_signs c) (λ e. a_sign e)
    (λ e. by_bool (eqb c (code ".")) (λ f. a_dot (eqb-true c (code ".") f))
    (λ f. by_bool (eqb c (code "@")) (λ g. an_at (eqb-true c (code "@") g)) (λ g. no_yes (sym (none_of e f g) ∙ h))))
  where
    none_of : one_of explicit_signs c ≡ false → eqb c (code ".") ≡ false → eqb c (code "@") ≡ false → one_of (codes "+-.@") c ≡ false
    none_of e f g = by_bool (eqb c (code "+"))
        (λ h. no_yes (sym (rw h at e)))
        (λ h. by_bool (eqb c (code "-")) (λ k. no_yes (sym (rw (h, k) at e))) (λ k. rw (h, k, f, g)))

sign_special : (c : ℕ) → one_of explicit_signs c ≡ true → SignSubsequent c
sign_special c h = id.SignSubsequent.special (at_one_of (one_of (codes "+-@")) true explicit_signs c refl h)

at_special : (c : ℕ) → c ≡ code "@" → SignSubsequent c
at_special c e = subst SignSubsequent (sym e) (id.SignSubsequent.special refl)

-- ---- names by their first characters, the others <subsequent>s

-- a <dot subsequent>, or a digit
after_dot : {c : ℕ} → Class c → DotSubsequent c ⊎ (one_of digits c ≡ true)
after_dot (an_initial h) = inl (sign (id.SignSubsequent.initial h))
after_dot (a_digit h) = inr h
after_dot {c} (a_sign h) = inl (sign (sign_special c h))
after_dot (a_dot e) = inl (subst DotSubsequent (sym e) dot_again)
after_dot {c} (an_at e) = inl (sign (at_special c e))

sign_dot_name : (s : ℕ) → one_of explicit_signs s ≡ true → (t : List ℕ) → Many Subsequent t → Name (s ∷ code "." ∷ t)
sign_dot_name s h [] m = inr (foreign.sign_dot h)
sign_dot_name s h (d ∷ t) (more k m) = go (after_dot (class_of k))
  where
    go : DotSubsequent d ⊎ (one_of digits d ≡ true) → Name (s ∷ code "." ∷ d ∷ t)
    go (inl g) = inl (inr (signed_dot h g m))
    go (inr g) = inr (foreign.sign_dot_digit h g m)

sign_name : (s : ℕ) → one_of explicit_signs s ≡ true → (t : List ℕ) → Many Subsequent t → Name (s ∷ t)
sign_name s h [] m = inl (inr (alone h))
sign_name s h (d ∷ t) (more k m) = go (class_of k)
  where
    go : Class d → Name (s ∷ d ∷ t)
    go (an_initial g) = inl (inr (signed h (id.SignSubsequent.initial g) m))
    go (a_digit g) = inr (foreign.sign_digit h g m)
    go (a_sign g) = inl (inr (signed h (sign_special d g) m))
    go (a_dot e) = subst (λ (n : ℕ). Name (s ∷ n ∷ t)) (sym e) (sign_dot_name s h t m)
    go (an_at e) = inl (inr (signed h (at_special d e) m))

dot_name : (t : List ℕ) → Many Subsequent t → (t ≡ [] → ⊥) → Name (code "." ∷ t)
dot_name [] m n = absurd (n refl)
dot_name (d ∷ t) (more k m) n = go (after_dot (class_of k))
  where
    go : DotSubsequent d ⊎ (one_of digits d ≡ true) → Name (code "." ∷ d ∷ t)
    go (inl g) = inl (inr (dotted g m))
    go (inr g) = inr (foreign.dot_digit g m)

pub name_of : {t : List ℕ} → Tame t → 0 < length t → (t ≡ codes "." → ⊥) → Name t
name_of h = go (rest_of h)
  where
    subsequents : (t : List ℕ) → Many Subsequent t → 0 < length t → (t ≡ codes "." → ⊥) → Name t
    subsequents [] m l n = absurd (omega arith)
    subsequents (c ∷ t) (more k m) l n = by_class_lem (class_of k)
      where
        by_class_lem : Class c → Name (c ∷ t)
        by_class_lem (an_initial g) = inl (inl (plain g m))
        by_class_lem (a_digit g) = inr (foreign.digit g m)
        by_class_lem (a_sign g) = sign_name c g t m
        by_class_lem (a_dot e) =
            subst (λ (x : ℕ). Name (x ∷ t)) (sym e) (dot_name t m (λ z. n (ap (λ (x : ℕ). x ∷ t) e ∙ ap (λ (l : List ℕ). code "." ∷ l) z)))
        by_class_lem (an_at e) = subst (λ (x : ℕ). Name (x ∷ t)) (sym e) (inr (foreign.at_sign m))

    go : {t : List ℕ} → Rest t → 0 < length t → (t ≡ codes "." → ⊥) → Name t
    go (all {t = t} m) l n = subsequents t m l n
    go (but u t m o) l n = inr (foreign.odd u t m o)
