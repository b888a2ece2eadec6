-- Characters that are hit somewhere in a text, over joined texts; and plain characters hold no capital.
use mathlib.Core.Bool.{Bool, false, true}
use mathlib.Core.List.{List, [], ◌++◌, ◌∷◌}
use mathlib.Core.Path.{◌∙◌, ◌≡◌, ap, refl, sym}
use mathlib.Core.Logic.{◌⊎◌, inl, inr}
use borrow.Author.Tests.{ne_eqb}
use Prim.Native.Nat.{ℕ}
use Rattle.laws.proofs.Choice.{by_bool, yes_no}
use Rattle.laws.specs.Quoted.{code, within}
use Rattle.digits.specs.Digits.{digit_of}
use Rattle.std.specs.Prelude.{if◌then◌else◌}
use Rattle.laws.specs.Letters.{is_sign}
use Rattle.numbers_difference.proofs.Runs.{all, all_head, all_tail}
use Rattle.numbers_difference.specs.Conditions.{capital, is_capital, is_n, somewhere}
use Rattle.numbers_difference.proofs.Derived.{plain}

-- laws of `somewhere`
module _ (hit next : Bool → ℕ → Bool) where
  pub some_front : (f : Bool) (a b : List ℕ) → somewhere hit next f (a ++ b) ≡ false → somewhere hit next f a ≡ false
  unfolding somewhere
  some_front f [] b h = refl
  some_front f (c ∷ a) b h = by_bool (hit f c) (λ e. yes_no (rw e at h)) (λ e. rw e (some_front (next f c) a b (rw e at h)))

  -- a character that is never hit and after which nothing is remembered
  module _ (x : ℕ) (h : (f : Bool) → hit f x ≡ false) (n : (f : Bool) → next f x ≡ false) where
    pub some_reset : (f : Bool) (a b : List ℕ) → somewhere hit next f (a ++ x ∷ b) ≡ (if somewhere hit next f a then true else somewhere hit next false b)
    unfolding somewhere
    some_reset f [] b = rw (h f, n f)
    some_reset f (c ∷ a) b = by_bool (hit f c) (λ e. rw e) (λ e. rw e (some_reset (next f c) a b))

    pub reset_join : (f : Bool) (a b : List ℕ) → somewhere hit next f a ≡ false → somewhere hit next false b ≡ false → somewhere hit next f (a ++ x ∷ b) ≡ false
    reset_join f a b p q = some_reset f a b ∙ ap (λ (z : Bool). if z then true else somewhere hit next false b) p ∙ q

    pub reset_back : (f : Bool) (a b : List ℕ) → somewhere hit next f (a ++ x ∷ b) ≡ false → somewhere hit next false b ≡ false
    reset_back f a b e =
        by_bool (somewhere hit next f a) (λ q. yes_no (sym (some_reset f a b ∙ ap (λ (z : Bool). if z then true else somewhere hit next false b) q) ∙ e))
        (λ q. sym (some_reset f a b ∙ ap (λ (z : Bool). if z then true else somewhere hit next false b) q) ∙ e)

  -- characters that are never hit
  pub some_none : (t : ℕ → Bool) → ((f : Bool) (c : ℕ) → t c ≡ true → hit f c ≡ false) → (f : Bool) (s : List ℕ) → all t s ≡ true → somewhere hit next f s ≡ false
  unfolding somewhere
  some_none t i f [] h = refl
  some_none t i f (c ∷ s) h = rw (i f c (all_head t c s h)) (some_none t i (next f c) s (all_tail t c s h))

  pub some_last : (f : Bool) (a : List ℕ) (c : ℕ) → somewhere hit next f (a ++ c ∷ []) ≡ false → (g : Bool) × (hit g c ≡ false)
  unfolding somewhere
  some_last f [] c h = (f, by_bool (hit f c) (λ e. yes_no (rw e at h)) (λ e. e))
  some_last f (x ∷ a) c h = some_last (next f x) a c (by_bool (hit f x) (λ e. yes_no (rw e at h)) (λ e. rw e at h))

-- the marks between parts and after them
abbrev pub Mark : ℕ → Type 0
Mark x = (x ≡ code "+") ⊎ ((x ≡ code "-") ⊎ ((x ≡ code "/") ⊎ ((x ≡ code "@") ⊎ (x ≡ code "i"))))

-- no mark is a capital, or an n
pub cap_hit : (x : ℕ) → Mark x → (f : Bool) → is_capital f x ≡ false
unfolding is_capital
cap_hit x (inl e) true = rw e
cap_hit x (inl e) false = rw e
cap_hit x (inr (inl e)) true = rw e
cap_hit x (inr (inl e)) false = rw e
cap_hit x (inr (inr (inl e))) true = rw e
cap_hit x (inr (inr (inl e))) false = rw e
cap_hit x (inr (inr (inr (inl e)))) true = rw e
cap_hit x (inr (inr (inr (inl e)))) false = rw e
cap_hit x (inr (inr (inr (inr e)))) true = rw e
cap_hit x (inr (inr (inr (inr e)))) false = rw e

pub cap_next : (x : ℕ) → Mark x → (f : Bool) → is_n f x ≡ false
unfolding is_n
cap_next x (inl e) f = rw e
cap_next x (inr (inl e)) f = rw e
cap_next x (inr (inr (inl e))) f = rw e
cap_next x (inr (inr (inr (inl e)))) f = rw e
cap_next x (inr (inr (inr (inr e)))) f = rw e

-- plain characters hold no capital
not_plain : (c x : ℕ) → plain x ≡ false → plain c ≡ true → c ≡ x → ⊥
not_plain c x f p e = yes_no (sym p ∙ ap plain e ∙ f)

others : (plain (code "I") ≡ false) × (plain (code "N") ≡ false) × (plain (code "n") ≡ false)
unfolding plain digit_of is_sign within
others = (refl, refl, refl)

quiet_cap : (c : ℕ) → plain c ≡ true → (is_capital false c ≡ false) × (is_n false c ≡ false)
unfolding is_capital is_n
quiet_cap c p = (
  simp (ne_eqb c (code "I") (not_plain c (code "I") others.0 p), ne_eqb c (code "N") (not_plain c (code "N") others.1 p)),
  ne_eqb c (code "n") (not_plain c (code "n") others.2 p),
)

pub plain-capital : (s : List ℕ) → all plain s ≡ true → capital false s ≡ false
unfolding somewhere
plain-capital [] h = refl
plain-capital (c ∷ s) h = let q = quiet_cap c (all_head plain c s h) in rw (q.0, q.1) (plain-capital s (all_tail plain c s h))
