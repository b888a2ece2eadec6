-- Characters by lists of them: what holds of each of some characters holds of any one of them.
use Prim.Native.Nat.{ℕ, ◌≤◌}
use mathlib.Core.Path.{◌≡◌, refl}
use mathlib.Core.Bool.{true, false}
use mathlib.Core.List.{List, [], ◌∷◌, map}
use lib.Dec.{eqb, ltb}
use native.Mathlib.Omega.{arith}
use borrow.Author.Tests.{ne_eqb, ltb-true, eqb-true}
use Rattle.laws.specs.Quoted.{one_of}
use Rattle.laws.proofs.Choice.{by_bool}
use Rattle.items_r7rs.specs.Repeated.{Many, done, more}

module _ {A : Type 0} (f : ℕ → A) (a : A) where
  -- a function that is a at each of the characters ks is a at one of them
  pub at_one_of : (ks : List ℕ) (c : ℕ) → map f ks ≡ map (λ k. a) ks → one_of ks c ≡ true → f c ≡ a
  at_one_of [] c e h = cc
  at_one_of (k ∷ ks) c e h =
      by_bool (eqb c k)
      (λ g. let i : c ≡ k = eqb-true c k g in rw i (cc))
      (λ g. at_one_of ks c (cc) (rw g at h))

  -- the same of a whole text
  pub many_all : (t : List ℕ) → map f t ≡ map (λ k. a) t → Many (λ c. f c ≡ a) t
  many_all [] e = done
  many_all (c ∷ t) e = let h : f c ≡ a = cc in more {c = c} h (many_all t (cc))

-- one that is none of some characters is not the first of them, and none of the others
pub not_first : (k : ℕ) (ks : List ℕ) (c : ℕ) → one_of (k ∷ ks) c ≡ false → eqb c k ≡ false
not_first k ks c h = by_bool (eqb c k) (λ e. let g = rw e at h in cc) (λ e. e)

pub not_others : (k : ℕ) (ks : List ℕ) (c : ℕ) → one_of (k ∷ ks) c ≡ false → one_of ks c ≡ false
not_others k ks c h = rw (not_first k ks c h) at h

-- a character past ASCII
module _ (c : ℕ) (h : 0x80 ≤ c) where
  pub beyond_differs : (k : ℕ) → ltb k 0x80 ≡ true → eqb c k ≡ false
  beyond_differs k e = ne_eqb c k (λ z. omega (arith, ltb-true k 0x80 e))

  -- it is none of some ASCII characters
  pub beyond_none : (ks : List ℕ) → map (λ k. ltb k 0x80) ks ≡ map (λ k. true) ks → one_of ks c ≡ false
  beyond_none [] e = refl
  beyond_none (k ∷ ks) e = rw (beyond_differs k (cc)) (beyond_none ks (cc))
