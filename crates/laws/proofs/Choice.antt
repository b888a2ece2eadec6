-- Reasoning by a test.
use Prim.Native.Nat.{ℕ, ◌≤◌, ◌<◌}
use mathlib.Core.Path.{◌≡◌, refl}
use mathlib.Core.Bool.{Bool, true, false, ◌&&◌, true≢false, false≢true}
use lib.Dec.{leb}
use native.Mathlib.Omega.{arith}
use borrow.Author.Tests.{le-leb, lt-leb, leb-true}
use Rattle.std.specs.Prelude.{if◌then◌else◌}
use Rattle.laws.specs.Quoted.{within}

module _ {P : Type 0} where
  -- a case for each way a test goes, with the equation that says which it is
  pub by_bool : (b : Bool) → (b ≡ true → P) → (b ≡ false → P) → P
  by_bool true f g = f refl
  by_bool false f g = g refl

  -- a test does not go both ways
  pub no_yes : false ≡ true → P
  no_yes e = absurd (false≢true e)

  pub yes_no : true ≡ false → P
  yes_no e = absurd (true≢false e)

module _ {A : Type 0} where
  -- whatever is wanted, from what says that 0 is 1: `cc` finds it where two constructors are equal
  pub impossible : ◌≡◌ {A = ℕ} 0 1 → A
  impossible e = absurd (omega arith)

  -- what holds of both arms holds of a choice
  pub if_all : (P : A → Type 0) (b : Bool) {x y : A} → P x → P y → P (if b then x else y)
  if_all P true p q = p
  if_all P false p q = q

  -- the same where each arm may use the test
  pub if_is : (P : A → Type 0) (b : Bool) {x y : A} → (b ≡ true → P x) → (b ≡ false → P y) → P (if b then x else y)
  if_is P true p q = p refl
  if_is P false p q = q refl

  -- the arm that a test chose
  pub if_yes : (b : Bool) (x y : A) {z : A} → b ≡ true → z ≡ x → z ≡ (if b then x else y)
  if_yes b x y h e = rw h e

  pub if_no : (b : Bool) (x y : A) {z : A} → b ≡ false → z ≡ y → z ≡ (if b then x else y)
  if_no b x y h e = rw h e

-- both tests of two that pass together pass
pub and_true : (x y : Bool) → (x && y) ≡ true → (x ≡ true) × (y ≡ true)
and_true true y e = (refl, e)
and_true false y e = no_yes e

-- two tests, the second known
pub and_yes : (x : Bool) → (x && true) ≡ x
and_yes true = refl
and_yes false = refl

pub and_no : (x : Bool) → (x && false) ≡ false
and_no true = refl
and_no false = refl

module _ (a b c : ℕ) where
  pub within_below : c < a → false ≡ within a b c
  unfolding within
  within_below h = simp (lt-leb a c h)

  pub within_from : a ≤ c → leb c b ≡ within a b c
  unfolding within
  within_from h = simp (le-leb a c h)

  pub within_is : within a b c ≡ true → (a ≤ c) × (c ≤ b)
  unfolding within
  within_is e = let h = and_true (leb a c) (leb c b) e in (leb-true a c h.0, leb-true c b h.1)
