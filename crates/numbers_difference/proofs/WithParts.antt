-- The three conditions with the parts that the grammar gives: a means of proof.
use mathlib.Core.List.{List, ◌++◌, ◌∷◌}
use Prim.Native.Nat.{◌+◌, ℕ}
use mathlib.Core.Path.{◌≡◌}
use mathlib.Core.Logic.{◌⊎◌}
use mathlib.Core.Bool.{false, true}
use lib.ListN.{length}
use Rattle.numbers.specs.declared.Parts.{Parts}
use Rattle.numbers.specs.declared.Real.{Real}
use Rattle.laws.specs.Quoted.{code}
use Rattle.numbers_difference.specs.Productions.{Letter, Prefix}
use Rattle.numbers_difference.specs.R7rs.{Number, RealAt}
use Rattle.numbers_difference.specs.Conditions.{SignedBelow, capital, sign_after_odd_e}

-- a side of an @: a <real R> without a capital, or one with a sign below the slash
pub data Side (R p : ℕ) (s : List ℕ) : Type 0 where
  plain : {r : Real} → RealAt R p s r → capital false s ≡ false → Side R p s
  slashed : SignedBelow R s → Side R p s

pub data BelowSlash : List ℕ → Type 0 where
  polar : {R : ℕ} {g a b : List ℕ} → Prefix R g → Side R (length g) a → Side R (length g + length a + 1) b
      → SignedBelow R a ⊎ SignedBelow R b → BelowSlash (g ++ (a ++ code "@" ∷ b))

pub record Upper (s : List ℕ) : Type 0 where
  pub parts : Parts
  pub number : Number s parts
  pub upper : capital false s ≡ true

pub data HexE : List ℕ → Type 0 where
  hex_e : {c : ℕ} {s : List ℕ} {a : Parts} → Letter "x" c → Number (code "#" ∷ c ∷ s) a → sign_after_odd_e false s ≡ true → HexE (code "#" ∷ c ∷ s)

abbrev pub Condition : List ℕ → Type 0
Condition s = BelowSlash s ⊎ (Upper s ⊎ HexE s)
