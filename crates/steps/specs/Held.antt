-- Phases that a character past ASCII leaves as they are.
use Rattle.std.specs.Prelude.{ℕ, ◌≤◌, ◌≡◌, Bool, List}
use Rattle.laws.specs.Texts.{span}
use Rattle.byte_runs.specs.Runs.{plain}
use Rattle.items.specs.declared.Phase.{Phase}
use Rattle.items.specs.declared.Next.TheVariants.{Eat}
use Rattle.items.specs.Readers.{SoFar}
use Rattle.items.specs.Machine.{step_of}
use Rattle.steps.specs.Runs.{keeps}

-- any of them
abbrev pub Lasts : Phase → Type 0
Lasts p = (report : Bool) (i : SoFar) (c : ℕ) → 0x80 ≤ c → step_of report p i c ≡ Eat p

-- and of the characters of ASCII all but two
pub record Holds (p : Phase) (a b : ℕ) : Type 0 where
  pub lasts : Lasts p
  pub runs : (t : List ℕ) → span (keeps p) t ≡ span (plain a b) t
