-- Programs that meet no promise of the calls, whatever else they do: a row of specs/Text, where the definition answers otherwise, contradicts each.
use Rattle.std.specs.Prelude.{ℕ, ◌≡◌}
use Rattle.std.proofs.Common.{sym, ap, ◌∙◌, arith}
use Rattle.std.specs.Float.{nan, inf, fin}
use Rattle.laws.specs.Quoted.{codes}
use Rattle.laws.proofs.Choice.{impossible}
use Rattle.coordinates.specs.Answers.{Answer, float, refused, answered, CoordinateAnswer}
use Rattle.coordinates.specs.Coordinate.{coordinate}
use Rattle.coordinates_promises.specs.Text.{largest_power, minus_zero}

-- no program that refuses everything meets the promise, and none that answers one value
never_refused : (a : CoordinateAnswer) (n p : ℕ) → answered a ≡ refused n p → answered a ≡ coordinate (codes "1e22") → ⊥
never_refused a n p h k = let e = largest_power in impossible cc

-- the significant bits of a float
abbrev bits : Answer → ℕ
bits (float (fin s m e)) = m
bits (float nan) = 0
bits (float (inf s)) = 0
bits (refused n p) = 0

never_one : (a : CoordinateAnswer) → answered a ≡ coordinate (codes "1e22") → answered a ≡ coordinate (codes "-0.0") → ⊥
never_one a h k = let e : ◌≡◌ {A = ℕ} 2384185791015625 0 = ap bits (sym (h ∙ largest_power) ∙ k ∙ minus_zero) in omega arith
