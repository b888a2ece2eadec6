-- Programs that meet no promise of the calls, whatever else they do: a row of specs/Record, where the definition answers otherwise, contradicts each.
use Rattle.std.specs.Prelude.{ℕ, ◌≡◌}
use Rattle.laws.specs.Quoted.{codes}
use Rattle.laws.proofs.Choice.{impossible}
use Rattle.items.specs.Kinds as kind
use Rattle.coordinates.specs.Answers.{refused, answered, CoordinateAnswer}
use Rattle.coordinates.specs.Coordinate.{record_coordinate}
use Rattle.coordinates_promises.specs.Record.{corner}

never_refused : (a : CoordinateAnswer) (n p : ℕ) → answered a ≡ refused n p
    → answered a ≡ record_coordinate (codes "(a 1.5 2.5)") kind.Number 3 6 → ⊥
never_refused a n p h k = let e = corner in impossible cc
