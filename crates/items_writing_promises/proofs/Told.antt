-- Programs that meet no promise of the call for C, whatever else they do: a row of specs/Told, where the definition answers otherwise, contradicts each.
use Rattle.std.specs.Prelude.{ℕ, ◌≡◌}
use Rattle.std.proofs.Common.{◌∙◌}
use Rattle.std.proofs.Math.Path.{ap}
use mathlib.Core.List.{List, [], ◌∷◌}
use Rattle.std.proofs.Math.ListN.{get_or}
use native.Mathlib.Omega.{arith}
use Rattle.chars.specs.Encode.{utf8, bytes_of}
use Rattle.items_writing_exports.specs.Write.{Seen}
use Rattle.items_writing_promises.specs.Shapes.{room}
use Rattle.items_writing_promises.specs.Write.{brackets}
use Rattle.items_writing_promises.specs.Told.{told, rows}

module _ (call : List ℕ → ℕ → List ℕ → Seen) (meets : (records : List ℕ) (bytes : ℕ) (values : List ℕ) → call records bytes values ≡ told records bytes values) where
  -- it tells every answer as served
  pub never_serves_all : ((records : List ℕ) (bytes : ℕ) (values : List ℕ) → (call records bytes values).number ≡ 0) → ⊥
  never_serves_all h =
      omega (arith, h brackets 2 (9 ∷ 9 ∷ []), ap (λ (s : Seen). s.number) (meets brackets 2 (9 ∷ 9 ∷ []) ∙ rows.needed_told))

  -- it leaves the values as they were
  pub never_untold : ((records : List ℕ) (bytes : ℕ) (values : List ℕ) → (call records bytes values).values ≡ values) → ⊥
  never_untold h =
      omega (
        arith,
        ap (λ (v : List ℕ). get_or v 0 0) (h brackets 4 (9 ∷ 9 ∷ [])),
        ap (λ (s : Seen). get_or s.values 0 0) (meets brackets 4 (9 ∷ 9 ∷ []) ∙ rows.bytes_told),
      )

  -- it writes no text where it cannot tell how many bytes it has
  pub never_needs_values : ((records : List ℕ) (bytes : ℕ) → (call records bytes []).out ≡ room bytes) → ⊥
  unfolding bytes_of utf8
  never_needs_values h =
      omega (
        arith,
        ap (λ (m : List ℕ). get_or m 0 0) (h brackets 4),
        ap (λ (s : Seen). get_or s.out 0 0) (meets brackets 4 [] ∙ rows.no_values),
      )
