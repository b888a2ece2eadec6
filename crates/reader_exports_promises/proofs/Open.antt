-- Programs that meet no promise of the calls, whatever else they do: a row of specs/Open, where the definition answers otherwise, contradicts each.
use Rattle.std.specs.Prelude.{ℕ, ◌<◌, ◌≡◌, true, false, List, [], ◌∷◌}
use Rattle.std.proofs.Common.{ap, ◌∙◌, arith}
use Rattle.chars.specs.Encode.{spelled}
use Rattle.reader_exports.specs.Reader.{Started, started, open_left}
use Rattle.reader_exports_promises.specs.Shapes.{room}
use Rattle.reader_exports_promises.specs.Open.{rows}

-- no program that opens everything meets the promise, nor one that refuses everything
never_open : (words values : List ℕ) → started 0 words values ≡ open_left (0xFF ∷ []) 2 false (room 7) (room 2) → ⊥
never_open words values h = let e : ◌≡◌ {A = ℕ} 0 25 = ap (λ (s : Started). s.answer) (h ∙ rows.no_mode) in omega (arith, e)

never_refused : (n : ℕ) (words values : List ℕ) → 0 < n → started n words values ≡ open_left (spelled "a") 0 true (room 7) (room 2) → ⊥
never_refused n words values l h = let e : n ≡ 0 = ap (λ (s : Started). s.answer) (h ∙ rows.plain) in omega (arith, e, l)
