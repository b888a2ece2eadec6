-- Programs that meet no promise of the calls, whatever else they do: a row of specs/Open, where the definition answers otherwise, contradicts each.
use Rattle.std.specs.Prelude.{ℕ, ◌<◌, ◌≡◌, true, false, List, [], ◌∷◌}
use Rattle.std.proofs.Common.{ap, ◌∙◌, arith}
use Rattle.chars.specs.Encode.{spelled}
use Rattle.lexer.specs.declared.Position.{Position}
use Rattle.reader.specs.Reading.{Stand, stands, refuses_with, OpenedAs, opened_as, open_for}
use Rattle.reader_promises.specs.Open.{rows}

abbrev number_in : Stand → ℕ
number_in stands = 0
number_in (refuses_with number value) = number

-- no program that opens everything meets the promise, nor one that refuses everything
never_open : (s : List ℕ) (p : Position) → opened_as stands s p ≡ open_for (0xFF ∷ []) 2 false → ⊥
never_open s p h = let e : ◌≡◌ {A = ℕ} 0 25 = ap (λ (o : OpenedAs). number_in o.stand) (h ∙ rows.no_mode) in omega (arith, e)

never_refused : (n v : ℕ) (s : List ℕ) (p : Position) → 0 < n → opened_as (refuses_with n v) s p ≡ open_for (spelled "a") 0 true → ⊥
never_refused n v s p l h = let e : n ≡ 0 = ap (λ (o : OpenedAs). number_in o.stand) (h ∙ rows.plain) in omega (arith, e, l)
