-- What C gets, as `Rows` of specs/Told says it: by the rows of specs/Fields. The programs here meet no promise of the call, whatever else they do.
use Rattle.std.specs.Prelude.{ℕ, ◌≡◌, List, [], ◌∷◌, get_or}
use Rattle.std.proofs.Common.{ap, ◌∙◌, arith}
use Rattle.chars.specs.Encode.{lay}
use Rattle.lexer_fields.specs.Fields.{FieldsCall}
use Rattle.lexer_fields_exports.specs.Told.{LeftBehind, left_behind, leaving, fields_left}
use Rattle.lexer_fields_promises.specs.Fields.{rows}
use Rattle.lexer_fields_promises.specs.Told.{leaves, Rows}

by_call : {c d : FieldsCall} (values : List ℕ) → c ≡ d → leaving c values ≡ leaving d values
by_call values e = ap (λ (c : FieldsCall). leaving c values) e

pub told : Rows
unfolding fields_left lay
told = record {
  served_told = by_call (9 ∷ 9 ∷ 9 ∷ []) rows.extents;
  few_told = by_call (9 ∷ 9 ∷ []) rows.few_records;
  ends_told = by_call (9 ∷ 9 ∷ []) rows.passes;
  mode_told = by_call (9 ∷ 9 ∷ []) rows.no_mode;
  no_values = by_call (9 ∷ []) rows.extents;
}

-- no program meets the promise that tells every answer as served, or that leaves the values as they were
never_serves_all : (w r t values : List ℕ) → left_behind 0 w r t values ≡ leaves (1 ∷ 3 ∷ []) 0 (9 ∷ 9 ∷ []) → ⊥
never_serves_all w r t values h = let e : ◌≡◌ {A = ℕ} 0 38 = ap (λ (x : LeftBehind). x.number) (h ∙ told.ends_told) in omega (arith, e)

never_untold : (n : ℕ) (w r t : List ℕ) → left_behind n w r t (9 ∷ 9 ∷ []) ≡ leaves (1 ∷ 2 ∷ []) 1 (9 ∷ 9 ∷ []) → ⊥
never_untold n w r t h = let e : ◌≡◌ {A = ℕ} 9 2 = ap (λ (x : LeftBehind). get_or x.values 0 0) (h ∙ told.few_told) in omega (arith, e)
