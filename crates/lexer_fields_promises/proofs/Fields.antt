-- Programs that meet no promise of the calls, whatever else they do: a row of specs/Fields, where the definition answers otherwise, contradicts each.
use Rattle.std.specs.Prelude.{ℕ, ◌≡◌, List, [], ◌∷◌, get_or}
use Rattle.std.proofs.Common.{ap, ◌∙◌, arith}
use Rattle.laws.specs.Quoted.{code}
use Rattle.laws.proofs.Choice.{impossible}
use Rattle.chars.specs.Encode.{spelled}
use Rattle.items.specs.Kinds as kind
use Rattle.items.specs.Whole.{Answer, served, refused}
use Rattle.items_promises.specs.Shapes.{room, words_for}
use Rattle.lexer_fields.specs.Fields.{FieldsCall, fields_call}
use Rattle.lexer_fields_promises.specs.Fields.{plainly, rows}

-- no program that refuses everything meets the promise, whatever it says and leaves
never_refused : (n a b : ℕ) (w r t : List ℕ) → fields_call (refused n a b) w r t ≡ plainly (spelled "ab") (1 ∷ 2 ∷ []) 2 0 → ⊥
never_refused n a b w r t h =
    let e : refused n a b ≡ served 2 0 = ap (λ (c : FieldsCall). c.answer) (h ∙ rows.extents) in impossible cc

-- nor does one that leaves the rows, or the records, as they were
never_rowless : (a : Answer) (r t : List ℕ) → fields_call a (room 9) r t ≡ plainly (spelled "ab") (1 ∷ 2 ∷ []) 2 0 → ⊥
never_rowless a r t h = let e : ◌≡◌ {A = ℕ} 7 0 = ap (λ (c : FieldsCall). get_or c.rows 0 0) (h ∙ rows.extents) in omega (arith, e)

never_unwritten : (a : Answer) (w t : List ℕ) → fields_call a w (room (words_for 2)) t ≡ plainly (spelled "ab") (1 ∷ 2 ∷ []) 2 0 → ⊥
never_unwritten a w t h = let e : 7 ≡ kind.Identifier = ap (λ (c : FieldsCall). get_or c.records 0 0) (h ∙ rows.extents) in omega (arith, e)

-- nor one that stops at a part that is not UTF-8, and refuses the call with it
never_stops : (n : ℕ) (w r t : List ℕ) → fields_call (refused 21 n 0) w r t ≡ plainly (code "a" ∷ code "b" ∷ 0xFF ∷ []) (1 ∷ 3 ∷ []) 2 0 → ⊥
never_stops n w r t h =
    let e : refused 21 n 0 ≡ served 1 0 = ap (λ (c : FieldsCall). c.answer) (h ∙ rows.bad_part) in impossible cc

-- nor one that writes rows only for parts with records: these have none
never_skips_rows : (a : Answer) (r t : List ℕ) → fields_call a (room 9) r t ≡ plainly (spelled "¿") (1 ∷ 2 ∷ []) 1 0 → ⊥
never_skips_rows a r t h = let e : ◌≡◌ {A = ℕ} 7 21 = ap (λ (c : FieldsCall). get_or c.rows 2 0) (h ∙ rows.cut_apart) in omega (arith, e)
