-- An answer by its case, and the call with its answer told.
use Rattle.std.specs.Prelude.{Result}
use Prim.Native.Nat.{ℕ}
use mathlib.Core.Path.{◌≡◌, sym, ap, ◌∙◌}
use mathlib.Core.List.{List}
use Rattle.chars.specs.Encode.{lay}
use Rattle.items.specs.Whole.{Answer}
use Rattle.lexer_fields.specs.Fields.{FieldsCall, fields_call}
use Rattle.lexer_fields.specs.Answers.{answer_of}
use Rattle.lexer_fields.specs.declared.Total.{Total}
use Rattle.lexer_fields.specs.declared.FieldsError.{FieldsError}
use Rattle.lexer_fields_exports.specs.Told.{number_in, values_in, left_behind, leaving}

pub answer_told : (a b : Result Total FieldsError) (values : List ℕ) {new : List ℕ} → a ≡ b → new ≡ lay (values_in (answer_of b)) values
    → (number_in (answer_of b) ≡ number_in (answer_of a)) × (new ≡ lay (values_in (answer_of a)) values)
answer_told a b values e h =
    (ap (λ (x : Result Total FieldsError). number_in (answer_of x)) (sym e), h ∙ ap (λ (x : Result Total FieldsError). lay (values_in (answer_of x)) values) (sym e))

pub call_told : (c : FieldsCall) (values : List ℕ) {a : Answer} {rows recs text new : List ℕ} {n : ℕ} → fields_call a rows recs text ≡ c → n ≡ number_in a
    → new ≡ lay (values_in a) values → left_behind n rows recs text new ≡ leaving c values
call_told c values {a} {rows} {recs} {text} {new} {n} e f g =
    ap (λ (x : ℕ). left_behind x rows recs text new) f
    ∙ ap (λ (x : List ℕ). left_behind (number_in a) rows recs text x) g
    ∙ ap (λ (x : FieldsCall). leaving x values) e
