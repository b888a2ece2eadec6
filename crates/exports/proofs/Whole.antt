-- The whole-text call, its answer taken apart.
use Prim.Native.Nat.{ℕ}
use mathlib.Core.Path.{◌≡◌, ap, ◌∙◌}
use mathlib.Core.List.{List}
use Rattle.chars.specs.Encode.{lay}
use Rattle.items.specs.Whole.{Answer, Call, call}
use Rattle.exports.specs.Read.{read_number, read_values}

pub told : (c : Call) (values : List ℕ) {a : Answer} {records text : List ℕ} {n : ℕ} {l now : List ℕ} → call a records text ≡ c
    → n ≡ read_number a → l ≡ read_values a → now ≡ lay l values
    → (n ≡ read_number c.answer) × ((now ≡ lay (read_values c.answer) values) × ((records ≡ c.records) × (text ≡ c.text)))
told c values e f g h =
    let answer = f ∙ ap (λ (x : Call). read_number x.answer) e in
    let laid = h ∙ ap (λ (x : List ℕ). lay x values) (g ∙ ap (λ (x : Call). read_values x.answer) e) in
    (answer, (laid, (ap (λ (x : Call). x.records) e, ap (λ (x : Call). x.text) e)))
