-- The call, its answer taken apart.
use Prim.Native.Nat.{ℕ}
use mathlib.Core.Path.{◌≡◌, ap, ◌∙◌}
use mathlib.Core.List.{List, [], ◌∷◌}
use Rattle.chars.specs.Encode.{lay}
use Rattle.nested.specs.Lent.{nest_number, nest_value, Outcome, outcome, Nested}

pub told : (c : Outcome) (values : List ℕ) {a : Nested} {nodes : List ℕ} {n v : ℕ} {now : List ℕ} → outcome a nodes ≡ c
    → n ≡ nest_number a → v ≡ nest_value a → now ≡ lay (v ∷ []) values
    → (n ≡ c.number) × ((now ≡ lay (c.value ∷ []) values) × (nodes ≡ c.memory))
told c values e f g h =
    let number = f ∙ ap (λ (x : Outcome). x.number) e in
    let laid = h ∙ ap (λ (x : ℕ). lay (x ∷ []) values) (g ∙ ap (λ (x : Outcome). x.value) e) in
    (number, (laid, ap (λ (x : Outcome). x.memory) e))
