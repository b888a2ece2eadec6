-- A call, its answer taken apart.
use Prim.Native.Nat.{ℕ}
use mathlib.Core.Path.{◌≡◌, ap, ◌∙◌}
use mathlib.Core.List.{List, [], ◌∷◌}
use Rattle.chars.specs.Encode.{lay}
use Rattle.items_files.specs.Answers.{Answer, Outcome, outcome}
use Rattle.items_files_exports.specs.Told.{number_of, value_of}

pub told : (o : Outcome) (values : List ℕ) {a : Answer} {memory : List ℕ} {n v : ℕ} {now : List ℕ} → outcome a memory ≡ o
    → n ≡ number_of a → v ≡ value_of a → now ≡ lay (v ∷ []) values
    → (n ≡ number_of o.answer) × ((now ≡ lay (value_of o.answer ∷ []) values) × (memory ≡ o.memory))
told o values e f g h =
    let number = f ∙ ap (λ (x : Outcome). number_of x.answer) e in
    let laid = h ∙ ap (λ (x : ℕ). lay (x ∷ []) values) (g ∙ ap (λ (x : Outcome). value_of x.answer) e) in
    (number, (laid, ap (λ (x : Outcome). x.memory) e))
