-- The call, its answer taken apart.
use Prim.Native.Nat.{ℕ}
use mathlib.Core.Path.{◌≡◌, ap, ◌∙◌}
use mathlib.Core.List.{List, [], ◌∷◌}
use Rattle.chars.specs.Encode.{lay}
use Rattle.items_writing.specs.Call.{Answer, Call, call}
use Rattle.items_writing_exports.specs.Write.{number_of, value_of, sees, seen}

pub told : (c : Call) (values : List ℕ) {a : Answer} {out : List ℕ} {n v : ℕ} {now : List ℕ} → call a out ≡ c
    → n ≡ number_of a → v ≡ value_of a → now ≡ lay (v ∷ []) values → sees n now out ≡ seen c values
told c values {a} {out} {n} {v} {now} e f g h =
    let laid = h ∙ ap (λ (x : ℕ). lay (x ∷ []) values) g in
    ap (λ (x : ℕ). sees x now out) f ∙ ap (λ (x : List ℕ). sees (number_of a) x out) laid ∙ ap (λ (x : Call). seen x values) e
