-- A call's outcome, taken apart: its number, its values and its memory.
use Prim.Native.Nat.{ℕ}
use mathlib.Core.Path.{◌≡◌, ap, ◌∙◌}
use mathlib.Core.List.{List, [], ◌∷◌}
use Rattle.chars.specs.Encode.{lay}
use Rattle.lines.specs.Starts.{Told, Outcome, outcome}
use Rattle.lines.specs.Place.{Where}
use Rattle.lines.specs.Numbers.{answer_number, answer_value, located_number, located_first, located_second}

pub told : (o : Outcome) (values : List ℕ) {a : Told} {m now : List ℕ} {n : ℕ} → outcome a m ≡ o
    → (n ≡ answer_number a) × (now ≡ lay (answer_value a ∷ 0 ∷ []) values)
    → (n ≡ answer_number o.answer) × ((now ≡ lay (answer_value o.answer ∷ 0 ∷ []) values) × (m ≡ o.memory))
told o values e f =
    (f.0 ∙ ap (λ (x : Outcome). answer_number x.answer) e, (f.1 ∙ ap (λ (x : Outcome). lay (answer_value x.answer ∷ 0 ∷ []) values) e, ap (λ (x : Outcome). x.memory) e))

pub told_answer : (b : Told) (values : List ℕ) {a : Told} {now : List ℕ} {n : ℕ} → a ≡ b
    → (n ≡ answer_number a) × (now ≡ lay (answer_value a ∷ 0 ∷ []) values)
    → (n ≡ answer_number b) × (now ≡ lay (answer_value b ∷ 0 ∷ []) values)
told_answer b values e f = (f.0 ∙ ap answer_number e, f.1 ∙ ap (λ (x : Told). lay (answer_value x ∷ 0 ∷ []) values) e)

pub told_place_lem : (q : Where) (values : List ℕ) {r : Where} {now : List ℕ} {n a b : ℕ} → r ≡ q → n ≡ located_number r
    → a ≡ located_first r → b ≡ located_second r → now ≡ lay (a ∷ b ∷ []) values
    → (n ≡ located_number q) × (now ≡ lay (located_first q ∷ located_second q ∷ []) values)
told_place_lem q values e f g h w = rw (← e) (f, w ∙ rw (g, h))
