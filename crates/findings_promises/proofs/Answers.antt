-- Two answers that a contract permits are one, and so is what they leave in the lent memory.
use Prim.Native.Nat.{ℕ}
use mathlib.Core.Path.{◌≡◌, sym, ap, ◌∙◌}
use mathlib.Core.List.{List}
use Rattle.findings_rows.specs.Laid.{Laid, laid}
use Rattle.findings_exports.specs.Told.{LeftBehind, left_behind}

pub one_answer_rows : {o : Laid} (n m : ℕ) (words memory : List ℕ) → laid n words ≡ o → laid m memory ≡ o → (n ≡ m) × (words ≡ memory)
one_answer_rows n m words memory e f = let h : laid n words ≡ laid m memory = e ∙ sym f in (ap (λ (x : Laid). x.count) h, ap (λ (x : Laid). x.memory) h)

pub one_answer_find : {o : LeftBehind} (n m : ℕ) {r s f g v w : List ℕ} → left_behind n r f v ≡ o → left_behind m s g w ≡ o → (n ≡ m) × (r ≡ s) × (f ≡ g) × (v ≡ w)
one_answer_find n m {r} {s} {f} {g} {v} {w} e k =
    let h : left_behind n r f v ≡ left_behind m s g w = e ∙ sym k in
    (ap (λ (x : LeftBehind). x.number) h, ap (λ (x : LeftBehind). x.records) h, ap (λ (x : LeftBehind). x.findings) h, ap (λ (x : LeftBehind). x.values) h)
