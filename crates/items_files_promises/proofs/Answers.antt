-- Two answers that a contract permits are one, and so is what they leave in the lent memory.
use mathlib.Core.Path.{◌≡◌, refl, sym, ap, ◌∙◌}
use mathlib.Core.List.{List}
use Prim.Native.Nat.{ℕ}
use lib.Dec.{eqb}
use Rattle.std.specs.Prelude.{if◌then◌else◌, Result, Ok, Err}
use Rattle.refusal.specs.Refusals.{too_few, cut_short, wrong_number, goes_back}
use Rattle.items_files.specs.Answers.{Answer, served, refused, wrote, got, Outcome, outcome}
use Rattle.items_files.specs.declared.StoreError.{StoreError}
use Rattle.items_files.specs.declared.StoreError.TheVariants as writes
use Rattle.items_files.specs.declared.LoadError.{LoadError}
use Rattle.items_files.specs.declared.LoadError.TheVariants as reads

-- the case of a number
abbrev stores : Answer → Result ℕ StoreError
stores (served n) = Ok n
stores (refused k n) = Err (if eqb k goes_back then writes.Back n else writes.TooFew n)

stores-wrote : (a : Result ℕ StoreError) → stores (wrote a) ≡ a
stores-wrote (Ok n) = refl
stores-wrote (Err (writes.Back n)) = refl
stores-wrote (Err (writes.TooFew n)) = refl

abbrev loads : Answer → Result ℕ LoadError
loads (served n) = Ok n
loads (refused k n) =
    Err
    (if eqb k cut_short
    then reads.Cut n
    else (if eqb k wrong_number then reads.Wrong n else (if eqb k too_few then reads.TooFew n else reads.Over n)))

loads-got : (a : Result ℕ LoadError) → loads (got a) ≡ a
loads-got (Ok n) = refl
loads-got (Err (reads.Cut n)) = refl
loads-got (Err (reads.Wrong n)) = refl
loads-got (Err (reads.Over n)) = refl
loads-got (Err (reads.TooFew n)) = refl

module _ {m k : List ℕ} {o : Outcome} where
  pub one_answer_write : (a b : Result ℕ StoreError) → outcome (wrote a) m ≡ o → outcome (wrote b) k ≡ o → (a ≡ b) × (m ≡ k)
  one_answer_write a b e f =
      let q : outcome (wrote a) m ≡ outcome (wrote b) k = e ∙ sym f in
      (sym (stores-wrote a) ∙ ap (λ (x : Outcome). stores x.answer) q ∙ stores-wrote b, ap (λ (x : Outcome). x.memory) q)

  pub one_answer_read : (a b : Result ℕ LoadError) → outcome (got a) m ≡ o → outcome (got b) k ≡ o → (a ≡ b) × (m ≡ k)
  one_answer_read a b e f =
      let q : outcome (got a) m ≡ outcome (got b) k = e ∙ sym f in
      (sym (loads-got a) ∙ ap (λ (x : Outcome). loads x.answer) q ∙ loads-got b, ap (λ (x : Outcome). x.memory) q)
