-- The answer to a party, taken apart into its mark and its number.
use Prim.Native.Nat.{ℕ}
use mathlib.Core.Path.{◌≡◌, sym, ap, ◌∙◌}
use mathlib.Core.List.{List}
use Rattle.std.proofs.Common.{Result, Ok, Err}
use Rattle.names.specs.Answers.{error_number, told_of}
use Rattle.names.specs.Call.{Outcome, outcome}
use Rattle.names.specs.declared.NameError.{NameError}
use Rattle.names_exports.specs.Marks.{entered, marked, entered_of}

module _ (a : Result ℕ NameError) (w b : List ℕ) (o : Outcome) {n : ℕ} where
  pub as_number : a ≡ Ok n → outcome (told_of a) w b ≡ o → entered 0 n w b ≡ entered_of o
  unfolding entered_of
  as_number e f = ap (λ (x : Result ℕ NameError). marked (told_of x) w b) (sym e) ∙ ap (λ (x : Outcome). marked x.answer x.words x.bytes) f

  pub as_refused : {x : NameError} → a ≡ Err x → n ≡ error_number x → outcome (told_of a) w b ≡ o → entered n 0 w b ≡ entered_of o
  unfolding entered_of
  as_refused e q f = rw q (ap (λ (x : Result ℕ NameError). marked (told_of x) w b) (sym e) ∙ ap (λ (x : Outcome). marked x.answer x.words x.bytes) f)
