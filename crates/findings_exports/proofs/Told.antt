-- The call's answer told, and all that it leaves.
use Prim.Native.Nat.{ℕ}
use Rattle.std.proofs.Common.{Result}
use mathlib.Core.Path.{◌≡◌, sym, ap, ◌∙◌}
use mathlib.Core.List.{List}
use Rattle.chars.specs.Encode.{lay}
use Rattle.findings.specs.Find.{Outcome, outcome, call_of}
use Rattle.findings.specs.declared.Counted.{Counted}
use Rattle.findings.specs.declared.TooFew.{TooFew}
use Rattle.findings_exports.specs.Told.{number_in, values_in, left_behind, leaving, find_left}

pub answer_told : (values : List ℕ) {a b : Result Counted TooFew} {now : List ℕ} → a ≡ b → now ≡ lay (values_in b) values
    → (number_in b ≡ number_in a) × (now ≡ lay (values_in a) values)
answer_told values e h = (ap number_in (sym e), h ∙ ap (λ (x : Result Counted TooFew). lay (values_in x) values) (sym e))

pub call_told : (source records findings values : List ℕ) {a : Result Counted TooFew} {records' findings' values' : List ℕ} {n : ℕ}
    → outcome a records' findings' ≡ call_of source records findings → n ≡ number_in a → values' ≡ lay (values_in a) values
    → left_behind n records' findings' values' ≡ find_left source records findings values
unfolding find_left
call_told source records findings values {a} {records'} {findings'} {values'} e f g =
    ap (λ (k : ℕ). left_behind k records' findings' values') f
    ∙ ap (left_behind (number_in a) records' findings') g
    ∙ ap (λ (c : Outcome). leaving c values) e
