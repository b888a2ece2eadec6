-- The tests of a slip, and the search for the quote that closes its text, a byte at a time.
use Rattle.std.proofs.Common.{None, Some}
use Prim.Native.Nat.{ℕ, ◌+◌, ◌-◌, ◌≤◌, ◌<◌}
use mathlib.Core.Path.{◌≡◌, sym, ap, ◌∙◌}
use mathlib.Core.Bool.{Bool, true, false}
use mathlib.Core.List.{List, ◌∷◌}
use lib.ListN.{length, get_or, drop, drop_of_length-le}
use lib.Seq.{drop-cons}
use lib.Dec.{eqb}
use native.Mathlib.Numerals.{add-one}
use native.Mathlib.Omega.{arith}
use borrow.Author.Tests.{eq-eqb, ne_eqb}
use Rattle.laws.specs.Quoted.{code, one_of}
use Rattle.items.specs.Kinds as kind
use Rattle.findings_rows.specs.Mended.{escape_errors, closing, rest_from}

-- ---- the kinds of the errors that an escape may be

module _ (k : ℕ) where
  pub no_error_holds : k < kind.first_error → false ≡ one_of escape_errors k
  no_error_holds h =
      sym
      (rw (
        ne_eqb k 105 (λ e. omega arith),
        ne_eqb k 106 (λ e. omega arith),
        ne_eqb k 109 (λ e. omega arith),
        ne_eqb k 111 (λ e. omega arith),
        ne_eqb k 112 (λ e. omega arith),
      ))

-- ---- the closing quote

module _ (s : List ℕ) (quote at : ℕ) where
  pub closing_end : (escaped : Bool) → length s ≤ at → None ≡ closing quote escaped at (drop at s)
  unfolding closing
  closing_end escaped h = sym (ap (closing quote escaped at) (drop_of_length-le s h))

  module _ (inside : at < length s) where
    here : drop at s ≡ get_or s at 0 ∷ drop (at + 1) s
    here = drop-cons s at 0 inside ∙ ap (λ (k : ℕ). get_or s at 0 ∷ drop k s) (sym (add-one at))

    pub closing_escaped : (escaped : Bool) → escaped ≡ true → closing quote escaped at (drop at s) ≡ closing quote false (at + 1) (drop (at + 1) s)
    unfolding closing
    closing_escaped escaped e = ap (closing quote escaped at) here ∙ rw e

    pub closing_here : (escaped : Bool) → escaped ≡ false → get_or s at 0 ≡ quote → Some (at + 1) ≡ closing quote escaped at (drop at s)
    unfolding closing
    closing_here escaped e f = sym (ap (closing quote escaped at) here ∙ rw (e, eq-eqb (get_or s at 0) quote f))

    pub closing_on : (escaped : Bool) → escaped ≡ false → (get_or s at 0 ≡ quote → ⊥)
        → closing quote escaped at (drop at s) ≡ closing quote (eqb (get_or s at 0) (code "\\")) (at + 1) (drop (at + 1) s)
    unfolding closing
    closing_on escaped e f = ap (closing quote escaped at) here ∙ rw (e, ne_eqb (get_or s at 0) quote f)

-- ---- where the rest begins

module _ (k at : ℕ) where
  pub rest_same : (k ≡ kind.first_error + kind.UnclosedHexEscape → ⊥) → at ≡ rest_from k at
  rest_same h = sym (rw (ne_eqb k (kind.first_error + kind.UnclosedHexEscape) h))

  pub rest_before : k ≡ kind.first_error + kind.UnclosedHexEscape → {n : ℕ} → n ≡ at - 1 → n ≡ rest_from k at
  rest_before h e = e ∙ sym (rw (eq-eqb k (kind.first_error + kind.UnclosedHexEscape) h))
