-- Programs that meet no promise of the calls, whatever else they do: a row of specs/Number, where the definition answers otherwise, contradicts each.
use Rattle.std.specs.Prelude.{ℕ, ◌≡◌, Bool, true, false, List}
use Rattle.std.proofs.Common.{ap, sym, ◌∙◌, arith}
use Rattle.laws.proofs.Choice.{impossible}
use Rattle.chars.specs.Encode.{spelled}
use Rattle.numbers.specs.Plain.{plain}
use Rattle.numbers.specs.declared.Parts.{Parts}
use Rattle.numbers.specs.Call.{Answer, parts, no_number, error, refused, number}
use Rattle.items_promises.specs.Number.{rows}

-- no program that always answers the same meets the promise, be it "no number" or a refusal
never_fixed : (a : Answer) → ((t : List ℕ) → a ≡ number t) → ⊥
never_fixed a h =
    let e : no_number ≡ error 8 = sym (h (spelled "-") ∙ rows.no_digits) ∙ (h (spelled "1/0") ∙ rows.zero) in
    impossible cc

-- nor does one that refuses everything, each text as it likes
never_refused : (n m : List ℕ → ℕ) → ((t : List ℕ) → refused (n t) (m t) ≡ number t) → ⊥
never_refused n m h =
    let e : refused (n (spelled "-")) (m (spelled "-")) ≡ no_number = h (spelled "-") ∙ rows.no_digits in
    impossible cc

-- what is answered, told apart by a number
abbrev sort : Answer → ℕ
sort (parts p) = 0
sort no_number = 1
sort (error n) = 2
sort (refused n a) = 3

-- nor one that calls `-5` no number
never_unread : no_number ≡ number (spelled "-5") → ⊥
never_unread h = omega (arith, ap sort (h ∙ rows.negative))

-- nor one that calls `#xe+1i` a number (E15), or `1/0` (E5), and `1@1/-2` none (E7)
never_sign_after_e : (p : Parts) → parts p ≡ number (spelled "#xe+1i") → ⊥
never_sign_after_e p h = omega (arith, ap sort (h ∙ rows.sign_after_e))

never_zero_denominator : (p : Parts) → parts p ≡ number (spelled "1/0") → ⊥
never_zero_denominator p h = omega (arith, ap sort (h ∙ rows.zero))

never_signless : no_number ≡ number (spelled "1@1/-2") → ⊥
never_signless h = omega (arith, ap sort (h ∙ rows.signed_denominator))

-- nor one of `is_plain` that calls a sign alone a number, or `1/0`
abbrev bit : Bool → ℕ
bit true = 1
bit false = 0

never_plain_sign : plain (spelled "-") ≡ true → ⊥
never_plain_sign h = omega (arith, ap bit (sym h ∙ rows.plain_sign))

never_plain_zero : plain (spelled "1/0") ≡ true → ⊥
never_plain_zero h = omega (arith, ap bit (sym h ∙ rows.plain_zero))
