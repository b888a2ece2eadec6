-- The theorem for the number call with a choice: by choice 0 and by choice 1 it answers differently exactly if the text is not refused and
-- meets one of the three conditions.
use Rattle.std.proofs.Common.{None, Option, Some, Ok, Err}
use Prim.Native.Nat.{ℕ, ◌≤◌}
use mathlib.Core.Path.{◌≡◌, refl, sym, ap, ◌∙◌}
use mathlib.Core.List.{List}
use mathlib.Core.Logic.{◌↔◌}
use lib.ListN.{length}
use lib.Dec.{ltb}
use borrow.Author.Tests.{ltb-true, ltb-false}
use Rattle.laws.proofs.Choice.{by_bool}
use Rattle.refusal.specs.Refusals.{limit}
use Rattle.chars.specs.Utf8.{first_bad}
use Rattle.numbers.specs.declared.ParseError.TheVariants as parsed
use Rattle.numbers.specs.Grammar.{parse_number, Parsed}
use Rattle.numbers.specs.Call.{Answer, parts, no_number, error, refused, given, number}
use Rattle.numbers.proofs.Call as bought-call
use Rattle.numbers_standard.specs.Grammar.{parse_standard}
use Rattle.numbers_standard.specs.Call.{bought, standard, by_standard, number_by}
use Rattle.numbers_standard.proofs.Call as standard-call
use Rattle.numbers_difference.specs.Conditions.{Differs}
use Rattle.numbers_difference.proofs.Differs.{differs}

-- an answer tells what was read
given_one : (p q : Parsed) → given p ≡ given q → p ≡ q
given_one p q e = sym (back-given p) ∙ ap back e ∙ back-given q
  where
    back : Answer → Parsed
    back (parts p) = Ok p
    back no_number = Err parsed.NoNumber
    back (error n) = Err parsed.ZeroDenominator
    back (refused n m) = Err parsed.NoNumber

    back-given : (p : Parsed) → back (given p) ≡ p
    back-given (Ok p) = refl
    back-given (Err parsed.NoNumber) = refl
    back-given (Err parsed.ZeroDenominator) = refl

-- a text that is not refused
abbrev pub Readable : List ℕ → Type 0
Readable t = (length t ≤ limit) × (first_bad t ≡ None)

module _ (t : List ℕ) where
  -- the two calls
  by_choice : (number t ≡ by_standard t) ↔ (number_by bought t ≡ number_by standard t)
  unfolding number_by
  by_choice = ((λ e. e), (λ e. e))

  readable_differ : Readable t → number t ≡ by_standard t → parse_number t ≡ parse_standard t
  readable_differ r e = given_one (parse_number t) (parse_standard t) (sym (bought-call.served t r.0 r.1) ∙ e ∙ standard-call.served t r.0 r.1)

  readable_same : Readable t → parse_number t ≡ parse_standard t → number t ≡ by_standard t
  readable_same r e = bought-call.served t r.0 r.1 ∙ ap given e ∙ sym (standard-call.served t r.0 r.1)

  -- a refused text is refused alike
  met : (number t ≡ by_standard t → ⊥) → Readable t × Differs t
  met n =
      by_bool (ltb limit (length t))
      (λ e. absurd (n (bought-call.too_long t (ltb-true limit (length t) e) ∙ sym (standard-call.too_long t (ltb-true limit (length t) e)))))
      (λ e. go (ltb-false limit (length t) e) (first_bad t) refl)
    where
      go : length t ≤ limit → (u : Option ℕ) → first_bad t ≡ u → Readable t × Differs t
      go h None e = ((h, e), (differs t).0 (λ q. n (readable_same (h, e) q)))
      go h (Some at) e = absurd (n (bought-call.not_utf8_holds t h at e ∙ sym (standard-call.not_utf8_holds t h at e)))

  pub differs_by_choice : (number_by bought t ≡ number_by standard t → ⊥) ↔ (Readable t × Differs t)
  differs_by_choice =
      ((λ n. met (λ e. n (by_choice.0 e))), (λ c e. (differs t).1 c.1 (readable_differ c.0 (by_choice.1 e))))
