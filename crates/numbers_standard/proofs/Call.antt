-- The whole text, the refusals of the call, and the choice.
use Rattle.std.proofs.Common.{Option, None, Some, Ok, Err, IsErrAnd}
use Rattle.numbers.specs.declared.NumberError.{NumberError}
use Rattle.numbers_standard.specs.declared.NumberByError.{NumberByError}
use Rattle.numbers_standard.specs.declared.NumberByError.TheVariants.{Number}
use Rattle.numbers.specs.declared.Parts.{Parts}
use Rattle.refusal.specs.Refusals.{over_long, not_utf8, limit, unknown_choice}
use Rattle.numbers.specs.Grammar.{judged, prefix, Parsed}
use Rattle.numbers.specs.Call.{Answer, answered, given, number, refused}
use Rattle.numbers.specs.Grammars.{parts_by}
use Rattle.numbers_standard.specs.Grammar.{complex, number_parts, parse_standard}
use Rattle.numbers_standard.specs.Call.{NumberByAnswer, answered_by, bought, standard, by_standard, number_by}
use Rattle.chars.specs.Utf8.{first_bad}
use Prim.Native.Nat.{ℕ, ◌≤◌, ◌<◌}
use mathlib.Core.Path.{◌≡◌, ap, ◌∙◌}
use mathlib.Core.List.{List}
use lib.ListN.{length, drop}
use lib.Dec.{eqb}
use Rattle.laws.proofs.Choice.{by_bool}
use native.Mathlib.Omega.{arith}
use borrow.Author.Tests.{lt-ltb, le-ltb, eq-eqb, ne_eqb, eqb-true, eqb-false}

-- the prefix m
module _ (s : List ℕ) (m : ℕ) (b : Option Parts) (r : Parsed) (p : m ≡ prefix s) where
  pub parse_ten : m ≡ 0 → b ≡ complex 10 0 s → r ≡ judged b → r ≡ parse_standard s
  unfolding parse_standard number_parts
  parse_ten z e f = simp (← p, eq-eqb m 0 z, ← e) f

  pub parse_radix : (m ≡ 0 → ⊥) → b ≡ complex m 2 (drop 2 s) → r ≡ judged b → r ≡ parse_standard s
  unfolding parse_standard number_parts
  parse_radix z e f = simp (← p, ne_eqb m 0 z, ← e) f

pub parse_parts : (s : List ℕ) (b : Option Parts) (r : Parsed) → b ≡ parts_by complex s → r ≡ judged b → r ≡ parse_standard s
unfolding parse_standard number_parts
parse_parts s b r e f = f ∙ ap judged e

-- refusals 20 and 21
module _ (t : List ℕ) where
  pub too_long : limit < length t → by_standard t ≡ refused over_long limit
  unfolding by_standard
  too_long h = simp (lt-ltb limit (length t) h)

  module _ (h : length t ≤ limit) where
    pub not_utf8_holds : (at : ℕ) → first_bad t ≡ Some at → by_standard t ≡ refused not_utf8 at
    unfolding by_standard
    not_utf8_holds at e = simp (le-ltb limit (length t) h, e)

    pub served : first_bad t ≡ None → by_standard t ≡ given (parse_standard t)
    unfolding by_standard
    served e = simp (le-ltb limit (length t) h, e)

-- the choice c
module _ (c : ℕ) (t : List ℕ) where
  pub by_bought : c ≡ bought → number t ≡ number_by c t
  unfolding number_by
  by_bought h = simp (eq-eqb c bought h)

  module _ (n : c ≡ bought → ⊥) where
    pub by_standard_lem : c ≡ standard → by_standard t ≡ number_by c t
    unfolding number_by
    by_standard_lem h = simp (ne_eqb c bought n, eq-eqb c standard h)

    pub by_unknown : (c ≡ standard → ⊥) → refused unknown_choice 0 ≡ number_by c t
    unfolding number_by
    by_unknown m = simp (ne_eqb c bought n, ne_eqb c standard m)

  pub by_other : c ≤ standard → (c ≡ bought → ⊥) → by_standard t ≡ number_by c t
  by_other l n =
      by_standard_lem n (by_bool (eqb c standard) (λ e. eqb-true c standard e) (λ e. absurd (n (omega (arith, eqb-false c standard e)))))

  -- what both readers answer
  pub by_both : c ≤ standard → (a : Answer) → a ≡ number t → a ≡ by_standard t → a ≡ number_by c t
  by_both l a f g = by_bool (eqb c bought) (λ e. f ∙ by_bought (eqb-true c bought e)) (λ e. g ∙ by_other l (eqb-false c bought e))

-- a refusal of the number call is told by the call with a choice as it is
pub refused_by : (r : NumberByAnswer) (e : NumberError) → IsErrAnd r (λ x. x ≡ Number e) → answered_by r ≡ answered (Err e)
refused_by (Ok p) e h = absurd h
refused_by (Err x) e h = ap (λ (y : NumberByError). answered_by (Err y)) h

-- what an arm of a match tells of an answer
pub refused_as : (a : NumberByAnswer) (e x : NumberByError) → a ≡ Err e → e ≡ x → a ≡ Err x
refused_as a e x h k = h ∙ ap (λ (y : NumberByError). Err y) k
