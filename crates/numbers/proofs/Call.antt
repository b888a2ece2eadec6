-- The number call: its refusals are given exactly where document 01 says, and its contract leaves one answer.
use Rattle.numbers.specs.Call.{answered, given, number, Answer, parts, no_number, error, refused, NumberAnswer}
use Rattle.numbers.specs.Grammar.{parse_number, Parsed}
use Rattle.std.specs.Prelude.{if◌then◌else◌, None, Some, Ok, Err}
use Rattle.laws.proofs.Choice.{impossible}
use Rattle.refusal.specs.Refusals.{over_long, not_utf8, limit}
use Rattle.chars.specs.Utf8.{first_bad}
use Prim.Native.Nat.{ℕ, ◌≤◌, ◌<◌}
use mathlib.Core.Path.{◌≡◌, refl, sym, ap, ◌∙◌}
use mathlib.Core.List.{List}
use lib.ListN.{length}
use lib.Dec.{eqb}
use borrow.Author.Tests.{lt-ltb, le-ltb}
use Rattle.numbers.specs.declared.ParseError.TheVariants as parsed
use Rattle.numbers.specs.declared.NumberError.TheVariants as answer

module _ (t : List ℕ) where
  pub too_long : limit < length t → number t ≡ refused over_long limit
  unfolding number
  too_long h = simp (lt-ltb limit (length t) h)

  module _ (h : length t ≤ limit) where
    pub not_utf8_holds : (at : ℕ) → first_bad t ≡ Some at → number t ≡ refused not_utf8 at
    unfolding number
    not_utf8_holds at e = simp (le-ltb limit (length t) h, e)

    -- a text under the limit that is UTF-8 is not refused
    pub served : first_bad t ≡ None → number t ≡ given (parse_number t)
    unfolding number
    served e = simp (le-ltb limit (length t) h, e)

pub given_unrefused : (p : Parsed) (n m : ℕ) → given p ≡ refused n m → ⊥
given_unrefused (Ok p) n m e = impossible cc
given_unrefused (Err parsed.NoNumber) n m e = impossible cc
given_unrefused (Err parsed.ZeroDenominator) n m e = impossible cc

-- two answers that the contract permits for one text coincide
pub answered_one : (a b : NumberAnswer) → answered a ≡ answered b → a ≡ b
answered_one a b e = sym (back-answered a) ∙ ap back e ∙ back-answered b
  where
    back : Answer → NumberAnswer
    back (parts p) = Ok p
    back no_number = Err answer.NoNumber
    back (error n) = Err answer.ZeroDenominator
    back (refused n m) = if eqb n over_long then (Err answer.TooLong) else (Err (answer.NotUtf8 m))

    back-answered : (a : NumberAnswer) → back (answered a) ≡ a
    back-answered (Ok p) = refl
    back-answered (Err answer.NoNumber) = refl
    back-answered (Err answer.ZeroDenominator) = refl
    back-answered (Err answer.TooLong) = refl
    back-answered (Err (answer.NotUtf8 at)) = refl
