-- Each arm puts together the words that `real_words` names for its case.
use Prim.Native.Nat.{ℕ}
use mathlib.Core.Path.{◌≡◌, sym, ap, ◌∙◌}
use mathlib.Core.List.{List}
use Rattle.numbers_words.specs.Words.{nothing, formed, real_words}
use Rattle.numbers_words.proofs.real_words.Goals as goal

-- one figure's words for another's
alone : (form : ℕ) {a b : List ℕ} → a ≡ b → formed form a nothing nothing ≡ formed form b nothing nothing
alone form e = ap (λ (x : List ℕ). formed form x nothing nothing) e

pub returns-in-Integer : goal.returns-in-Integer
unfolding real_words
returns-in-Integer c = c.simple.ensures ∙ alone 1 c.integer.ensures ∙ ap real_words (sym c.in-Integer.is)

pub returns-in-Rational : goal.returns-in-Rational
unfolding real_words
returns-in-Rational c = c.rational.ensures ∙ ap real_words (sym c.in-Rational.is)

pub returns-in-Decimal : goal.returns-in-Decimal
unfolding real_words
returns-in-Decimal c = c.decimal.ensures ∙ ap real_words (sym c.in-Decimal.is)

pub returns-in-PosInf : goal.returns-in-PosInf
unfolding real_words
returns-in-PosInf c = c.simple-in-PosInf.ensures ∙ alone 4 c.signed.ensures ∙ ap real_words (sym c.in-PosInf.is)

pub returns-in-NegInf : goal.returns-in-NegInf
unfolding real_words
returns-in-NegInf c = c.simple-in-NegInf.ensures ∙ alone 4 c.signed-in-NegInf.ensures ∙ ap real_words (sym c.in-NegInf.is)

pub returns-in-PosNan : goal.returns-in-PosNan
unfolding real_words
returns-in-PosNan c = c.simple-in-PosNan.ensures ∙ alone 5 c.signed-in-PosNan.ensures ∙ ap real_words (sym c.in-PosNan.is)

pub returns-in-NegNan : goal.returns-in-NegNan
unfolding real_words
returns-in-NegNan c = c.simple-in-NegNan.ensures ∙ alone 5 c.signed-in-NegNan.ensures ∙ ap real_words (sym c.in-NegNan.is)

pub returns-in-ImpliedZero : goal.returns-in-ImpliedZero
unfolding real_words
returns-in-ImpliedZero c = c.simple-in-ImpliedZero.ensures ∙ alone 6 c.nothing.ensures ∙ ap real_words (sym c.in-ImpliedZero.is)

pub returns-in-ImpliedOne : goal.returns-in-ImpliedOne
unfolding real_words
returns-in-ImpliedOne c = c.simple-in-ImpliedOne.ensures ∙ alone 7 c.signed-in-ImpliedOne.ensures ∙ ap real_words (sym c.in-ImpliedOne.is)
