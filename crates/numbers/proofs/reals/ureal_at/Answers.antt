-- In radix 10 a decimal goes first; what is none, and every other radix, is an integer or a rational.
use Rattle.numbers.proofs.Grammars.{ureal-exact, ureal-decimal, ureal_other}
use mathlib.Core.Path.{sym, ◌∙◌}
use Rattle.numbers.proofs.reals.ureal_at.Goals as goal
use Rattle.numbers.proofs.reals.ureal_at.Goals.{then-radix-eq-DECIMAL_RADIX+in_default, else-radix-eq-DECIMAL_RADIX}

pub returns-in-Some : goal.returns-in-Some
returns-in-Some g c = sym c.in-Some.is ∙ ureal-decimal g.met.G.NumberGrammar.reals _ _ _ _ _ c.if-radix-eq-DECIMAL_RADIX.true c.decimal_at.ensures _ c.in-Some.is

pub returns : goal.returns
returns g c = elim c.if-radix-eq-DECIMAL_RADIX.branch [
  | then-radix-eq-DECIMAL_RADIX+in_default w ↦
      ureal_other g.met.G.NumberGrammar.reals _ _ _ _ _ w.if-radix-eq-DECIMAL_RADIX.true w.decimal_at.ensures _ w.in_default.is c.exact_at.ensures
  | else-radix-eq-DECIMAL_RADIX w ↦ ureal-exact g.met.G.NumberGrammar.reals _ _ _ _ _ w.if-radix-eq-DECIMAL_RADIX.false c.exact_at.ensures
]
