-- An infinity or no number goes first, then a sign and what follows it.
use Rattle.numbers.proofs.Grammars.{real_infnan, real_signed}
use mathlib.Core.Path.{sym, ◌∙◌}
use Rattle.numbers.proofs.reals.real_at.Goals as goal

pub returns-in-Some : goal.returns-in-Some
returns-in-Some g c = sym c.in-Some.is ∙ real_infnan g.met.G.NumberGrammar.reals _ _ _ _ c.infnan_at.ensures _ c.in-Some.is

pub returns : goal.returns
returns g c =
    real_signed g.met.G.NumberGrammar.reals _ _ _ _ c.infnan_at.ensures _ _ _ c.in_default.is
    c.starts_at-neg.ensures c.sign_end-a.ensures c.ureal_at.ensures
