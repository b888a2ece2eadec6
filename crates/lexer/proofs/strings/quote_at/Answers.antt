-- A quote begins a string.
use borrow.Author.Tests.{eqb-true}
use native.Mathlib.Omega.{arith}
use mathlib.Core.Path.{refl}
use Rattle.laws.specs.Quoted.{code}
use Rattle.laws.proofs.Choice.{no_yes}
use Rattle.chars.specs.Blank.{is_blank}
use Rattle.items.specs.Classes.{starts_run, first_of}
use Rattle.items.specs.declared.Quotes.TheVariants.{Double}
use Rattle.items.specs.declared.Phase.TheVariants as ph
use Rattle.lexer.proofs.Glances.{begins}
use Rattle.lexer.proofs.strings.quote_at.Goals as goal

pub returns-then-source-at : goal.returns-then-source-at
returns-then-source-at c = no_yes

pub returns : goal.returns
unfolding first_of starts_run is_blank
returns c e =
    let a = c.args in
    begins a.source.now a.at (code "\"") (ph.Quoted Double) (omega (arith, c.if-source-at.false)) (eqb-true _ _ e) (omega arith) refl refl
