-- The arms are rows of `first_of`; what each begins is told by its own function.
use native.Mathlib.Omega.{arith}
use mathlib.Core.Path.{refl}
use Rattle.laws.specs.Quoted.{code}
use Rattle.chars.specs.Blank.{is_blank}
use Rattle.chars.proofs.Cuts.{good_past}
use Rattle.items.specs.Classes.{starts_run, first_of}
use Rattle.items.specs.declared.Phase.TheVariants as ph
use Rattle.items.specs.declared.Quotes.TheVariants.{Lines}
use Rattle.lexer.proofs.Glances.{begins}
use Rattle.lexer.proofs.Quotings.{quoting}
use Rattle.lexer.proofs.glance.quick_rare.Goals as goal

pub quick_quoted-requires : goal.quick_quoted-requires
quick_quoted-requires c = (
  c.requires.0,
  quoting c.args.source.now c.args.at Lines c.requires.1 c.in-124.is,
  good_past c.args.source.now c.args.at c.requires.2 c.requires.1 (omega (arith, c.in-124.is)),
)

pub quick_run-requires : goal.quick_run-requires
unfolding first_of starts_run is_blank
quick_run-requires c =
    (c.requires.0, begins c.args.source.now c.args.at (code "-") ph.InRun c.requires.1 c.in-45.is (omega arith) refl refl)

pub returns-in-124 : goal.returns-in-124
returns-in-124 c skip = c.quick_quoted.ensures c.args.report skip

pub returns-in-45 : goal.returns-in-45
returns-in-45 c skip = c.quick_run.ensures skip

pub returns-in_default : goal.returns-in_default
returns-in_default c skip = c.rare_word.ensures c.args.report skip
