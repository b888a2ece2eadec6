-- The arms are rows of `first_of`: a word in vertical lines (Quotings), a number run, another word (Skims).
use native.Mathlib.Omega.{arith}
use mathlib.Core.Path.{refl}
use Prim.Native.Nat.{◌+◌}
use Rattle.laws.specs.Quoted.{code}
use Rattle.chars.specs.Blank.{is_blank}
use Rattle.chars.proofs.Cuts.{good_past}
use Rattle.items.specs.Classes.{starts_run, first_of}
use Rattle.items.specs.declared.Phase.TheVariants as ph
use Rattle.items.specs.declared.Quotes.TheVariants.{Lines}
use Rattle.lexer.proofs.Glances.{begins}
use Rattle.lexer.proofs.Quotings.{quoted_skims}
use Rattle.lexer.proofs.Skims.{run_skims, worded_skims}
use Rattle.lexer.proofs.glance.skim_rare.Goals as goal

pub quoted_ending-requires : goal.quoted_ending-requires
quoted_ending-requires c =
    (omega (arith, c.requires.1), good_past c.args.source.now c.args.at c.requires.2 c.requires.1 (omega (arith, c.in-124.is)))

pub run_ending-requires : goal.run_ending-requires
run_ending-requires c = omega (arith, c.requires.1)

pub returns-in-124 : goal.returns-in-124
returns-in-124 c skip =
    quoted_skims c.args.source.now c.args.at Lines c.requires.0 c.requires.1 c.in-124.is c.quoted_ending.result (c.quoted_ending.ensures Lines refl)
    c.args.report skip

pub returns-in-45 : goal.returns-in-45
unfolding first_of starts_run is_blank
returns-in-45 c skip =
    let is = c.in-45.is in
    run_skims c.args.source.now c.args.report skip c.args.at (c.args.at + 1) c.requires.0
    (begins c.args.source.now c.args.at (code "-") ph.InRun c.requires.1 is (omega arith) refl refl) (λ e. omega (arith, e, is))
    c.run_ending.result c.run_ending.ensures

pub returns-in_default : goal.returns-in_default
returns-in_default c skip =
    worded_skims c.args.source.now c.args.report skip c.args.at c.requires.0 c.rare_ending.result c.rare_ending.ensures
