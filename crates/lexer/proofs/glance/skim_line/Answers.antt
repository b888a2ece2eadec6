-- The comment ends where its line does, and is kept (Skims).
use native.Mathlib.Omega.{arith}
use Prim.Native.Nat.{◌+◌}
use Rattle.items.specs.declared.Phase.TheVariants as ph
use Rattle.lexer.proofs.Tells.{begins_inside}
use Rattle.lexer.proofs.Skims.{line_skims}
use Rattle.lexer.proofs.glance.skim_line.Goals as goal

pub overflow_add-at : goal.overflow_add-at
overflow_add-at c = omega (arith, c.requires.0, begins_inside c.args.source.now c.args.at (c.args.at + 1) ph.InLine c.requires.1)

pub line_ending-requires : goal.line_ending-requires
line_ending-requires c = (omega (arith, begins_inside c.args.source.now c.args.at (c.args.at + 1) ph.InLine c.requires.1), c.requires.2)

pub returns : goal.returns
returns c report =
    line_skims c.args.source.now report c.args.skip c.args.at (c.args.at + 1) c.requires.0 c.if-skip.false
    c.requires.1 c.line_ending.result (c.line_ending.ensures report)
