-- At each place the line's end is what it was from the start.
use mathlib.Core.Path.{sym, ◌∙◌}
use native.Mathlib.Omega.{arith}
use borrow.Author.Tests.{eq-eqb, ne_eqb}
use Rattle.chars.proofs.Width.{wide}
use Rattle.lexer.proofs.CharacterAt.{char_found}
use Rattle.lexer.proofs.Opens.{line_stop, line_on, line_none}
use Rattle.lexer.proofs.opening.line_end.Goals as goal

pub returns-then-code-eq-NEWLINE : goal.returns-then-code-eq-NEWLINE
returns-then-code-eq-NEWLINE c =
    line_stop c.args.source.now c.loop-code.at c.in-Char.code c.in-Char.next
    (sym c.in-Char.is ∙ c.decode_at.ensures) (eq-eqb _ _ c.if-code-eq-NEWLINE.true) ∙ c.loop-code.invariant

pub loop-code-smaller : goal.loop-code-smaller
loop-code-smaller c =
    omega (
      arith,
      char_found c.args.source.now c.loop-code.at
          c.in-Char.code c.in-Char.next (sym c.in-Char.is ∙ c.decode_at.ensures),
      wide c.in-Char.code,
    )

pub loop-code-preserved : goal.loop-code-preserved
loop-code-preserved c =
    sym (line_on c.args.source.now c.loop-code.at c.in-Char.code c.in-Char.next
    (sym c.in-Char.is ∙ c.decode_at.ensures) (ne_eqb _ _ c.if-code-eq-NEWLINE.false)) ∙ c.loop-code.invariant

pub returns : goal.returns
returns c = line_none c.args.source.now c.loop-code.at c.decode_at.result c.decode_at.ensures c.in_default.not-Char ∙ c.loop-code.invariant
