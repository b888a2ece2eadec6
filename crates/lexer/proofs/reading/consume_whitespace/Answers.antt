-- At each place what is left to find is what was to find from the start: a blank is passed over, and any other character is the answer.
use mathlib.Core.Path.{sym, ◌∙◌}
use native.Mathlib.Omega.{arith}
use Rattle.chars.proofs.Width.{wide}
use Rattle.lexer.proofs.CharacterAt.{char_found}
use Rattle.lexer.proofs.Starts.{start_blank, start_solid, start_none}
use Rattle.lexer.proofs.reading.consume_whitespace.Goals as goal

pub loop-code-smaller : goal.loop-code-smaller
loop-code-smaller c =
    omega (
      arith,
      char_found c.args.source.now c.loop-code.at
          c.in-Char.code c.in-Char.next (sym c.in-Char.is ∙ c.decode_at.ensures),
      wide c.in-Char.code,
      c.past_spaces-at.ensures.0,
    )

pub loop-code-preserved : goal.loop-code-preserved
loop-code-preserved c =
    c.past_spaces-at.ensures.1
    ∙ sym (start_blank c.args.source.now c.loop-code.at c.in-Char.code c.in-Char.next
    (sym c.in-Char.is ∙ c.decode_at.ensures)
    (sym c.is_blank.ensures ∙ c.if-not-is_blank.false))
    ∙ c.loop-code.invariant

pub returns-then-not-is_blank : goal.returns-then-not-is_blank
returns-then-not-is_blank c =
    start_solid c.args.source.now c.loop-code.at c.in-Char.code c.in-Char.next
    (sym c.in-Char.is ∙ c.decode_at.ensures) (sym c.is_blank.ensures ∙ c.if-not-is_blank.true) ∙ c.loop-code.invariant

pub returns : goal.returns
returns c = start_none c.args.source.now c.loop-code.at c.decode_at.result c.decode_at.ensures c.in_default.not-Char ∙ c.loop-code.invariant
