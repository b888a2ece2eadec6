-- The code builds the words of the error as the definition has them (Strung).
use native.Mathlib.Omega.{arith}
use Rattle.lexer.proofs.Strung.{wrong_turn}
use Rattle.lexer.proofs.strings.wrong.Goals as goal

pub overflow_cast-m : goal.overflow_cast-m
overflow_cast-m c = omega (arith, (c.shared_slice_known-2-1.given c.args.end).fits)

pub returns : goal.returns
returns c free =
    rw (c.nine_of.ensures, c.past.ensures) (wrong_turn c.args.source.now c.args.p c.args.end c.requires.1 free)
