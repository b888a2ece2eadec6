-- The tests of the table for two, three and four bytes (Wide).
use native.Mathlib.Omega.{arith}
use Prim.Native.Nat.{◌+◌}
use lib.ListN.{get_or}
use mathlib.Core.Path.{sym, ◌∙◌}
use Rattle.chars.proofs.Wide.{at_two, at_three, at_four, second_three, second_four}
use Rattle.chars.proofs.letters.wide_at.Goals as goal

pub returns-then-is_tail : goal.returns-then-is_tail
returns-then-is_tail c =
    at_two c.args.s.now c.args.at (omega arith) (omega arith) (omega arith) (sym c.is_tail.ensures ∙ c.if-is_tail.true)

pub returns-then-is_tail-2 : goal.returns-then-is_tail-2
returns-then-is_tail-2 c =
    at_three c.args.s.now c.args.at (omega arith) (omega arith) (omega arith) (sym c.is_tail-then-is_second.ensures ∙ c.if-is_tail-2.true)
    (second_three (get_or c.args.s.now c.args.at 0) (get_or c.args.s.now (c.args.at + 1) 0) c.is_second.ensures c.if-is_second.true (omega arith))

pub returns-then-is_tail-4 : goal.returns-then-is_tail-4
returns-then-is_tail-4 c =
    at_four c.args.s.now c.args.at (omega arith) (omega arith) (omega arith) (sym c.is_tail-then-is_second-2.ensures ∙ c.if-is_tail-3.true)
    (sym c.is_tail-then-is_tail-3.ensures ∙ c.if-is_tail-4.true) (second_four (get_or c.args.s.now c.args.at 0) (get_or c.args.s.now (c.args.at + 1) 0) c.is_second-then-room-ge4.ensures c.if-is_second-2.true (omega arith))
