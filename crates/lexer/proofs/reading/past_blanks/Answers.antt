-- One blank is passed (Starts), or two and all that follow.
use borrow.Author.Tests.{leb-true}
use native.Mathlib.Omega.{arith}
use mathlib.Core.Path.{refl, sym, ◌∙◌}
use Prim.Native.Nat.{◌+◌, ◌≤◌}
use lib.ListN.{drop, length-drop}
use Rattle.laws.specs.Texts.{span}
use Rattle.laws.proofs.Runs.{span_le}
use Rattle.byte_runs.specs.Runs.{blank}
use Rattle.lexer.proofs.Starts.{blanks}
use Rattle.lexer.proofs.reading.past_blanks.Tie as tie
use Rattle.lexer.proofs.reading.past_blanks.Lts as lts
use Rattle.lexer.proofs.reading.past_blanks.Reads as reads
use Rattle.lexer.proofs.reading.past_blanks.Goals as goal

some : (c : lts.Then1 tie.the-claims reads.Pre reads.Post) → 1 ≤ span blank (drop c.args.at c.args.source.now)
some c = leb-true 1 (span blank (drop c.args.at c.args.source.now)) (sym c.blank_at.ensures ∙ c.if-blank_at.true)

some_more : (c : lts.Then2 tie.the-claims reads.Pre reads.Post) → 1 ≤ span blank (drop (c.args.at + 1) c.args.source.now)
some_more c =
    leb-true 1 (span blank (drop (c.args.at + 1) c.args.source.now)) (sym c.blank_at-then-blank_at.ensures ∙ c.if-blank_at-2.true)

pub overflow_add-next : goal.overflow_add-next
overflow_add-next c = let a = c.args in omega (arith, some c.before, span_le blank (drop a.at a.source.now), length-drop a.at a.source.now)

pub overflow_add-next-then-blank_at-2 : goal.overflow_add-next-then-blank_at-2
overflow_add-next-then-blank_at-2 c = let a = c.args in omega (arith, some_more c.before, span_le blank (drop (a.at + 1) a.source.now), length-drop (a.at + 1) a.source.now)

pub returns-then-blank_at-2 : goal.returns-then-blank_at-2
returns-then-blank_at-2 c =
    let a = c.args in (
      omega (arith, c.past_more.ensures.0),
      c.past_more.ensures.1 ∙ blanks a.source.now 1 (a.at + 1) (some_more c.before.before) ∙ blanks a.source.now 1 a.at (some c.before.before.before.before),
    )

pub returns-then-blank_at : goal.returns-then-blank_at
returns-then-blank_at c = let a = c.args in (omega arith, blanks a.source.now 1 a.at (some c.before.before.before))

pub returns : goal.returns
returns c = (omega arith, refl)
