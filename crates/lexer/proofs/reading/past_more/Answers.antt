-- Each blank that is passed, and the run of those after them, leave what reading on starts with (Starts).
use borrow.Author.Tests.{leb-true}
use native.Mathlib.Omega.{arith}
use mathlib.Core.Path.{refl, sym, ap, ◌∙◌}
use Prim.Native.Nat.{ℕ, ◌≤◌}
use lib.ListN.{drop, length-drop}
use Rattle.laws.specs.Texts.{span}
use Rattle.laws.proofs.Runs.{span_le}
use Rattle.chars.specs.Utf8.{chars}
use Rattle.byte_runs.specs.Runs.{blank}
use Rattle.lexer.specs.Reading.{start_from}
use Rattle.lexer.proofs.Starts.{blanks, start_run}
use Rattle.lexer.proofs.reading.past_more.Tie as tie
use Rattle.lexer.proofs.reading.past_more.Lts as lts
use Rattle.lexer.proofs.reading.past_more.Reads as reads
use Rattle.lexer.proofs.reading.past_more.Goals as goal

some : (c : lts.Else1 tie.the-claims reads.Pre reads.Post goal.the-invariant-loop goal.the-decreases-loop) → 1 ≤ span blank (drop c.loop.at c.args.source.now)
some c = leb-true 1 (span blank (drop c.loop.at c.args.source.now)) (sym c.blank_at.ensures ∙ c.if-not-blank_at.false)

pub loop-init : goal.loop-init
loop-init c = (omega arith, refl)

pub overflow_add-at : goal.overflow_add-at
overflow_add-at c =
    let a = c.loop.at in
    let s = c.args.source.now in
    omega (arith, some c.before, span_le blank (drop a s), length-drop a s)

pub loop-preserved : goal.loop-preserved
loop-preserved c = (
  omega (arith, c.loop.invariant.0),
  blanks c.args.source.now 1 c.loop.at (some c.before) ∙ c.loop.invariant.1,
)

pub returns-then-not-blank_at : goal.returns-then-not-blank_at
returns-then-not-blank_at c = c.loop.invariant

pub returns : goal.returns
returns c =
    let s = c.args.source.now in (
      omega (arith, c.blank_end.ensures, c.loop.invariant.0),
      ap (λ (i : ℕ). start_from i (chars (drop i s))) c.blank_end.ensures ∙ start_run s c.loop.at ∙ c.loop.invariant.1,
    )
