-- The loop keeps: up to the place i a word is passed. It ends where neither look passes a character.
use native.Mathlib.Omega.{arith}
use Prim.Native.Nat.{◌≤◌}
use lib.ListN.{length, drop, length-drop}
use Rattle.laws.proofs.Runs.{span_le}
use Rattle.items.specs.declared.Phase.TheVariants as ph
use Rattle.steps.specs.Runs.{of_word}
use Rattle.steps.specs.Scan.{Passes}
use Rattle.steps.proofs.Kept.{passes}
use Rattle.steps.proofs.Ended.{not_kept}
use Rattle.steps.proofs.Letters.{passes_none, passes_on}
use Rattle.steps.proofs.runs.past_word.Tie as tie
use Rattle.steps.proofs.runs.past_word.Lts as lts
use Rattle.steps.proofs.runs.past_word.Reads as reads
use Rattle.steps.proofs.runs.past_word.Goals as goal

inside : (c : lts.After-word_end tie.the-claims reads.Pre reads.Post goal.the-invariant-loop-from goal.the-decreases-loop-from) → c.word_end-j.result ≤ length c.args.s.now
inside c =
    let s = c.args.s.now in
    omega (arith, c.loop-from.invariant.0, c.word_end-j.ensures, span_le of_word (drop c.loop-from.i s), length-drop c.loop-from.i s)

far : (c : lts.After-past_word_letters tie.the-claims reads.Pre reads.Post goal.the-invariant-loop-from goal.the-decreases-loop-from)
    → Passes c.args.s.now ph.InWord c.args.from c.past_word_letters-k.result
far c =
    let f = c.args in
    let l = c.loop-from in
    let j = c.word_end-j in
    passes_on f.s.now ph.InWord f.from j.result c.past_word_letters-k.result
    (passes_on f.s.now ph.InWord f.from l.i j.result l.invariant.1
    (passes f.s.now l.i ph.InWord j.result l.invariant.0 (omega (arith, j.ensures)) (omega (arith, j.ensures))))
    c.past_word_letters-k.ensures

pub loop-from-init : goal.loop-from-init
loop-from-init c = (c.requires, passes_none _ ph.InWord _ c.requires)

pub past_word_letters-k-requires : goal.past_word_letters-k-requires
past_word_letters-k-requires c = inside c.before

pub returns-then-k-j : goal.returns-then-k-j
returns-then-k-j c = let l = c.loop-from in
    let s = c.args.s.now in (
      far c.before.before,
      not_kept s l.i ph.InWord c.past_word_letters-k.result
          (omega (arith, c.word_end-j.ensures, c.if-k-j.true, c.past_word_letters-k.ensures.0)),
    )

pub loop-from-smaller : goal.loop-from-smaller
loop-from-smaller c = omega (arith, c.past_word_letters-k.ensures.1, c.word_end-j.ensures)

pub loop-from-preserved : goal.loop-from-preserved
loop-from-preserved c = (c.past_word_letters-k.ensures.1, far c.before.before)
