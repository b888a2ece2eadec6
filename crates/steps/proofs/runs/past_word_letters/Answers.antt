-- The loop keeps: up to the place i a word is passed (Letters).
use native.Mathlib.Omega.{arith}
use Prim.Native.Nat.{◌+◌, ◌≤◌}
use lib.ListN.{length, drop, length-drop}
use Rattle.chars.specs.Wide.{PastAscii}
use Rattle.chars.proofs.Wide.{is_past, past_fits}
use Rattle.items.specs.declared.Phase.TheVariants as ph
use Rattle.steps.proofs.Letters.{passes_none, passes_on, passes_letter, word_stays}
use Rattle.steps.proofs.runs.past_word_letters.Tie as tie
use Rattle.steps.proofs.runs.past_word_letters.Lts as lts
use Rattle.steps.proofs.runs.past_word_letters.Reads as reads
use Rattle.steps.proofs.runs.past_word_letters.Goals as goal

letter : (c : lts.Else1 tie.the-claims reads.Pre reads.Post goal.the-invariant-loop-from goal.the-decreases-loop-from) → PastAscii (drop c.loop-from.i c.args.s.now) c.letter_at-n.result
letter c = is_past _ _ (omega arith) c.letter_at-n.ensures.0

fits : (c : lts.Else1 tie.the-claims reads.Pre reads.Post goal.the-invariant-loop-from goal.the-decreases-loop-from) → c.loop-from.i + c.letter_at-n.result ≤ length c.args.s.now
fits c = omega (
  arith,
  c.loop-from.invariant.0,
  past_fits _ _ (letter c),
  length-drop c.loop-from.i c.args.s.now,
)

pub loop-from-init : goal.loop-from-init
loop-from-init c = (c.requires, passes_none _ ph.InWord _ c.requires)

pub returns-then-n-eq0 : goal.returns-then-n-eq0
returns-then-n-eq0 c = c.loop-from.invariant.1

pub overflow_add-i : goal.overflow_add-i
overflow_add-i c = omega (arith, fits c.before)

pub loop-from-smaller : goal.loop-from-smaller
loop-from-smaller c = omega (arith, fits c.before)

pub loop-from-preserved : goal.loop-from-preserved
loop-from-preserved c = let l = c.loop-from in
    let s = c.args.s.now in
    let w = letter c.before in (
      fits c.before,
      passes_on s ph.InWord _ l.i _ l.invariant.1
          (passes_letter s ph.InWord l.i c.letter_at-n.result l.invariant.0 w
          (word_stays w.letter w.past (c.letter_at-n.ensures.1 w.letter w.reads))),
    )
