-- What was counted so far and what is still to come make up the whole text, which is not longer than the item. A run counts for its bytes.
use Prim.Native.Nat.{◌+◌, ◌-◌, ◌≤◌}
use native.Mathlib.Omega.{arith}
use lib.ListN.{length, drop, length-drop}
use Rattle.items.specs.Meaning.{unescape}
use Rattle.items.proofs.Shorter.{shorter}
use Rattle.escapes.proofs.Laying.{Reading, reading_start, reading_end, reading_le, reading_fits, reading_on}
use Rattle.escapes.proofs.PlainRuns.{reading_run}
use Rattle.escapes.proofs.decoded_length.Tie as tie
use Rattle.escapes.proofs.decoded_length.Lts as lts
use Rattle.escapes.proofs.decoded_length.Reads as reads
use Rattle.escapes.proofs.decoded_length.Goals as goal

-- past the run
counted : (c : lts.After-run_end tie.the-claims reads.Pre reads.Post goal.the-invariant-loop-i goal.the-decreases-loop-i)
    → let a = c.args in
    let i = c.loop-i.i in
    let stop = c.run_end-stop.result in
    Reading a.k a.raw.now (unescape a.k (drop a.from a.raw.now)) (c.loop-i.n + (stop - i)) stop
counted c = reading_run c.run_end-stop.ensures c.loop-i.invariant

-- the whole text is not longer than the item
short : (c : lts.After-run_end tie.the-claims reads.Pre reads.Post goal.the-invariant-loop-i goal.the-decreases-loop-i)
    → let a = c.args in
    length (unescape a.k (drop a.from a.raw.now)) ≤ length a.raw.now
short c =
    let a = c.args in
    omega (arith, shorter a.k (drop a.from a.raw.now), length-drop a.from a.raw.now)

pub loop-i-init : goal.loop-i-init
loop-i-init c = reading_start _ _ _ c.requires

pub overflow_sub-n : goal.overflow_sub-n
overflow_sub-n c = omega (arith, c.run_end-stop.ensures)

pub overflow_add-n : goal.overflow_add-n
overflow_add-n c = omega (arith, reading_le (counted c.before), short c.before)

pub returns-then-raw-stop : goal.returns-then-raw-stop
returns-then-raw-stop c = reading_end (counted c.before.before) c.if-raw-stop.true

pub given_length-n-requires : goal.given_length-n-requires
given_length-n-requires c = c.read_element-e.ensures.safe

pub overflow_add-n-in-loop-i : goal.overflow_add-n-in-loop-i
overflow_add-n-in-loop-i c =
    omega (arith, reading_fits (counted c.before.before.before.before) c.read_element-e.result c.read_element-e.ensures, c.given_length-n.ensures, short c.before.before.before.before)

pub loop-i-smaller : goal.loop-i-smaller
loop-i-smaller c = omega (arith, c.read_element-e.ensures.ahead, c.read_element-e.ensures.inside, c.run_end-stop.ensures)

pub loop-i-preserved : goal.loop-i-preserved
loop-i-preserved c = reading_on (counted c.before.before.before.before) c.read_element-e.result c.read_element-e.ensures _ c.given_length-n.ensures

pub returns : goal.returns
returns c = reading_end c.loop-i.invariant c.loop-i-test.false
