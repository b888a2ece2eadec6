-- The loop keeps: up to the place i a phase that holds all but two characters is passed (Letters).
use native.Mathlib.Omega.{arith}
use Prim.Native.Nat.{◌≤◌}
use lib.ListN.{length, drop, length-drop}
use Rattle.laws.proofs.Runs.{span_le}
use Rattle.byte_runs.specs.Runs.{plain}
use Rattle.items.specs.declared.Phase.{Phase}
use Rattle.items.specs.declared.Phase.TheVariants as ph
use Rattle.steps.specs.Scan.{Passes}
use Rattle.steps.specs.Held.{Holds}
use Rattle.steps.proofs.Letters.{passes_none, passes_on, passes_plain, passes_wides, line_lasts}
use Rattle.steps.proofs.runs.past_plain.Tie as tie
use Rattle.steps.proofs.runs.past_plain.Lts as lts
use Rattle.steps.proofs.runs.past_plain.Reads as reads
use Rattle.steps.proofs.runs.past_plain.Goals as goal

inside : (c : lts.After-plain_end tie.the-claims reads.Pre reads.Post goal.the-invariant-loop-from goal.the-decreases-loop-from) → c.plain_end-j.result ≤ length c.args.s.now
inside c =
    let f = c.args in
    omega (
      arith,
      c.loop-from.invariant.0,
      c.plain_end-j.ensures,
      span_le (plain f.a f.b) (drop c.loop-from.i f.s.now),
      length-drop c.loop-from.i f.s.now,
    )

within : (c : lts.After-wide_end tie.the-claims reads.Pre reads.Post goal.the-invariant-loop-from goal.the-decreases-loop-from) → c.wide_end-k.result ≤ length c.args.s.now
within c = (passes_wides _ ph.InLine _ _ line_lasts (inside c.before) c.wide_end-k.ensures).1

far : (c : lts.After-wide_end tie.the-claims reads.Pre reads.Post goal.the-invariant-loop-from goal.the-decreases-loop-from) (p : Phase) → Holds p c.args.a c.args.b
    → Passes c.args.s.now p c.args.from c.wide_end-k.result
far c p h =
    let f = c.args in
    let l = c.loop-from in
    let j = c.plain_end-j in
    passes_on f.s.now p f.from j.result c.wide_end-k.result
    (passes_on f.s.now p f.from l.i j.result (l.invariant.1 p h)
    (passes_plain f.s.now p f.a f.b l.i j.result h l.invariant.0 j.ensures))
    (passes_wides f.s.now p j.result c.wide_end-k.result h.lasts (inside c.before) c.wide_end-k.ensures)

pub loop-from-init : goal.loop-from-init
loop-from-init c = (c.requires, λ p h. passes_none _ p _ c.requires)

pub returns-then-k-j : goal.returns-then-k-j
returns-then-k-j c = far c.before.before

pub loop-from-smaller : goal.loop-from-smaller
loop-from-smaller c = omega (arith, within c.before.before, c.plain_end-j.ensures)

pub loop-from-preserved : goal.loop-from-preserved
loop-from-preserved c = (within c.before.before, far c.before.before)
