-- The run ends the item (Tells), and its bytes tell the rest.
use Rattle.std.proofs.Common.{Option}
use native.Mathlib.Omega.{arith}
use mathlib.Core.Path.{refl, sym, subst}
use Prim.Native.Nat.{ℕ, ◌+◌}
use Rattle.items.specs.declared.Outcome.TheVariants.{Run}
use Rattle.items.specs.declared.Phase.TheVariants as ph
use Rattle.steps.specs.Ended.{EndsAs}
use Rattle.lexer.proofs.Tells.{Spans, begins_inside, ends_here, spans, ended_told}
use Rattle.lexer.proofs.glance.quick_run.Tie as tie
use Rattle.lexer.proofs.glance.quick_run.Lts as lts
use Rattle.lexer.proofs.glance.quick_run.Reads as reads
use Rattle.lexer.proofs.glance.quick_run.Goals as goal

within : (c : lts.Past-After-known_told tie.the-claims reads.Pre reads.Post) → Spans c.args.source.now c.args.at c.in-Some.end
within c =
    spans c.args.source.now c.args.report c.args.at (c.args.at + 1) c.in-Some.end Run ph.InRun c.requires.1
    (ends_here c.args.source.now c.args.report c.args.at (c.args.at + 1) ph.InRun Run c.in-Some.end c.requires.1 (subst (λ (y : Option ℕ). EndsAs
    c.args.source.now c.args.report ph.InRun Run (c.args.at + 1) y) c.in-Some.is c.run_ending.ensures)) c.requires.0

pub overflow_add-at : goal.overflow_add-at
overflow_add-at c = omega (arith, c.requires.0, begins_inside c.args.source.now c.args.at (c.args.at + 1) ph.InRun c.requires.1)

pub run_ending-requires : goal.run_ending-requires
run_ending-requires c = omega (arith, begins_inside c.args.source.now c.args.at (c.args.at + 1) ph.InRun c.requires.1)

pub slice_bounds-tell_run-count : goal.slice_bounds-tell_run-count
slice_bounds-tell_run-count c = omega (arith, (within c.before).some)

pub slice_bounds-tell_run-start : goal.slice_bounds-tell_run-start
slice_bounds-tell_run-start c = omega (arith, (within c.before).some)

pub slice_bounds-tell_run-end : goal.slice_bounds-tell_run-end
slice_bounds-tell_run-end c = omega (arith, (within c.before).inside)

pub tell_run-requires : goal.tell_run-requires
tell_run-requires c = let w = within c.before.before in sym w.long

pub returns-in-Some : goal.returns-in-Some
returns-in-Some c skip =
    ended_told c.args.source.now c.args.report c.args.at (c.args.at + 1) c.in-Some.end Run ph.InRun c.requires.1
    (ends_here c.args.source.now c.args.report c.args.at (c.args.at + 1) ph.InRun Run
    c.in-Some.end c.requires.1 (subst (λ (y : Option ℕ). EndsAs c.args.source.now c.args.report ph.InRun Run (c.args.at + 1) y)
    c.in-Some.is c.run_ending.ensures))
    c.requires.0 (λ last i. refl) c.tell_run.result c.tell_run.ensures skip
