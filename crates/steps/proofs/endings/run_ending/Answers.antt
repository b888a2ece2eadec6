-- Past the run it ends with the text, or before a byte that stops it (Ended).
use native.Mathlib.Omega.{arith}
use mathlib.Core.Path.{sym, ap, ◌∙◌}
use Rattle.items.specs.Classes.{ends_run}
use Rattle.items.specs.declared.Phase.TheVariants as ph
use Rattle.steps.specs.Scan.{Passes}
use Rattle.steps.proofs.Kept.{passes}
use Rattle.std.proofs.Common.{Option}
use Prim.Native.Nat.{ℕ}
use Rattle.items.specs.declared.Outcome.TheVariants.{Run}
use Rattle.steps.specs.Ended.{EndsAs}
use Rattle.steps.proofs.Ended.{told, run_out, run_before, space_ends, not_kept}
use Rattle.steps.proofs.endings.run_ending.Tie as tie
use Rattle.steps.proofs.endings.run_ending.Lts as lts
use Rattle.steps.proofs.endings.run_ending.Reads as reads
use Rattle.steps.proofs.endings.run_ending.Goals as goal

pass : (w : lts.After-number_end tie.the-claims reads.Pre reads.Post) → Passes w.args.s.now ph.InRun w.args.from w.number_end-end.result
pass w =
    passes w.args.s.now w.args.from ph.InRun w.number_end-end.result w.requires (omega (arith, w.number_end-end.ensures)) (omega (arith, w.number_end-end.ensures))

pub returns-then-s-end : goal.returns-then-s-end
returns-then-s-end c =
    let f = c.args in
    run_out f.s.now f.from c.number_end-end.result (pass c.before.before) f.report c.if-s-end.true

pub returns-then-b-eq32 : goal.returns-then-b-eq32
returns-then-b-eq32 c =
    let f = c.args in
    let h = c.if-s-end.false in
    run_before f.s.now f.from c.number_end-end.result (pass c.before.before.before.before) f.report h (omega (arith, c.if-b-eq32.true))
    (ap (ends_run f.report) c.if-b-eq32.true ∙ space_ends f.report) (not_kept f.s.now f.from ph.InRun c.number_end-end.result c.number_end-end.ensures h)

pub returns : goal.returns
returns c =
    let f = c.args in
    let h = c.if-s-end.false in
    told (λ (r : Option ℕ). EndsAs f.s.now f.report ph.InRun Run f.from r) tt _ _ _ c.then_some.ensures
    (λ t. run_before f.s.now f.from c.number_end-end.result (pass c.before.before.before.before.before.before.before.before) f.report h c.if-b-ge-ASCII_END.false
    (sym (c.ends_run.ensures ∙ ap (ends_run f.report) c.from.ensures) ∙ t) (not_kept f.s.now f.from ph.InRun c.number_end-end.result c.number_end-end.ensures h))
