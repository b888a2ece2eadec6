-- The text being good, the comment is passed up to the first newline (Apart): it ends there, or with the text (Ended).
use native.Mathlib.Omega.{arith}
use mathlib.Core.Path.{◌≡◌}
use lib.ListN.{get_or}
use Rattle.laws.specs.Quoted.{code}
use Rattle.byte_runs.specs.Runs.{apart}
use Rattle.items.specs.declared.Phase.TheVariants as ph
use Rattle.steps.specs.Scan.{Passes}
use Rattle.steps.proofs.Letters.{line_holds}
use Rattle.steps.proofs.Apart.{passes_apart, not_apart}
use Rattle.steps.proofs.Ended.{line_out, line_before, run_fails}
use Rattle.steps.proofs.endings.line_ending.Tie as tie
use Rattle.steps.proofs.endings.line_ending.Lts as lts
use Rattle.steps.proofs.endings.line_ending.Reads as reads
use Rattle.steps.proofs.endings.line_ending.Goals as goal

pass : (w : lts.After-apart_end tie.the-claims reads.Pre reads.Post) → Passes w.args.s.now ph.InLine w.args.from w.apart_end-end.result
pass w =
    passes_apart w.args.s.now ph.InLine (code "\n") (code "\n") w.args.from w.apart_end-end.result line_holds
    (omega arith) (omega arith) w.requires.0 w.requires.1 w.apart_end-end.ensures

pub returns-then-s-end : goal.returns-then-s-end
returns-then-s-end c report =
    let f = c.args in
    line_out f.s.now f.from c.apart_end-end.result (pass c.before.before) report c.if-s-end.true

pub returns : goal.returns
returns c report =
    let f = c.args in
    let e = c.apart_end-end.result in
    let h = c.if-s-end.false in
    let k = run_fails (apart (code "\n") (code "\n")) f.s.now f.from e c.apart_end-end.ensures h in
    line_before f.s.now f.from e (pass c.before.before) report h
    (not_apart (code "\n") (code "\n") (get_or f.s.now e 0) (get_or f.s.now e 0 ≡ code "\n") k (λ q. q) (λ q. q))
