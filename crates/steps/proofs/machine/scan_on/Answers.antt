-- The invariant: from the phase and the place that the loop has come to, the machine answers what it answers from the first.
-- A turn decodes one character and takes one step; the measure is what is left of the text.
use mathlib.Core.Path.{refl, sym, ◌∙◌}
use mathlib.Core.Logic.{⊎_elim}
use native.Mathlib.Omega.{arith}
use borrow.Author.Rules.{rules}
use Rattle.chars.proofs.Chars.{char_at}
use Rattle.chars.proofs.Width.{wide}
use Rattle.steps.proofs.Turn.{turn_eat, turn_stop, turn_deep, turn_last, turn_out, none_bad, none_cut, none_end, part_short}
use Rattle.steps.proofs.machine.scan_on.Goals as goal

pub loop-at-init : goal.loop-at-init
loop-at-init c = (search rules, search rules, search rules, refl)

pub slice_bounds-step-count : goal.slice_bounds-step-count
slice_bounds-step-count c = omega (arith, c.run_end-at.ensures.0, c.loop-at.invariant.1)

pub slice_bounds-step-start : goal.slice_bounds-step-start
slice_bounds-step-start c = omega (arith, c.run_end-at.ensures.0, c.loop-at.invariant.1)

pub slice_bounds-step-end : goal.slice_bounds-step-end
slice_bounds-step-end c = omega (arith, c.run_end-at.ensures.1)

pub step-requires : goal.step-requires
step-requires c =
    let run = c.run_end-at in
    let s = c.args.s.now in
    let at = run.result in
    let code = c.in-Char.code in
    let next = c.in-Char.next in
    let k = char_at s at code next (sym c.in-Char.is ∙ c.decode_at.ensures) run.ensures.1 in
    (part_short s c.args.start at, omega (arith, c.loop-at.invariant.2, run.ensures.0), omega (arith, k.on, k.inside))

pub loop-at-smaller : goal.loop-at-smaller
loop-at-smaller c =
    let run = c.run_end-at in
    let s = c.args.s.now in
    let at = run.result in
    let code = c.in-Char.code in
    let next = c.in-Char.next in
    let k = char_at s at code next (sym c.in-Char.is ∙ c.decode_at.ensures) run.ensures.1 in
    omega (arith, k.on, k.inside, wide code, run.ensures.0)

pub loop-at-preserved : goal.loop-at-preserved
loop-at-preserved c =
    let run = c.run_end-at in
    let s = c.args.s.now in
    let at = run.result in
    let code = c.in-Char.code in
    let next = c.in-Char.next in
    let k = char_at s at code next (sym c.in-Char.is ∙ c.decode_at.ensures) run.ensures.1 in
    let e = sym c.step.ensures ∙ c.in-Eat.is in (
      k.inside,
      omega (arith, k.on, c.loop-at.invariant.1, run.ensures.0),
      turn_deep s c.args.report c.args.start c.loop-at.phase at code next k _ (omega (arith, c.loop-at.invariant.2, run.ensures.0)) e,
      c.loop-at.invariant.3 ∙ run.ensures.2 c.args.report ∙ turn_eat s
          c.args.report c.args.start c.loop-at.phase at code next k _ (omega (arith, c.loop-at.invariant.1, run.ensures.0)) e,
    )

pub returns-in-Stop : goal.returns-in-Stop
returns-in-Stop c =
    let run = c.run_end-at in
    let s = c.args.s.now in
    let at = run.result in
    let code = c.in-Char.code in
    let next = c.in-Char.next in
    let k = char_at s at code next (sym c.in-Char.is ∙ c.decode_at.ensures) run.ensures.1 in
    let e = sym c.step.ensures ∙ c.in-Stop.is in
    sym (c.loop-at.invariant.3 ∙ run.ensures.2 c.args.report
    ∙ turn_stop s c.args.report c.args.start c.loop-at.phase at code next k _ e)

pub scan_end-requires : goal.scan_end-requires
scan_end-requires c = let run = c.run_end-at in (omega (arith, run.ensures.0, c.loop-at.invariant.1), run.ensures.1)

pub returns-in-Bad : goal.returns-in-Bad
returns-in-Bad c =
    let run = c.run_end-at in
    let s = c.args.s.now in
    let at = run.result in
    let d = c.decode_at.ensures in
    let none = ⊎_elim (λ h. none_bad s at (sym h ∙ d)) (⊎_elim (λ h. none_cut s at (sym h ∙ d)) (λ h. none_end s at (sym h ∙ d))) c.in-Bad.is in
    c.scan_end.ensures ∙ sym (c.loop-at.invariant.3 ∙ run.ensures.2 c.args.report
    ∙ turn_last s c.args.report c.args.start c.loop-at.phase at none)

pub returns : goal.returns
returns c =
    let s = c.args.s.now in
    let at = c.loop-at.at in
    c.scan_end-2.ensures ∙ sym (c.loop-at.invariant.3 ∙ turn_out s c.args.report c.args.start c.loop-at.phase at c.loop-at-test.false)
