-- The invariant: from the phase and the place that the loop has come to, the machine answers what it answers from the first. A turn passes
-- a run of characters that leave it in its phase, and then takes one step.
use mathlib.Core.Path.{refl, sym, ◌∙◌}
use native.Mathlib.Omega.{arith}
use borrow.Author.Rules.{rules}
use Rattle.chars.proofs.Chars.{char_at, nothing_at}
use Rattle.chars.proofs.Width.{wide}
use Rattle.items_writing.proofs.WordTurns.{go_eat, go_stop, go_deep, go_run, go_out, go_closed, front_length}
use Rattle.items_writing.proofs.word.stand_on.Goals as goal

pub loop-at-init : goal.loop-at-init
loop-at-init c = (search rules, search rules, refl)

pub slice_bounds-step-end : goal.slice_bounds-step-end
slice_bounds-step-end c =
    let run = c.ascii_run-at in
    let turn = c.loop-at in
    let t = c.args.t.now in
    let on = go_run t c.args.last turn.phase turn.at run.result turn.invariant.0 run.ensures in
    sym (front_length t c.args.last run.result on.1)

pub step-requires : goal.step-requires
step-requires c =
    let run = c.ascii_run-at in
    let turn = c.loop-at in
    let t = c.args.t.now in
    let on = go_run t c.args.last turn.phase turn.at run.result turn.invariant.0 run.ensures in
    let code = c.in-Char.code in
    let next = c.in-Char.next in
    let k = char_at t run.result code next (sym c.in-Char.is ∙ c.decode_at.ensures) on.1 in
    (omega (arith, front_length t c.args.last run.result on.1), omega (arith, turn.invariant.1, on.0), omega (arith, k.on, k.inside))

pub loop-at-smaller : goal.loop-at-smaller
loop-at-smaller c =
    let run = c.ascii_run-at in
    let turn = c.loop-at in
    let t = c.args.t.now in
    let on = go_run t c.args.last turn.phase turn.at run.result turn.invariant.0 run.ensures in
    let code = c.in-Char.code in
    let next = c.in-Char.next in
    let k = char_at t run.result code next (sym c.in-Char.is ∙ c.decode_at.ensures) on.1 in
    omega (arith, k.on, k.inside, wide code, on.0)

pub loop-at-preserved : goal.loop-at-preserved
loop-at-preserved c =
    let run = c.ascii_run-at in
    let turn = c.loop-at in
    let t = c.args.t.now in
    let on = go_run t c.args.last turn.phase turn.at run.result turn.invariant.0 run.ensures in
    let code = c.in-Char.code in
    let next = c.in-Char.next in
    let k = char_at t run.result code next (sym c.in-Char.is ∙ c.decode_at.ensures) on.1 in
    let e = sym c.step.ensures ∙ c.in-Eat.is in (
      k.inside,
      go_deep t c.args.last turn.phase run.result code next k _ (omega (arith, turn.invariant.1, on.0)) e,
      turn.invariant.2 ∙ on.2 ∙ go_eat t c.args.last turn.phase run.result code next k _ e,
    )

pub returns-in-Stop : goal.returns-in-Stop
returns-in-Stop c =
    let run = c.ascii_run-at in
    let turn = c.loop-at in
    let t = c.args.t.now in
    let on = go_run t c.args.last turn.phase turn.at run.result turn.invariant.0 run.ensures in
    let code = c.in-Char.code in
    let next = c.in-Char.next in
    let k = char_at t run.result code next (sym c.in-Char.is ∙ c.decode_at.ensures) on.1 in
    let e = sym c.step.ensures ∙ c.in-Stop.is in
    sym (turn.invariant.2 ∙ on.2 ∙ go_stop t c.args.last turn.phase run.result code next k _ e)

pub slice_bounds-close-end : goal.slice_bounds-close-end
slice_bounds-close-end c =
    let run = c.ascii_run-at in
    let turn = c.loop-at in
    let t = c.args.t.now in
    let on = go_run t c.args.last turn.phase turn.at run.result turn.invariant.0 run.ensures in
    sym (front_length t c.args.last run.result on.1)

pub close-requires : goal.close-requires
close-requires c =
    let run = c.ascii_run-at in
    let turn = c.loop-at in
    let t = c.args.t.now in
    let on = go_run t c.args.last turn.phase turn.at run.result turn.invariant.0 run.ensures in
    omega (arith, turn.invariant.1, on.0, front_length t c.args.last run.result on.1)

pub returns-in_default : goal.returns-in_default
returns-in_default c =
    let run = c.ascii_run-at in
    let turn = c.loop-at in
    let t = c.args.t.now in
    let on = go_run t c.args.last turn.phase turn.at run.result turn.invariant.0 run.ensures in
    let none = nothing_at t run.result c.decode_at.result c.decode_at.ensures c.in_default.not-Char in
    c.close.ensures ∙ (go_closed t c.args.last turn.phase run.result on.1 none ∙ sym (turn.invariant.2 ∙ on.2))

pub close-requires-2 : goal.close-requires-2
close-requires-2 c = omega (arith, c.loop-at.invariant.0, c.loop-at.invariant.1)

pub returns : goal.returns
returns c =
    let turn = c.loop-at in
    let t = c.args.t.now in
    c.close-2.ensures ∙ sym (turn.invariant.2 ∙ go_out t c.args.last turn.phase turn.at turn.invariant.0 c.loop-at-test.false)
