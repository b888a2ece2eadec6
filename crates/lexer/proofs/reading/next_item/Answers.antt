-- What is left to find from each spot on is what was to find from the first: a skipped comment is passed over, any other item is the answer.
use mathlib.Core.Path.{sym, ◌∙◌}
use Rattle.lexer.specs.Reading.{turn}
use Rattle.lexer.proofs.Nexts.{seeking, seeks_moved, seeks_on, seeks_given, seeks_end, found_ends}
use Rattle.lexer.proofs.reading.next_item.Goals as goal

pub loop-found-init : goal.loop-found-init
loop-found-init c = seeking c.args.source.now c.args.free c.args.spot c.requires.1

pub turn_at-requires : goal.turn_at-requires
turn_at-requires c = (c.requires.0, c.loop-found.invariant.behind)

pub loop-found-smaller : goal.loop-found-smaller
loop-found-smaller c =
    (seeks_moved c.args.source.now c.args.free c.args.spot c.loop-found.p c.loop-found.invariant
    c.in-Some.found.nine c.in-Some.found.after (sym c.in-Some.is ∙ c.turn_at.ensures)).smaller

pub loop-found-preserved : goal.loop-found-preserved
loop-found-preserved c =
    seeks_on c.args.source.now
    c.args.free c.args.spot c.loop-found.p c.loop-found.invariant c.in-Some.found.nine c.in-Some.found.after
    (sym c.in-Some.is ∙ c.turn_at.ensures) (sym c.skips.ensures ∙ c.if-not-skips.false)

pub returns-then-not-skips : goal.returns-then-not-skips
returns-then-not-skips c =
    seeks_given c.args.source.now c.args.free
    c.args.spot c.loop-found.p c.loop-found.invariant c.in-Some.found.nine c.in-Some.found.after
    (sym c.in-Some.is ∙ c.turn_at.ensures) (sym c.skips.ensures ∙ c.if-not-skips.true)

pub returns : goal.returns
returns c =
    seeks_end c.args.source.now c.args.free c.args.spot c.loop-found.p c.loop-found.invariant (found_ends c.args.free
    (turn c.args.source.now c.loop-found.p) (sym c.in_default.is ∙ c.turn_at.ensures))
