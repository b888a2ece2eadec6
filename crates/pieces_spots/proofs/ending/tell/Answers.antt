-- A token that is whole and quotes that are closed end before any byte; a word, a number run and a boolean before those that end them (Ends).
use native.Mathlib.Omega.{arith}
use mathlib.Core.Path.{sym, subst}
use Prim.Native.Nat.{ℕ}
use borrow.Author.Tests.{not-false}
use Rattle.pieces_spots.specs.Spots.{TellsAt}
use Rattle.pieces_spots.proofs.Ends as ends
use Rattle.pieces_spots.proofs.ending.tell.Goals as goal

pub returns-then-stage-eq-DONE_TOKEN : goal.returns-then-stage-eq-DONE_TOKEN
returns-then-stage-eq-DONE_TOKEN c = ends.token_told _ _ _ _ _ _ _ _ c.bare.ensures (omega arith) (omega arith)

pub returns-then-stage-eq-CLOSED : goal.returns-then-stage-eq-CLOSED
returns-then-stage-eq-CLOSED c =
    let a = c.args in
    subst (λ (x : ℕ). TellsAt x a.which a.detail a.b a.at a.raw.now c.tell_closed.result) (sym c.if-stage-eq-CLOSED.true) (c.tell_closed.ensures a.detail a.b)

pub returns-then-ends_word : goal.returns-then-ends_word
returns-then-ends_word c =
    let a = c.args in
    ends.word_ends a.stage a.which a.detail a.b a.at a.raw.now (omega arith) (c.ends_word.ensures c.if-ends_word.true)
    c.tell_word.result c.tell_word.ensures

pub returns-then-stage-eq-IN_RUN : goal.returns-then-stage-eq-IN_RUN
returns-then-stage-eq-IN_RUN c =
    let a = c.args in
    ends.run_ends a.stage a.which a.detail a.b a.at a.raw.now (omega arith)
    (c.is_stop.ensures (not-false _ c.if-not-is_stop.false-raw)) c.tell_run.result c.tell_run.ensures

pub returns-then-stage-eq-IN_HASH : goal.returns-then-stage-eq-IN_HASH
returns-then-stage-eq-IN_HASH c =
    let a = c.args in
    ends.boolean_ends a.stage a.which a.detail a.b a.at a.raw.now (omega arith)
    (c.is_stop.ensures (not-false _ c.if-not-is_stop.false-raw)) c.tell_boolean.result c.tell_boolean.ensures
