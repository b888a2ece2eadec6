-- Each stage is a row of Knows.
use native.Mathlib.Omega.{arith}
use borrow.Author.Tests.{leb-true}
use Rattle.pieces_quick.proofs.Knows as knows
use Rattle.pieces_quick.proofs.ready.is_phase.Goals as goal

pub returns-then-stage-eq-DONE_TOKEN : goal.returns-then-stage-eq-DONE_TOKEN
returns-then-stage-eq-DONE_TOKEN c = λ e start at held some.
    let a = c.args in
    knows.token_known a.stage start a.which a.detail at a.len held some (omega arith) (c.is_token.ensures e).0 (c.is_token.ensures e).1

pub returns-then-stage-eq-QUOTED : goal.returns-then-stage-eq-QUOTED
returns-then-stage-eq-QUOTED c = λ e start at held some.
    let a = c.args in
    knows.quoted_known a.stage start a.which a.detail at a.len held some (omega arith) (omega arith) (omega arith)

pub returns-then-stage-eq-CLOSED : goal.returns-then-stage-eq-CLOSED
returns-then-stage-eq-CLOSED c = λ e start at held some.
    let a = c.args in
    knows.closed_known a.stage start a.which a.detail at a.len held some (omega arith) (omega arith) (omega arith) (leb-true 2 a.len e)
