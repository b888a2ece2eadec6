-- A comment to the end of its line, a token that is whole, quotes that are closed, a word, a number run and a boolean end with the text (Lasts).
use native.Mathlib.Omega.{arith}
use Rattle.pieces_last.proofs.Lasts as lasts
use Rattle.pieces_last.proofs.tells.tell_last.Goals as goal

pub returns-then-stage-eq-IN_LINE : goal.returns-then-stage-eq-IN_LINE
returns-then-stage-eq-IN_LINE c = lasts.line_lasts _ _ _ _ _ _ _ c.bare.ensures (omega arith)

pub returns-then-stage-eq-DONE_TOKEN : goal.returns-then-stage-eq-DONE_TOKEN
returns-then-stage-eq-DONE_TOKEN c = lasts.token_lasts _ _ _ _ _ _ _ c.bare-then-stage-eq-DONE_TOKEN.ensures (omega arith) (omega arith)

pub returns-then-stage-eq-CLOSED : goal.returns-then-stage-eq-CLOSED
returns-then-stage-eq-CLOSED c =
    let a = c.args in
    lasts.closed_lasts a.stage a.which a.detail a.at a.raw.now 0 (omega arith) c.tell_closed.result (c.tell_closed.ensures a.detail 0)

pub returns-then-stage-eq-IN_WORD : goal.returns-then-stage-eq-IN_WORD
returns-then-stage-eq-IN_WORD c =
    let a = c.args in
    lasts.word_lasts a.stage a.which a.detail a.at a.raw.now (omega arith) c.tell_word.result c.tell_word.ensures

pub returns-then-stage-eq-IN_RUN : goal.returns-then-stage-eq-IN_RUN
returns-then-stage-eq-IN_RUN c =
    let a = c.args in
    lasts.run_lasts a.stage a.which a.detail a.at a.raw.now (omega arith) c.tell_run.result c.tell_run.ensures

pub returns-then-stage-eq-IN_HASH : goal.returns-then-stage-eq-IN_HASH
returns-then-stage-eq-IN_HASH c =
    let a = c.args in
    lasts.boolean_lasts a.stage a.which a.detail a.at a.raw.now (omega arith) c.tell_boolean.result c.tell_boolean.ensures
