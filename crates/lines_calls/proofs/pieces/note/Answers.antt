-- By the test.
use borrow.Author.Tests.{lt-ltb, le-ltb}
use mathlib.Core.Path.{refl}
use lib.Dec.{ltb}
use lib.ListN.{set}
use Rattle.laws.proofs.Choice.{if_yes, if_no}
use Rattle.lines_calls.proofs.pieces.note.Goals as goal

pub returns-then-had-lines : goal.returns-then-had-lines
returns-then-had-lines c =
    let a = c.args in
    if_yes (ltb a.had a.lines) (set a.index.now a.lines a.at)
    a.index.now (lt-ltb a.had a.lines c.if-had-lines.true) c.store.ensures

pub returns-else-had-lines : goal.returns-else-had-lines
returns-else-had-lines c =
    let a = c.args in
    if_no (ltb a.had a.lines) (set a.index.now a.lines a.at) a.index.now (le-ltb a.had a.lines c.if-had-lines.false) refl
