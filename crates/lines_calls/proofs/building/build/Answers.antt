-- By the cases of `build_of`. A memory longer than the text has room for every start, so nothing is counted first.
use native.Mathlib.Omega.{arith}
use mathlib.Core.Path.{sym, ◌∙◌}
use Prim.Native.Nat.{◌≤◌}
use lib.ListN.{length}
use Rattle.lines_calls.proofs.Answers.{builds_long, builds_bad, builds_short, builds_all}
use Rattle.lines_calls.proofs.Stored.{starts_most}
use Rattle.lines_calls.proofs.building.build.Goals as goal

pub returns-then-text-gt-LIMIT : goal.returns-then-text-gt-LIMIT
returns-then-text-gt-LIMIT c = builds_long c.args.text.now c.args.index.now c.if-text-gt-LIMIT.true

pub put-requires : goal.put-requires
put-requires c = (c.if-text-gt-LIMIT.false, starts_most c.args.text.now c.if-text-index.true)

pub returns-then-text-index : goal.returns-then-text-index
returns-then-text-index c =
    let a = c.args in
    let room = starts_most a.text.now c.if-text-index.true in
    let fits : c.put.result ≤ length a.index.now = omega (arith, room, c.put.ensures.0) in
    builds_all a.text.now a.index.now c.if-text-gt-LIMIT.false
    (sym c.first_bad.ensures ∙ c.in_default.is)
    c.put.ensures.0 fits c.put.ensures.1

pub returns-then-index-n : goal.returns-then-index-n
returns-then-index-n c =
    let a = c.args in
    builds_short a.text.now a.index.now c.if-text-gt-LIMIT.false
    (sym c.first_bad.ensures ∙ c.in_default.is)
    c.count-n.ensures c.if-index-n.true

pub returns-in-Some : goal.returns-in-Some
returns-in-Some c =
    builds_bad c.args.text.now c.args.index.now
    c.if-text-gt-LIMIT.false (sym c.first_bad.ensures ∙ c.in-Some.is)

pub returns : goal.returns
returns c =
    let a = c.args in
    builds_all a.text.now a.index.now c.if-text-gt-LIMIT.false
    (sym c.first_bad.ensures ∙ c.in_default.is)
    c.count-n.ensures c.if-index-n.false c.put-2.ensures.1
