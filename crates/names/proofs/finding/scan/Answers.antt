-- What reading on from entry k finds stays what the whole reading finds, while no entry before k bears the name.
use native.Mathlib.Omega.{arith}
use mathlib.Core.Path.{sym, ◌∙◌}
use Rattle.names.proofs.Laws.{scan_end, scan_hit, scan_miss, scan_start}
use Rattle.names.proofs.finding.scan.Goals as goal

pub loop-k-init : goal.loop-k-init
loop-k-init c =
    scan_start c.args.words.now c.args.bytes.now c.args.party c.args.name.now c.word-n.ensures

pub overflow_add-result : goal.overflow_add-result
overflow_add-result c = omega (arith, c.word-n.ensures)

pub returns-then-bears : goal.returns-then-bears
returns-then-bears c =
    scan_hit c.args.words.now c.args.bytes.now
    c.args.party c.args.name.now c.word-n.result c.loop-k.k
    c.loop-k-test.true (sym c.bears.ensures ∙ c.if-bears.true) ∙ c.loop-k.invariant

pub loop-k-preserved : goal.loop-k-preserved
loop-k-preserved c =
    scan_miss c.args.words.now c.args.bytes.now
    c.args.party c.args.name.now c.word-n.result c.loop-k.k
    c.loop-k-test.true (sym c.bears.ensures ∙ c.if-bears.false) ∙ c.loop-k.invariant

pub returns : goal.returns
returns c =
    scan_end c.args.words.now c.args.bytes.now c.args.party
    c.args.name.now c.word-n.result c.loop-k.k c.loop-k-test.false ∙ c.loop-k.invariant
