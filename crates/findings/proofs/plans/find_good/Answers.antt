-- Rows that fit are all handed on.
use Rattle.findings_rows.specs.Laid.{flat}
use Rattle.findings_rows.specs.Rows.{rows_of}
use Rattle.findings.specs.Told.{told_of}
use Rattle.findings.proofs.Calls.{too_few, part_length, all_found}
use Rattle.findings.proofs.plans.find_good.Goals as goal

pub returns-then-rows-count : goal.returns-then-rows-count
returns-then-rows-count c =
    let source = c.args.source.now in
    too_few source c.args.rows.now c.rows-count.ensures c.args.findings.now (told_of source (flat (rows_of source))) c.if-rows-count.true

pub slice_bounds-tell-end-2 : goal.slice_bounds-tell-end-2
slice_bounds-tell-end-2 c = part_length c.args.source.now c.args.rows.now c.rows-count.ensures c.if-rows-count.false

pub returns : goal.returns
returns c =
    all_found c.args.source.now c.args.rows.now c.rows-count.ensures c.if-rows-count.false c.args.findings.now c.tell.ensures
