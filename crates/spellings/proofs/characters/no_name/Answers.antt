-- In report mode the first delimiter after the first byte decides.
use Rattle.spellings.proofs.Forms.{delimited, undelimited, untold}
use Rattle.spellings.proofs.characters.no_name.Goals as goal

pub returns-then-p-t : goal.returns-then-p-t
returns-then-p-t c = delimited _ c.args.t.now _ c.if-report.true c.delimiter_from-p.ensures c.if-p-t.true

pub returns-else-p-t : goal.returns-else-p-t
returns-else-p-t c = undelimited _ c.args.t.now _ c.if-report.true c.delimiter_from-p.ensures c.if-p-t.false

pub returns-else-report : goal.returns-else-report
returns-else-report c = untold _ c.args.t.now c.if-report.false
