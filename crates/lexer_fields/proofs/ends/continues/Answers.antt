-- The two tests of the bytes that go on with a character; past the end there is none.
use mathlib.Core.Path.{sym, ap}
use Rattle.laws.specs.Quoted.{within}
use Rattle.laws.proofs.Choice.{within_below, within_from}
use Rattle.lexer_fields.proofs.Cuts.{get_d_end}
use Rattle.lexer_fields.proofs.ends.continues.Goals as goal

pub returns-then-source-at : goal.returns-then-source-at
unfolding within
returns-then-source-at c = sym (ap (within 0x80 0xBF) (get_d_end c.args.source.now c.args.at c.if-source-at.true))

pub returns-then-b-lt-TAIL_LOW : goal.returns-then-b-lt-TAIL_LOW
returns-then-b-lt-TAIL_LOW c = within_below 0x80 0xBF _ c.if-b-lt-TAIL_LOW.true

pub returns : goal.returns
returns c = within_from 0x80 0xBF _ c.if-b-lt-TAIL_LOW.false
