-- The loop walks the machine over the bytes from `at` on: what it still reads from place i is what it reads from the start, and that
-- is what the table says (Agree).
use mathlib.Core.Path.{sym, ◌∙◌}
use lib.ListN.{drop_of_length-le}
use lib.Seq.{drop-cons}
use Rattle.chars.specs.Utf8.{front}
use Rattle.chars.specs.Machine.{reads}
use Rattle.chars.proofs.Agree.{reads-front, reads_at}
use Rattle.chars.proofs.decode.decode_bytes.Goals as goal

-- at the end or past it there is nothing
pub returns-then-s-at : goal.returns-then-s-at
unfolding front
returns-then-s-at c = rw (drop_of_length-le c.args.s.now c.if-s-at.true)

pub loop-i-init : goal.loop-i-init
loop-i-init c = rw (drop-cons c.args.s.now c.args.at 0 c.if-s-at.false) (reads-front _ _ _)

pub returns-in-Char : goal.returns-in-Char
returns-in-Char c = sym (reads_at _ _ _ c.loop-i-test.true
    (sym c.in-Char.is ∙ c.byte_step.ensures)) ∙ c.loop-i.invariant

pub returns-in-Bad : goal.returns-in-Bad
returns-in-Bad c = sym (reads_at _ _ _ c.loop-i-test.true
    (sym c.in-Bad.is ∙ c.byte_step.ensures)) ∙ c.loop-i.invariant

pub loop-i-preserved : goal.loop-i-preserved
loop-i-preserved c = sym (reads_at _ _ _ c.loop-i-test.true
    (sym c.in-More.is ∙ c.byte_step.ensures)) ∙ c.loop-i.invariant

-- the end cuts the character
pub returns : goal.returns
unfolding reads
returns c = rw (drop_of_length-le c.args.s.now c.loop-i-test.false) at c.loop-i.invariant
