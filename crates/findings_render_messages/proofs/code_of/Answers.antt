-- The letter and two digits.
use Rattle.findings_render_messages.specs.Messages.{code_of}
use Rattle.findings_render_messages.proofs.code_of.Goals as goal

pub returns : goal.returns
unfolding code_of
returns c =
    rw (c.letter.ensures, c.digit_byte.ensures, c.digit_byte-2.ensures)
