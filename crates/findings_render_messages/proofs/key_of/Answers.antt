-- The letter, three digits and the kind of text.
use Rattle.findings_render_messages.specs.Messages.{key_of, code_of}
use Rattle.findings_render_messages.proofs.key_of.Goals as goal

pub returns : goal.returns
unfolding key_of code_of
returns c = rw (c.code_of.ensures, c.digit_byte.ensures, c.variant.ensures.0)
