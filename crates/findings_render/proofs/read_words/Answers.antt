-- Word by word.
use Rattle.findings_render_messages.specs.Messages.{told_of}
use Rattle.findings_render.proofs.read_words.Goals as goal

pub returns : goal.returns
unfolding told_of
returns c = (
  rw (
    c.or_end-4.ensures.0,
    c.word-7.ensures,
    c.or_end-3.ensures.0,
    c.word-6.ensures,
    c.or_end-2.ensures.0,
    c.word-5.ensures,
    c.or_end.ensures.0,
    c.word-4.ensures,
    c.word-3.ensures,
    c.word-2.ensures,
    c.word.ensures,
  ),
  c.or_end.ensures.1,
  c.or_end-2.ensures.1,
  c.or_end-3.ensures.1,
)
