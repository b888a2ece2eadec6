-- The key's piece of the table, filled in.
use mathlib.Core.Path.{ap, ◌∙◌}
use Rattle.findings_render_messages.specs.Messages.{filled}
use Rattle.findings_render_parts.proofs.OneByOne.{as_laid}
use Rattle.findings_render_messages.specs.Messages.{table, text_of}
use Rattle.findings_render_messages.proofs.put_text.Goals as goal

pub returns : goal.returns
unfolding table text_of
returns c =
    as_laid (ap (filled c.args.t c.args.source.now) (c.piece.ensures ∙ rw c.key_of-key.ensures)) c.put_filled.ensures
