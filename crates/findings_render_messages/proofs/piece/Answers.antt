-- From behind the key to the next zero byte.
use mathlib.Core.Path.{◌∙◌}
use Rattle.findings_render_messages.proofs.Worded.{piece_is}
use Rattle.findings_render_messages.proofs.piece.Goals as goal

pub returns : goal.returns
returns c =
    c.part.ensures ∙ piece_is c.args.key.now c.args.t.now _ _ c.text_start-from.ensures.0 c.find.ensures
