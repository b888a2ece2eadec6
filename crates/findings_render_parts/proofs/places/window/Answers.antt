-- Its four places, each by its own function.
use Rattle.findings_render_parts.specs.Spots.{window_of}
use Rattle.findings_render_parts.proofs.places.window.Goals as goal

pub returns : goal.returns
unfolding window_of
returns c =
    rw (c.shown_to.ensures, c.shown_from-from.ensures, c.line_end-end.ensures, c.line_start-start.ensures.0)
