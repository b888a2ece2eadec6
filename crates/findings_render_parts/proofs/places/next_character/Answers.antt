-- The run of the bytes that continue a character.
use Rattle.findings_render_parts.specs.Spots.{next_character}
use Rattle.findings_render_parts.proofs.places.next_character.Goals as goal

pub returns : goal.returns
unfolding next_character
returns c = c.bytes_end.ensures
