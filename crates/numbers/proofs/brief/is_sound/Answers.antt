-- Each return is a branch of `sound`.
use Rattle.numbers.proofs.Outlines.{sound_integer, sound_decimal}
use Rattle.numbers.proofs.brief.is_sound.Goals as goal

pub returns-then-dot-end : goal.returns-then-dot-end
returns-then-dot-end c = sound_integer _ c.if-dot-end.true

pub returns : goal.returns
returns c = sound_decimal _ c.if-dot-end.false
