-- Where no item is held the end gives nothing more; an item's stage is past those.
use native.Mathlib.Omega.{arith}
use Rattle.pieces_last.proofs.closing.is_standing.Goals as goal

pub returns-then-w-le-IDLE : goal.returns-then-w-le-IDLE
returns-then-w-le-IDLE c = λ e.
    let stays = c.is_resting.ensures e (omega (arith, c.if-w-le-IDLE.true)) in
    (stays.stands, λ h. stays.rests)

pub returns : goal.returns
returns c = λ e. (c.is_item.ensures e, λ h. absurd (omega (arith, c.if-w-le-IDLE.false, h)))
