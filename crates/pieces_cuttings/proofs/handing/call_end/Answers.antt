-- The call is that of the definition, and what it gives is written down.
use lib.ListN.{length-replicate}
use Rattle.pieces_cuttings.specs.Inner.{mark}
use Rattle.pieces_cuttings.specs.Notes.{room, standing, end_noted}
use Rattle.pieces_cuttings.proofs.Sized.{end_sized}
use Rattle.pieces_cuttings.proofs.Noted.{call_gives, call_noted}
use Rattle.pieces_cuttings.proofs.handing.call_end.Goals as goal

pub noted-reading-requires : goal.noted-reading-requires
noted-reading-requires c = let p = c.end-answer in call_gives p.result _ p.ensures.0 (end_sized _ _) p.ensures.1

pub returns : goal.returns
unfolding end_noted
returns c =
    let p = c.end-answer in
    call_noted p.result _ (rw (length-replicate room mark) at p.ensures.0) (standing c.args.stand c.args.records.now c.args.counts.now c.args.texts.now) c.noted-reading.ensures
