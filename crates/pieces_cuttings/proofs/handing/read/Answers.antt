-- Opened, handed over and ended, as the definition has it.
use Rattle.pieces_cuttings.proofs.Handed.{whole_read}
use Rattle.pieces_cuttings.proofs.handing.read.Goals as goal

pub returns : goal.returns
returns c =
    let a = c.args in
    whole_read a.source.now a.cutting a.mode a.skip a.records.now a.counts.now a.texts.now
    c.open-opened.result c.open-opened.ensures
    c.unread.ensures c.hand_all-handed.ensures c.hand_end-last.ensures
