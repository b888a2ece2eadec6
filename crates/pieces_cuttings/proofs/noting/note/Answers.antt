-- By what was given.
use Rattle.std.proofs.Common.{subst}
use Rattle.pieces.specs.declared.Got.{Got}
use Rattle.pieces_cuttings.specs.Inner.{Gives}
use Rattle.pieces_cuttings.proofs.noting.note.Goals as goal

pub note_item-requires : goal.note_item-requires
note_item-requires c = subst (λ (g : Got). Gives g c.args.text.now)
    c.in-Item.is c.requires

pub note_other-requires : goal.note_other-requires
note_other-requires c = (subst (λ (g : Got). Gives g c.args.text.now) c.in-More.is c.requires).written

pub note_other-requires-in-Finished : goal.note_other-requires-in-Finished
note_other-requires-in-Finished c = (subst (λ (g : Got). Gives g c.args.text.now) c.in-Finished.is c.requires).written

pub note_other-requires-in-Refused : goal.note_other-requires-in-Refused
note_other-requires-in-Refused c = (subst (λ (g : Got). Gives g c.args.text.now) c.in-Refused.is c.requires).written

pub returns-in-Item : goal.returns-in-Item
returns-in-Item c =
    rw c.in-Item.is c.note_item.ensures

pub returns-in-More : goal.returns-in-More
returns-in-More c = rw (c.in-More.is, c.note_other.ensures)

pub returns-in-Finished : goal.returns-in-Finished
returns-in-Finished c = rw (c.in-Finished.is, c.note_other-in-Finished.ensures)

pub returns-in-Refused : goal.returns-in-Refused
returns-in-Refused c = rw (c.in-Refused.is, c.note_other-in-Refused.ensures)
