-- An arm for each case.
use Rattle.exports.proofs.flat.number.Goals as goal

pub returns-in-Item : goal.returns-in-Item
returns-in-Item c = λ text. rw c.in-Item.is

pub returns-in-More : goal.returns-in-More
returns-in-More c = λ text. rw c.in-More.is

pub returns-in-Finished : goal.returns-in-Finished
returns-in-Finished c = λ text. rw c.in-Finished.is

pub returns-in-Refused : goal.returns-in-Refused
returns-in-Refused c = λ text. rw c.in-Refused.is
