-- Each arm is the definition's test for its number.
use Rattle.findings.specs.Lists.{refused_list}
use Rattle.findings.proofs.lists.refused_list.Goals as goal

pub returns-in-BracketOpen : goal.returns-in-BracketOpen
unfolding refused_list
returns-in-BracketOpen c = rw c.in-BracketOpen.is c.bracket_open.ensures

pub returns-in-WrongClose : goal.returns-in-WrongClose
unfolding refused_list
returns-in-WrongClose c = rw c.in-WrongClose.is c.wrong_close.ensures

pub returns-in-MisplacedDot : goal.returns-in-MisplacedDot
unfolding refused_list
returns-in-MisplacedDot c = rw c.in-MisplacedDot.is c.misplaced_dot.ensures

pub returns-in-MarkWaits : goal.returns-in-MarkWaits
unfolding refused_list
returns-in-MarkWaits c = rw c.in-MarkWaits.is c.mark_waits.ensures

pub returns-in-TooDeep : goal.returns-in-TooDeep
unfolding refused_list
returns-in-TooDeep c = rw c.in-TooDeep.is c.at_row.ensures

pub returns-in-Alien : goal.returns-in-Alien
unfolding refused_list
returns-in-Alien c = rw c.in-Alien.is

pub returns-in-ErrorItem : goal.returns-in-ErrorItem
unfolding refused_list
returns-in-ErrorItem c = rw c.in-ErrorItem.is

pub returns-in-FewNodes : goal.returns-in-FewNodes
unfolding refused_list
returns-in-FewNodes c = rw c.in-FewNodes.is
