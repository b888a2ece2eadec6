-- Each arm ends words and number runs by computation (Ends).
use mathlib.Core.Path.{sym, subst}
use Rattle.laws.proofs.Choice.{no_yes}
use Rattle.pieces_spots.specs.Spots.{Stops}
use Rattle.pieces_spots.proofs.Ends as ends
use Rattle.pieces_spots.proofs.ending.is_stop.Goals as goal

pub returns-in-41 : goal.returns-in-41
returns-in-41 c = λ e. subst Stops (sym c.in-41.is) ends.close_round

pub returns-in-32 : goal.returns-in-32
returns-in-32 c = λ e. subst Stops (sym c.in-32.is) ends.space

pub returns-in-10 : goal.returns-in-10
returns-in-10 c = λ e. subst Stops (sym c.in-10.is) ends.newline

pub returns-in-40 : goal.returns-in-40
returns-in-40 c = λ e. subst Stops (sym c.in-40.is) ends.open_round

pub returns-in-93 : goal.returns-in-93
returns-in-93 c = λ e. subst Stops (sym c.in-93.is) ends.close_square_case

pub returns-in-91 : goal.returns-in-91
returns-in-91 c = λ e. subst Stops (sym c.in-91.is) ends.open_square_case

pub returns-in-13 : goal.returns-in-13
returns-in-13 c = λ e. subst Stops (sym c.in-13.is) ends.return

pub returns-in-9 : goal.returns-in-9
returns-in-9 c = λ e. subst Stops (sym c.in-9.is) ends.tab

pub returns-in_default : goal.returns-in_default
returns-in_default c = no_yes
