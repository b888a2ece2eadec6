-- A quote and a semicolon break a word by computation (Ends); so does what ends a number run too.
use mathlib.Core.Path.{sym, subst}
use Rattle.pieces_spots.specs.Spots.{StopsWord}
use Rattle.pieces_spots.proofs.Ends as ends
use Rattle.pieces_spots.proofs.ending.ends_word.Goals as goal

pub returns-in-34 : goal.returns-in-34
returns-in-34 c = λ e. subst StopsWord (sym c.in-34.is) ends.quote

pub returns-in-59 : goal.returns-in-59
returns-in-59 c = λ e. subst StopsWord (sym c.in-59.is) ends.semicolon

pub returns-in_default : goal.returns-in_default
returns-in_default c = λ e. (c.is_stop.ensures e).word
