-- What the first odd character tells goes before the rest.
use mathlib.Core.Path.{◌∙◌}
use Rattle.findings.specs.Slips.{name_told}
use Rattle.findings.proofs.slips.name_told.Goals as goal

pub returns-in-None : goal.returns-in-None
unfolding name_told
returns-in-None c =
    let row_at = c.row_at-row in
    let odd-in = c.odd_in-odd in
    c.number_slip.ensures ∙ rw (← row_at.ensures) (rw (← odd-in.ensures) (rw c.in-None.is))

pub returns-in-Some : goal.returns-in-Some
unfolding name_told
returns-in-Some c =
    let row_at = c.row_at-row in
    let odd-in = c.odd_in-odd in
    rw (← row_at.ensures) (rw (← odd-in.ensures) (rw c.in-Some.is))
