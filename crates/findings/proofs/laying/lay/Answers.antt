-- One finding more, or none.
use borrow.Author.Tests.{eq-eqb, ne_eqb}
use native.Mathlib.Nat.{add-zero}
use Rattle.findings_rows.specs.Laid.{laid_rows_from}
use Rattle.findings.specs.Told.{errors_in}
use Rattle.findings.proofs.laying.lay.Goals as goal

pub returns-then-f-eq-ERROR : goal.returns-then-f-eq-ERROR
unfolding errors_in laid_rows_from
returns-then-f-eq-ERROR c =
    rw c.in-Some.is (rw (eq-eqb _ _ c.if-f-eq-ERROR.true, c.lay_one.ensures))

pub returns-in-None : goal.returns-in-None
unfolding errors_in laid_rows_from
returns-in-None c = rw c.in-None.is (simp add-zero)

pub returns-else-f-eq-ERROR : goal.returns-else-f-eq-ERROR
unfolding errors_in laid_rows_from
returns-else-f-eq-ERROR c =
    rw c.in-Some.is (rw (ne_eqb _ _ c.if-f-eq-ERROR.false, c.lay_one.ensures, add-zero))
