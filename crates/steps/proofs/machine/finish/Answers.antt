-- An arm for each phase.
use mathlib.Core.Logic.{⊎_elim}
use Rattle.steps.proofs.machine.finish.Goals as goal

pub returns-in-InLine : goal.returns-in-InLine
returns-in-InLine c = rw c.in-InLine.is

pub returns-in-AfterComma : goal.returns-in-AfterComma
returns-in-AfterComma c = rw c.in-AfterComma.is

pub returns-in-HereBody : goal.returns-in-HereBody
returns-in-HereBody c = rw c.in-HereBody.is (simp c.here_last.ensures)

pub returns-in-InRun : goal.returns-in-InRun
returns-in-InRun c = rw c.in-InRun.is

pub returns-in-Quoted : goal.returns-in-Quoted
returns-in-Quoted c = rw c.in-Quoted.is (simp c.unclosed.ensures)

pub returns-in-Closed : goal.returns-in-Closed
returns-in-Closed c = rw c.in-Closed.is (simp c.closed.ensures)

pub returns-in-Done : goal.returns-in-Done
returns-in-Done c = rw c.in-Done.is

pub returns-in-HereDelim : goal.returns-in-HereDelim
returns-in-HereDelim c = ⊎_elim (λ h. rw h) (λ h. rw h) c.in-HereDelim.is

pub returns-in-AfterAngle : goal.returns-in-AfterAngle
returns-in-AfterAngle c = ⊎_elim (λ h. rw h) (⊎_elim (λ h. rw h) (λ h. rw h)) c.in-AfterAngle.is

pub returns-in-AfterHash : goal.returns-in-AfterHash
returns-in-AfterHash c =
    ⊎_elim (λ h. rw h (simp (c.hash_last.ensures, c.hash_kind.ensures)))
    (⊎_elim (λ h. rw h (simp (c.hash_last.ensures, c.hash_kind.ensures)))
    (⊎_elim (λ h. rw h (simp (c.hash_last.ensures, c.hash_kind.ensures)))
    (⊎_elim (λ h. rw h (simp (c.hash_last.ensures, c.hash_kind.ensures))) (λ h. rw h (simp (c.hash_last.ensures, c.hash_kind.ensures))))))
    c.in-AfterHash.is
