-- An arm for each stage.
use Rattle.pieces_bounds.proofs.stage_bounds.Goals as goal

pub returns-in-Opening : goal.returns-in-Opening
returns-in-Opening c = rw c.in-Opening.is

pub returns-in-Pound : goal.returns-in-Pound
returns-in-Pound c = rw c.in-Pound.is (simp c.pound_bounds.ensures)

pub returns-in-FirstLine : goal.returns-in-FirstLine
returns-in-FirstLine c = rw c.in-FirstLine.is

pub returns-in-Idle : goal.returns-in-Idle
returns-in-Idle c = rw c.in-Idle.is

pub returns-in-Busy : goal.returns-in-Busy
returns-in-Busy c = rw c.in-Busy.is (simp c.busy_bounds.ensures)

pub returns-in-Waiting : goal.returns-in-Waiting
returns-in-Waiting c = rw c.in-Waiting.is (simp c.waiting_bounds.ensures)

pub returns-in-Stopped : goal.returns-in-Stopped
returns-in-Stopped c = rw c.in-Stopped.is (simp c.stop_bounds.ensures)
