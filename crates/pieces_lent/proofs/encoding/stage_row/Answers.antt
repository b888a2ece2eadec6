-- An arm for each stage.
use Rattle.pieces_lent.proofs.encoding.stage_row.Goals as goal

pub returns-in-Opening : goal.returns-in-Opening
returns-in-Opening c = rw c.in-Opening.is c.bare.ensures

pub returns-in-Pound : goal.returns-in-Pound
returns-in-Pound c = rw c.in-Pound.is c.bare-in-Pound.ensures

pub returns-in-FirstLine : goal.returns-in-FirstLine
returns-in-FirstLine c = rw c.in-FirstLine.is c.bare-in-FirstLine.ensures

pub returns-in-Idle : goal.returns-in-Idle
returns-in-Idle c = rw c.in-Idle.is c.bare-in-Idle.ensures

pub returns-in-Busy : goal.returns-in-Busy
returns-in-Busy c = rw c.in-Busy.is c.phase_row.ensures

pub returns-in-Waiting : goal.returns-in-Waiting
returns-in-Waiting c = rw c.in-Waiting.is c.beyond_row.ensures

pub returns-in-Stopped : goal.returns-in-Stopped
returns-in-Stopped c = rw c.in-Stopped.is c.row.ensures
