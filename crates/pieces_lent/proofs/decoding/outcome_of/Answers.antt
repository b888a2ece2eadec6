-- An arm for each outcome; the last is what is left of the stages.
use native.Mathlib.Omega.{arith}
use mathlib.Core.Path.{◌≡◌}
use Rattle.pieces_lent.specs.Coding.{stage_of}
use Rattle.pieces_lent.proofs.decoding.outcome_of.Goals as goal

pub returns-in-31 : goal.returns-in-31
unfolding stage_of
returns-in-31 c = rw c.in-31.is

pub returns-in-32 : goal.returns-in-32
unfolding stage_of
returns-in-32 c = rw c.in-32.is

pub returns-in-33 : goal.returns-in-33
unfolding stage_of
returns-in-33 c = rw c.in-33.is

pub returns-in-34 : goal.returns-in-34
unfolding stage_of
returns-in-34 c = rw c.in-34.is

pub returns-in-35 : goal.returns-in-35
unfolding stage_of
returns-in-35 c = rw c.in-35.is

pub returns-in-36 : goal.returns-in-36
unfolding stage_of
returns-in-36 c = rw c.in-36.is

pub returns-in-37 : goal.returns-in-37
unfolding stage_of
returns-in-37 c = rw c.in-37.is

pub returns-in-38 : goal.returns-in-38
unfolding stage_of
returns-in-38 c = rw c.in-38.is

pub returns-in-39 : goal.returns-in-39
unfolding stage_of
returns-in-39 c = rw c.in-39.is

pub returns-in_default : goal.returns-in_default
unfolding stage_of
returns-in_default c = let e : c.args.row.stage ≡ 40 = omega arith in rw e
