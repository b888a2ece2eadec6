-- An arm for each stage; a stage past the last of them is of an item.
use borrow.Author.Rules.{rules}
use native.Mathlib.Omega.{arith}
use Rattle.pieces_lent.specs.Coding.{stage_of}
use Rattle.pieces_lent.proofs.decoding.stage_of.Goals as goal

pub phase_of-requires : goal.phase_of-requires
phase_of-requires c = (omega arith, search rules, search rules)

pub returns-in-0 : goal.returns-in-0
unfolding stage_of
returns-in-0 c = rw c.in-0.is

pub returns-in-1 : goal.returns-in-1
unfolding stage_of
returns-in-1 c = rw c.in-1.is

pub returns-in-2 : goal.returns-in-2
unfolding stage_of
returns-in-2 c = rw c.in-2.is

pub returns-in-3 : goal.returns-in-3
unfolding stage_of
returns-in-3 c = rw c.in-3.is

pub returns-in-4 : goal.returns-in-4
unfolding stage_of
returns-in-4 c = rw c.in-4.is

pub returns-in-5 : goal.returns-in-5
unfolding stage_of
returns-in-5 c = rw c.in-5.is

pub returns-in-6 : goal.returns-in-6
unfolding stage_of
returns-in-6 c = rw c.in-6.is
