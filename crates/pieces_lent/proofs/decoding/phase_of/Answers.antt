-- An arm for each phase; a stage past the last of them is of an item that is whole.
use borrow.Author.Rules.{rules}
use native.Mathlib.Omega.{arith}
use Rattle.pieces_lent.specs.Coding.{stage_of}
use Rattle.pieces_lent.proofs.decoding.phase_of.Goals as goal

pub outcome_of-requires : goal.outcome_of-requires
outcome_of-requires c = (omega arith, search rules, search rules)

pub returns-in-7 : goal.returns-in-7
unfolding stage_of
returns-in-7 c = rw c.in-7.is

pub returns-in-8 : goal.returns-in-8
unfolding stage_of
returns-in-8 c = rw c.in-8.is

pub returns-in-9 : goal.returns-in-9
unfolding stage_of
returns-in-9 c = rw c.in-9.is

pub returns-in-10 : goal.returns-in-10
unfolding stage_of
returns-in-10 c = rw c.in-10.is

pub returns-in-11 : goal.returns-in-11
unfolding stage_of
returns-in-11 c = rw c.in-11.is

pub returns-in-12 : goal.returns-in-12
unfolding stage_of
returns-in-12 c = rw c.in-12.is

pub returns-in-13 : goal.returns-in-13
unfolding stage_of
returns-in-13 c = rw c.in-13.is

pub returns-in-14 : goal.returns-in-14
unfolding stage_of
returns-in-14 c = rw c.in-14.is

pub returns-in-15 : goal.returns-in-15
unfolding stage_of
returns-in-15 c = rw c.in-15.is

pub returns-in-16 : goal.returns-in-16
unfolding stage_of
returns-in-16 c = rw c.in-16.is

pub returns-in-17 : goal.returns-in-17
unfolding stage_of
returns-in-17 c = rw c.in-17.is

pub returns-in-18 : goal.returns-in-18
unfolding stage_of
returns-in-18 c = rw c.in-18.is

pub returns-in-19 : goal.returns-in-19
unfolding stage_of
returns-in-19 c = rw c.in-19.is

pub returns-in-20 : goal.returns-in-20
unfolding stage_of
returns-in-20 c = rw c.in-20.is

pub returns-in-21 : goal.returns-in-21
unfolding stage_of
returns-in-21 c = rw c.in-21.is

pub returns-in-22 : goal.returns-in-22
unfolding stage_of
returns-in-22 c = rw c.in-22.is

pub returns-in-23 : goal.returns-in-23
unfolding stage_of
returns-in-23 c = rw c.in-23.is

pub returns-in-24 : goal.returns-in-24
unfolding stage_of
returns-in-24 c = rw (c.in-24.is, c.quotes_of.ensures)

pub returns-in-25 : goal.returns-in-25
unfolding stage_of
returns-in-25 c = rw (c.in-25.is, c.quotes_of-in-25.ensures)

pub returns-in-26 : goal.returns-in-26
unfolding stage_of
returns-in-26 c = rw (c.in-26.is, c.quotes_of-in-26.ensures)

pub returns-in-27 : goal.returns-in-27
unfolding stage_of
returns-in-27 c = rw (c.in-27.is, c.quotes_of-in-27.ensures)

pub returns-in-28 : goal.returns-in-28
unfolding stage_of
returns-in-28 c = rw (c.in-28.is, c.quotes_of-in-28.ensures)

pub returns-in-29 : goal.returns-in-29
unfolding stage_of
returns-in-29 c = rw (c.in-29.is, c.quotes_of-in-29.ensures)

pub returns-in-30 : goal.returns-in-30
unfolding stage_of
returns-in-30 c = rw (c.in-30.is, c.quotes_of-in-30.ensures)
