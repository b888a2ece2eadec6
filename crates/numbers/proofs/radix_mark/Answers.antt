-- Each arm is a case of `radix_mark`.
use Rattle.numbers.proofs.Judged.{mark_16, mark_10, mark_8, mark_2, mark_none}
use Rattle.numbers.proofs.radix_mark.Goals as goal

pub returns-in-120 : goal.returns-in-120
returns-in-120 c = mark_16 _ c.in-120.is

pub returns-in-100 : goal.returns-in-100
returns-in-100 c = mark_10 _ c.in-100.is

pub returns-in-111 : goal.returns-in-111
returns-in-111 c = mark_8 _ c.in-111.is

pub returns-in-98 : goal.returns-in-98
returns-in-98 c = mark_2 _ c.in-98.is

pub returns-in_default : goal.returns-in_default
returns-in_default c = mark_none _ c.in_default.in_default-own.rest.0.0.0.1 c.in_default.in_default-own.rest.0.0.1 c.in_default.in_default-own.rest.0.1 c.in_default.in_default-own.rest.1
