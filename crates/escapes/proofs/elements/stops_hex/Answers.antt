-- An arm for each byte that the definition names.
use borrow.Author.Tests.{ne_eqb}
use Rattle.items.specs.Classes.{stops_hex}
use Rattle.escapes.proofs.elements.stops_hex.Goals as goal

pub returns-in-59 : goal.returns-in-59
unfolding stops_hex
returns-in-59 c = rw c.in-59.is

pub returns-in-92 : goal.returns-in-92
unfolding stops_hex
returns-in-92 c = rw c.in-92.is

pub returns-in-10 : goal.returns-in-10
unfolding stops_hex
returns-in-10 c = rw c.in-10.is

pub returns-in-40 : goal.returns-in-40
unfolding stops_hex
returns-in-40 c = rw c.in-40.is

pub returns-in-41 : goal.returns-in-41
unfolding stops_hex
returns-in-41 c = rw c.in-41.is

pub returns-in-91 : goal.returns-in-91
unfolding stops_hex
returns-in-91 c = rw c.in-91.is

pub returns-in-93 : goal.returns-in-93
unfolding stops_hex
returns-in-93 c = rw c.in-93.is

pub returns-in-123 : goal.returns-in-123
unfolding stops_hex
returns-in-123 c = rw c.in-123.is

pub returns-in-125 : goal.returns-in-125
unfolding stops_hex
returns-in-125 c = rw c.in-125.is

pub returns-in_default : goal.returns-in_default
unfolding stops_hex
returns-in_default c = simp (
  ne_eqb _ _ c.in_default.in_default-own.rest.0.0.0.0.0.0.0.0.1,
  ne_eqb _ _ c.in_default.in_default-own.rest.0.0.0.0.0.0.0.1,
  ne_eqb _ _ c.in_default.in_default-own.rest.0.0.0.0.0.0.1,
  ne_eqb _ _ c.in_default.in_default-own.rest.0.0.0.0.0.1,
  ne_eqb _ _ c.in_default.in_default-own.rest.0.0.0.0.1,
  ne_eqb _ _ c.in_default.in_default-own.rest.0.0.0.1,
  ne_eqb _ _ c.in_default.in_default-own.rest.0.0.1,
  ne_eqb _ _ c.in_default.in_default-own.rest.0.1,
  ne_eqb _ _ c.in_default.in_default-own.rest.1,
)
