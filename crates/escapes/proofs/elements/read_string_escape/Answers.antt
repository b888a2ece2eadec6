-- An arm for each byte that the definition names, each by the law of its class.
use mathlib.Core.Path.{ap}
use native.Mathlib.Omega.{arith}
use borrow.Author.Tests.{ne_eqb}
use Rattle.items.specs.Classes.{after_backslash}
use Rattle.escapes.proofs.Cases.{next_simple, next_invalid, next_x, next_u, next_blank, next_newline, next_cut}
use Rattle.escapes.proofs.Lines.{seen_goes_on}
use Rattle.escapes.proofs.elements.read_string_escape.Goals as goal

pub returns-then-raw-from : goal.returns-then-raw-from
returns-then-raw-from c = let a = c.args in rw c.give.ensures (next_cut a.k a.raw.now a.from c.requires c.if-raw-from.true)

pub returns-in-34 : goal.returns-in-34
unfolding after_backslash
returns-in-34 c = let a = c.args in rw c.give-in-34.ensures
    (next_simple a.k a.raw.now a.from c.if-raw-from.false _ (ap after_backslash c.in-34.is))

pub returns-in-97 : goal.returns-in-97
unfolding after_backslash
returns-in-97 c = let a = c.args in rw c.give-in-97.ensures
    (next_simple a.k a.raw.now a.from c.if-raw-from.false _ (ap after_backslash c.in-97.is))

pub returns-in-98 : goal.returns-in-98
unfolding after_backslash
returns-in-98 c = let a = c.args in rw c.give-in-98.ensures
    (next_simple a.k a.raw.now a.from c.if-raw-from.false _ (ap after_backslash c.in-98.is))

pub returns-in-92 : goal.returns-in-92
unfolding after_backslash
returns-in-92 c = let a = c.args in rw c.give-in-92.ensures
    (next_simple a.k a.raw.now a.from c.if-raw-from.false _ (ap after_backslash c.in-92.is))

pub returns-in-124 : goal.returns-in-124
unfolding after_backslash
returns-in-124 c = let a = c.args in rw c.give-in-124.ensures
    (next_simple a.k a.raw.now a.from c.if-raw-from.false _ (ap after_backslash c.in-124.is))

pub returns-in-116 : goal.returns-in-116
unfolding after_backslash
returns-in-116 c = let a = c.args in rw c.give-in-116.ensures
    (next_simple a.k a.raw.now a.from c.if-raw-from.false _ (ap after_backslash c.in-116.is))

pub returns-in-110 : goal.returns-in-110
unfolding after_backslash
returns-in-110 c = let a = c.args in rw c.give-in-110.ensures
    (next_simple a.k a.raw.now a.from c.if-raw-from.false _ (ap after_backslash c.in-110.is))

pub returns-in-114 : goal.returns-in-114
unfolding after_backslash
returns-in-114 c = let a = c.args in rw c.give-in-114.ensures
    (next_simple a.k a.raw.now a.from c.if-raw-from.false _ (ap after_backslash c.in-114.is))

pub returns-in-48 : goal.returns-in-48
unfolding after_backslash
returns-in-48 c = let a = c.args in rw c.give-in-48.ensures
    (next_simple a.k a.raw.now a.from c.if-raw-from.false _ (ap after_backslash c.in-48.is))

pub returns-in-120 : goal.returns-in-120
unfolding after_backslash
returns-in-120 c = let a = c.args in
    next_x a.k a.raw.now a.from c.if-raw-from.false (ap after_backslash c.in-120.is) c.read_hex.ensures

pub returns-in-117 : goal.returns-in-117
unfolding after_backslash
returns-in-117 c = let a = c.args in next_u a.k
    a.raw.now a.from c.if-raw-from.false (ap after_backslash c.in-117.is) c.read_brace.ensures

pub returns-in-32 : goal.returns-in-32
unfolding after_backslash
returns-in-32 c = let a = c.args in rw c.give-in-32.ensures (next_blank a.k a.raw.now
    a.from c.if-raw-from.false (ap after_backslash c.in-32.is) c.next_line.ensures)

pub returns-in-9 : goal.returns-in-9
unfolding after_backslash
returns-in-9 c = let a = c.args in rw c.give-in-9.ensures (next_blank a.k a.raw.now
    a.from c.if-raw-from.false (ap after_backslash c.in-9.is) c.next_line-in-9.ensures)

pub returns-in-10 : goal.returns-in-10
unfolding after_backslash
returns-in-10 c = let a = c.args in
    rw c.give-in-10.ensures (next_newline a.k a.raw.now a.from c.if-raw-from.false
    (ap after_backslash c.in-10.is) (seen_goes_on a.raw.now _ _ c.spaces_end.ensures (omega arith)))

pub returns-in_default : goal.returns-in_default
unfolding after_backslash
returns-in_default c = let a = c.args in
    rw c.give-in_default.ensures (next_invalid a.k a.raw.now a.from c.if-raw-from.false (simp (
      ne_eqb _ _ c.in_default.in_default-own.rest.0.0.0.0.0.0.0.0.0.0.0.0.0.1,
      ne_eqb _ _ c.in_default.in_default-own.rest.0.0.0.0.0.0.0.0.0.0.0.0.1,
      ne_eqb _ _ c.in_default.in_default-own.rest.0.0.0.0.0.0.0.0.0.0.0.1,
      ne_eqb _ _ c.in_default.in_default-own.rest.0.0.0.0.0.0.0.0.0.0.1,
      ne_eqb _ _ c.in_default.in_default-own.rest.0.0.0.0.0.0.0.0.0.1,
      ne_eqb _ _ c.in_default.in_default-own.rest.0.0.0.0.0.0.0.0.1,
      ne_eqb _ _ c.in_default.in_default-own.rest.0.0.0.0.0.0.0.1,
      ne_eqb _ _ c.in_default.in_default-own.rest.0.0.0.0.0.0.1,
      ne_eqb _ _ c.in_default.in_default-own.rest.0.0.0.0.0.1,
      ne_eqb _ _ c.in_default.in_default-own.rest.0.0.0.0.1,
      ne_eqb _ _ c.in_default.in_default-own.rest.0.0.0.1,
      ne_eqb _ _ c.in_default.in_default-own.rest.0.0.1,
      ne_eqb _ _ c.in_default.in_default-own.rest.0.1,
      ne_eqb _ _ c.in_default.in_default-own.rest.1,
    )))
