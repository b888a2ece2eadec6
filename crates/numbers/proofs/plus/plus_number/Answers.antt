-- The branches of `complex`: a polar number at the first `@`; two parts at a sign that is no other than the plus; or one.
use native.Mathlib.Omega.{arith}
use lib.Seq.{length-take-le}
use mathlib.Core.Path.{sym}
use Rattle.numbers.proofs.AfterPlus.{number_polar, number_first, number_thrice, number_pair, number_alone}
use Rattle.numbers.proofs.plus.plus_number.Goals as goal

pub slice_bounds-plus_real-end : goal.slice_bounds-plus_real-end
slice_bounds-plus_real-end c = sym (length-take-le _ _ (omega arith))

pub returns-then-plus_real : goal.returns-then-plus_real
returns-then-plus_real c =
    number_polar _ c.find-k.ensures c.if-k-t.true
    c.plus_real.ensures c.if-plus_real.true c.real_at.ensures c.is_some.ensures

pub returns-then-k-t : goal.returns-then-k-t
returns-then-k-t c =
    number_first _ c.find-k.ensures c.if-k-t.true c.plus_real.ensures c.if-plus_real.false

pub returns-then-another-t : goal.returns-then-another-t
returns-then-another-t c =
    number_thrice _ c.find-k.ensures c.if-k-t.false
    c.to_sign-cut.ensures c.if-cut-t.true c.to_sign-another.ensures c.if-another-t.true

pub returns-then-cut-t : goal.returns-then-cut-t
returns-then-cut-t c =
    number_pair _ c.find-k.ensures c.if-k-t.false
    c.to_sign-cut.ensures c.if-cut-t.true c.to_sign-another.ensures c.if-another-t.false
    c.plus_pair.ensures

pub returns : goal.returns
returns c =
    number_alone _ c.find-k.ensures c.if-k-t.false c.to_sign-cut.ensures
    c.if-cut-t.false c.plus_alone.ensures
