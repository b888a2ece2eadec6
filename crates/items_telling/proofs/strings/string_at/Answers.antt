-- Where the string is no further passed, a quote closes it (Ended of crate `steps`), or an escape that is none ends it (Escaped).
use native.Mathlib.Omega.{arith}
use mathlib.Core.Path.{sym}
use Rattle.items.specs.declared.Quotes.TheVariants.{Double}
use Rattle.steps.proofs.Ended.{closed_before}
use Rattle.items_telling.proofs.Escaped.{fails_past}
use Rattle.items_telling.proofs.strings.string_at.Goals as goal

pub returns-then-s-at : goal.returns-then-s-at
returns-then-s-at c = c.past_string-at.ensures

pub overflow_add-next : goal.overflow_add-next
overflow_add-next c = omega (arith, c.past_string-at.ensures.1)

pub returns-then-b-eq34 : goal.returns-then-b-eq34
returns-then-b-eq34 c =
    let f = c.args in
    let pass = c.past_string-at.ensures in (
      omega (arith, pass.0),
      omega (arith, c.if-s-at.false),
      λ report a b. sym (closed_before f.s.now f.from c.past_string-at.result Double pass c.if-s-at.false c.if-b-eq34.true report a b),
    )

pub returns-then-s-next : goal.returns-then-s-next
returns-then-s-next c = c.past_string-at.ensures

pub returns-then-b-ne92 : goal.returns-then-b-ne92
returns-then-b-ne92 c = c.past_string-at.ensures

pub returns-then-is_failing : goal.returns-then-is_failing
returns-then-is_failing c =
    let f = c.args in
    let pass = c.past_string-at.ensures in
    let room = c.if-s-next.false in
    let bad = c.is_failing.ensures c.if-is_failing.true in (
      omega (arith, pass.0),
      room,
      fails_past f.s.now c.past_string-at.result room c.if-b-ne92.false bad.0 bad.1 f.from pass,
    )

pub returns : goal.returns
returns c = c.past_string-at.ensures
