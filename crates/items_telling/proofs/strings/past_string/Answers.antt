-- The loop keeps: up to the place i the string is passed.
use native.Mathlib.Omega.{arith}
use Rattle.items.specs.declared.Quotes.TheVariants.{Double}
use Rattle.items.specs.declared.Phase.TheVariants as ph
use Rattle.steps.proofs.Letters.{passes_none, passes_on}
use Rattle.items_telling.proofs.strings.past_string.Goals as goal

pub loop-i-init : goal.loop-i-init
loop-i-init c = passes_none _ (ph.Quoted Double) _ c.requires

pub past_part-j-requires : goal.past_part-j-requires
past_part-j-requires c = c.loop-i.invariant.1

pub returns-then-j-i : goal.returns-then-j-i
returns-then-j-i c = c.loop-i.invariant

pub loop-i-smaller : goal.loop-i-smaller
loop-i-smaller c = omega (arith, c.if-j-i.false, c.past_part-j.ensures.1)

pub loop-i-preserved : goal.loop-i-preserved
loop-i-preserved c =
    let f = c.args in
    let l = c.loop-i in
    let j = c.past_part-j in
    passes_on f.s.now (ph.Quoted Double) f.from l.i j.result l.invariant j.ensures
