-- Each turn counts the item that one look told, so that any counting that stood at the spot goes on past it and past the blanks after it
-- (Skims).
use native.Mathlib.Omega.{arith}
use Rattle.lexer.proofs.Skims.{none_counted, counted_few, counted_smaller, counted_on}
use Rattle.lexer.proofs.whole.count_told.Goals as goal

pub loop-at-init : goal.loop-at-init
loop-at-init c =
    let a = c.args in
    (omega arith, none_counted a.source.now a.p a.from c.past_blanks-at.result c.past_blanks-at.ensures)

pub skim_at-requires : goal.skim_at-requires
skim_at-requires c = (c.requires.0, c.loop-at-test.true, c.requires.2)

pub overflow_add-n : goal.overflow_add-n
overflow_add-n c =
    let few = counted_few c.args.source.now c.args.p c.args.from c.requires.1 c.loop-at.at c.loop-at.invariant.1 in
    omega (arith, few, c.requires.0)

pub loop-at-smaller : goal.loop-at-smaller
loop-at-smaller c =
    counted_smaller c.args.source.now c.args.p c.args.from c.requires.1 c.loop-at.at c.loop-at.invariant.1
    c.skim_at.result c.in-Some.end c.in-Some.is c.skim_at.ensures
    c.past_blanks-at-in-Some.result c.past_blanks-at-in-Some.ensures c.loop-at.invariant.0

pub loop-at-preserved : goal.loop-at-preserved
loop-at-preserved c = (
  omega (arith, c.loop-at.invariant.0),
  counted_on c.args.source.now c.args.p c.args.from c.requires.1 c.loop-at.at c.loop-at.invariant.1
      c.skim_at.result c.in-Some.end c.in-Some.is c.skim_at.ensures
      c.past_blanks-at-in-Some.result c.past_blanks-at-in-Some.ensures c.loop-at.invariant.0,
)

pub returns-in-None : goal.returns-in-None
returns-in-None c = c.loop-at.invariant.1

pub returns : goal.returns
returns c = c.loop-at.invariant.1
