-- Its first character being told, it ends as any word does.
use borrow.Author.Tests.{not-false}
use native.Mathlib.Omega.{arith}
use Rattle.items.specs.declared.Phase.TheVariants as ph
use Rattle.lexer.proofs.Tells.{begins_inside, worded_to}
use Rattle.lexer.proofs.glance.rare_ending.Goals as goal

pub rare_start-next-requires : goal.rare_start-next-requires
rare_start-next-requires c =
    let r = c.begins_rare in
    (c.requires.0, c.requires.1, r.ensures (not-false r.result c.if-not-begins_rare.false-raw))

pub word_ending-requires : goal.word_ending-requires
word_ending-requires c =
    let r = c.rare_start-next in
    begins_inside c.args.source.now c.args.at r.result ph.InWord (r.ensures (omega (arith, c.if-next-at.false))).begins

pub returns : goal.returns
returns c =
    let r = c.rare_start-next in
    worded_to c.args.source.now c.args.at r.result (r.ensures (omega (arith, c.if-next-at.false))) c.word_ending.result c.word_ending.ensures
