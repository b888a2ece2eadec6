-- Past the word's run of ASCII it ends with the text, or before a byte that stops it; or it goes on past ASCII (Ended).
use native.Mathlib.Omega.{arith}
use Rattle.items.specs.declared.Outcome.TheVariants.{Word}
use Rattle.items.specs.declared.Phase.TheVariants as ph
use Rattle.steps.specs.Scan.{Passes}
use Rattle.steps.proofs.Kept.{passes}
use Rattle.std.proofs.Common.{Option}
use Prim.Native.Nat.{ℕ}
use borrow.Author.Tests.{eqb-false, not-true}
use Rattle.steps.specs.Ended.{EndsAs}
use Rattle.steps.proofs.Ended.{told, word_out, word_before, not_kept, ends_past}
use Rattle.steps.proofs.endings.word_ending.Tie as tie
use Rattle.steps.proofs.endings.word_ending.Lts as lts
use Rattle.steps.proofs.endings.word_ending.Reads as reads
use Rattle.steps.proofs.endings.word_ending.Goals as goal

pass : (w : lts.After-word_end tie.the-claims reads.Pre reads.Post) → Passes w.args.s.now ph.InWord w.args.from w.word_end-end.result
pass w =
    passes w.args.s.now w.args.from ph.InWord w.word_end-end.result w.requires (omega (arith, w.word_end-end.ensures)) (omega (arith, w.word_end-end.ensures))

pub returns-then-s-end : goal.returns-then-s-end
returns-then-s-end c report =
    let f = c.args in
    word_out f.s.now f.from c.word_end-end.result (pass c.before.before) report c.if-s-end.true

pub word_on-requires : goal.word_on-requires
word_on-requires c = (pass c.before.before.before.before).1

pub returns-then-b-ge-ASCII_END : goal.returns-then-b-ge-ASCII_END
returns-then-b-ge-ASCII_END c report =
    let f = c.args in
    ends_past f.s.now report ph.InWord Word f.from c.word_end-end.result c.word_on.result (pass c.before.before.before.before.before) (c.word_on.ensures report)

pub returns : goal.returns
returns c report =
    let f = c.args in
    let h = c.if-s-end.false in
    told (λ (r : Option ℕ). EndsAs f.s.now report ph.InWord Word f.from r) tt _ _ _ c.then_some.ensures
    (λ t. word_before f.s.now f.from c.word_end-end.result (pass c.before.before.before.before.before) report h c.if-b-ge-ASCII_END.false
    (eqb-false _ _ (not-true _ t)) (not_kept f.s.now f.from ph.InWord c.word_end-end.result c.word_end-end.ensures h))
