-- Past the word's run it ends with the text, or before a byte that stops it (Ended).
use Rattle.std.proofs.Common.{Option}
use Prim.Native.Nat.{ℕ}
use borrow.Author.Tests.{eqb-false, not-true}
use Rattle.items.specs.declared.Outcome.TheVariants.{Word}
use Rattle.items.specs.declared.Phase.TheVariants as ph
use Rattle.steps.specs.Ended.{EndsAs}
use Rattle.steps.proofs.Ended.{told, word_out, word_before}
use Rattle.steps.proofs.endings.word_on.Goals as goal

pub returns-then-s-end : goal.returns-then-s-end
returns-then-s-end c report =
    let f = c.args in
    word_out f.s.now f.from c.past_word-end.result c.past_word-end.ensures.0 report c.if-s-end.true

pub returns : goal.returns
returns c report =
    let f = c.args in
    let e = c.past_word-end in
    let h = c.if-s-end.false in
    told (λ (r : Option ℕ). EndsAs f.s.now report ph.InWord Word f.from r) tt _ _ _ c.then_some.ensures
    (λ t. word_before f.s.now f.from e.result e.ensures.0 report h c.if-b-ge-ASCII_END.false (eqb-false _ _ (not-true _ t)) (e.ensures.1 h))
