-- The 64 bits of a value say what it is, and the test of its sign says which case of `minus` it is.
use mathlib.Core.Path.{◌≡◌, sym, ap, ◌∙◌}
use lib.IntN.{ℤ, pos}
use lib.Signed.{lt_z}
use mir.Syntax.{w64}
use mir.Val.{to_z, of_z}
use borrow.Author.Rules.{rules}
use Rattle.numbers_words.specs.Words.{minus}
use Rattle.numbers_words.proofs.Words.{negative, positive}
use Rattle.numbers_words.proofs.minus.Goals as goal

pub returns-then-v-lt0 : goal.returns-then-v-lt0
returns-then-v-lt0 c =
    let f : to_z w64 (of_z w64 c.args.v) ≡ c.args.v = search rules in
    let n = negative c.args.v c.ranges.v (ap (λ (z : ℤ). lt_z z (pos 0)) (sym f) ∙ c.if-v-lt0.true) in
    sym (ap minus n.is)

pub returns : goal.returns
returns c =
    let f : to_z w64 (of_z w64 c.args.v) ≡ c.args.v = search rules in
    let p = positive c.args.v c.ranges.v (ap (λ (z : ℤ). lt_z z (pos 0)) (sym f) ∙ c.if-v-lt0.false) in
    sym (ap minus p.is)
