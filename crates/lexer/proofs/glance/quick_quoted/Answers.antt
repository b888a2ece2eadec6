-- The item ends where its quotes are closed, and its text stands between them (Quotings).
use native.Mathlib.Omega.{arith}
use mathlib.Core.Path.{sym, ap, ◌∙◌, subst}
use Prim.Native.Nat.{ℕ, ◌+◌, ◌-◌}
use Rattle.steps.specs.Ended.{ClosesAt, Closes}
use Rattle.meaning.specs.Meant.{means}
use Rattle.meaning.specs.declared.Text.TheVariants.{Source}
use Rattle.lexer.specs.Glance.{GlanceAt}
use Rattle.items_telling.specs.declared.Quick.{Quick}
use Rattle.items_telling.specs.declared.Quick.TheVariants.{Item}
use Rattle.lexer.proofs.Quotings.{quoted_told}
use Rattle.lexer.proofs.glance.quick_quoted.Tie as tie
use Rattle.lexer.proofs.glance.quick_quoted.Lts as lts
use Rattle.lexer.proofs.glance.quick_quoted.Reads as reads
use Rattle.lexer.proofs.glance.quick_quoted.Goals as goal

closing : (c : lts.Past-After-known_told tie.the-claims reads.Pre reads.Post) → ClosesAt c.args.source.now c.requires.1.quotes (c.args.at + 1) c.in-Some.end
closing c =
    let k = c.requires.1.quotes in
    subst (Closes c.args.source.now k (c.args.at + 1)) c.in-Some.is (c.quoted_ending.ensures k c.requires.1.closes)

pub overflow_add-from : goal.overflow_add-from
overflow_add-from c = omega (arith, c.requires.0, c.requires.1.some)

pub quoted_ending-requires : goal.quoted_ending-requires
quoted_ending-requires c = (omega (arith, c.requires.1.some), c.requires.2)

pub overflow_sub-end : goal.overflow_sub-end
overflow_sub-end c = omega (arith, (closing c.before).some)

pub returns-in-Some : goal.returns-in-Some
returns-in-Some c report skip =
    let e = c.in-Some.end in
    let Q = c.requires.1 in
    subst (λ (q : Quick). GlanceAt c.args.source.now report skip c.args.at q)
    (sym (c.named.ensures ∙ ap (λ (k : ℕ). Item (means k 0 (Source (c.args.at + 1) (e - 1))) c.args.at e) Q.is))
    (quoted_told c.args.source.now c.args.at e Q.quotes c.requires.0 Q.some Q.opens (closing c.before.before) report skip)
