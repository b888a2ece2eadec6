-- The text being good, the quotes are passed up to the first closing quote or backslash (Apart), so that there is no escape before it; the
-- quote closes them (Ended).
use native.Mathlib.Omega.{arith}
use mathlib.Core.Path.{sym, ◌∙◌, subst}
use Prim.Native.Nat.{ℕ}
use Rattle.laws.specs.Quoted.{code}
use Rattle.items.specs.declared.Phase.TheVariants as ph
use Rattle.steps.specs.Held.{Holds}
use Rattle.steps.proofs.Letters.{quoted_holds}
use Rattle.steps.proofs.Apart.{passes_apart}
use Rattle.std.proofs.Common.{Option}
use Rattle.std.proofs.lemmas.Grind.{get_or_default_zero}
use borrow.Author.Tests.{eqb-true, true-ltb}
use Rattle.steps.specs.Ended.{Closes}
use Rattle.steps.proofs.Ended.{told, quoted_before, run_unescaped, delim_small, delim_other}
use Rattle.steps.proofs.endings.quoted_ending.Goals as goal

pub returns : goal.returns
returns c k q =
    let s = c.args.s.now in
    let e = c.apart_end-end in
    let g = c.in_ok-get.ensures.lookup in
    let h = true-ltb _ _ g.0 in
    told (λ (r : Option ℕ). Closes s k c.args.from r) tt _ _ _ c.then_some.ensures
    (λ t. let is = sym (g.1 ∙ get_or_default_zero _ _ _ h) ∙ eqb-true _ _ t in
    quoted_before s c.args.from e.result k
    (passes_apart s (ph.Quoted k) c.args.quote (code "\\") c.args.from e.result (subst (λ (x : ℕ). Holds (ph.Quoted k) x (code "\\")) (sym q) (quoted_holds k))
    (omega (arith, q, delim_small k)) (omega arith) c.requires.0 c.requires.1 e.ensures)
    h (is ∙ q)
    (run_unescaped s c.args.quote c.args.from e.result (λ x. delim_other k (sym q ∙ x)) e.ensures h is))
