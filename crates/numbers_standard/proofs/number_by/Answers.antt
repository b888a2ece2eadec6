-- An unknown choice is refused first; what both readers answer alike is answered without a look at the choice; else its reader answers.
use Rattle.numbers.proofs.Call as bought
use Rattle.numbers.proofs.BriefAnswers as briefs
use Rattle.numbers_standard.proofs.Call.{too_long, by_bought, by_unknown, by_other, by_both, refused_by}
use Rattle.numbers_standard.proofs.Plain.{brief_answer}
use Rattle.numbers.specs.Call.{answered}
use mathlib.Core.Path.{sym, ap, ◌∙◌}
use native.Mathlib.Omega.{arith}
use Rattle.numbers_standard.proofs.number_by.Goals as goal

pub returns-then-choice-gt-STANDARD : goal.returns-then-choice-gt-STANDARD
returns-then-choice-gt-STANDARD c = by_unknown _ _ (λ e. omega arith) (λ e. omega arith)

pub returns-then-t-gt-LIMIT : goal.returns-then-t-gt-LIMIT
returns-then-t-gt-LIMIT c = by_both _ _ c.if-choice-gt-STANDARD.false _ (sym (bought.too_long _ c.if-t-gt-LIMIT.true)) (sym (too_long _ c.if-t-gt-LIMIT.true))

pub returns-in-Some : goal.returns-in-Some
returns-in-Some c =
    let parts = rw c.in-Some.is at c.brief_parts.ensures in
    by_both _ _ c.if-choice-gt-STANDARD.false _ (briefs.brief_answer _ c.if-t-gt-LIMIT.false _ parts) (brief_answer _ c.if-t-gt-LIMIT.false _ parts)

pub returns-then-choice-eq-BOUGHT : goal.returns-then-choice-eq-BOUGHT
returns-then-choice-eq-BOUGHT c = sym (ap answered c.in_ok-by_grammar.was) ∙ c.by_grammar.ensures ∙ by_bought _ _ c.if-choice-eq-BOUGHT.true

pub returns : goal.returns
returns c = sym (ap answered c.in_ok-by_standard.was) ∙ c.by_standard.ensures ∙ by_other _ _ (omega arith) c.if-choice-eq-BOUGHT.false

pub returns-in_err-by_grammar : goal.returns-in_err-by_grammar
returns-in_err-by_grammar c =
    refused_by _ _ c.from_residual.ensures.1 ∙ sym (ap answered c.in_err-by_grammar.was) ∙ c.by_grammar.ensures ∙ by_bought _ _ c.if-choice-eq-BOUGHT.true

pub returns-in_err-by_standard : goal.returns-in_err-by_standard
returns-in_err-by_standard c =
    refused_by _ _ c.from_residual-in_err-by_standard.ensures.1
    ∙ sym (ap answered c.in_err-by_standard.was)
    ∙ c.by_standard.ensures
    ∙ by_other _ _ (omega arith) c.if-choice-eq-BOUGHT.false
