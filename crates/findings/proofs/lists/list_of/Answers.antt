-- The lists are read into no room, and the refusal is told.
use Rattle.findings.specs.Lists.{list_of, nested_told}
use mathlib.Core.Path.{sym, ap, ◌∙◌}
use Rattle.nested.specs.Lent.{told_of, Outcome}
use Rattle.findings.proofs.lists.list_of.Goals as goal

pub returns-in-Ok : goal.returns-in-Ok
unfolding list_of
returns-in-Ok c =
    let args = c.args in
    let build = c.build-built in
    let told = nested_told args.source.now args.rows.now in
    sym (ap told (ap (λ (o : Outcome). o.answer) (sym build.ensures) ∙ ap told_of c.in-Ok.is))

pub returns-in-Err : goal.returns-in-Err
unfolding list_of
returns-in-Err c =
    let args = c.args in
    let build = c.build-built in
    let told = nested_told args.source.now args.rows.now in
    c.refused_list.ensures ∙ sym (ap told (ap (λ (o : Outcome). o.answer) (sym build.ensures) ∙ ap told_of c.in-Err.is))
