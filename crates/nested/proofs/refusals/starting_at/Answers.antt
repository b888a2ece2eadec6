-- The refusal of a second datum after a dot comes first, then that of depth: laws `starting-tailed` and `starting-deep`.
use Rattle.std.proofs.lemmas.Result.{err_from_is_err_and}
use mathlib.Core.Path.{refl}
use Rattle.nested.proofs.Steps.{error_some, starting-deep, starting-tailed}
use Rattle.nested.proofs.refusals.starting_at.Goals as goal

pub returns-in_err-tailed_at : goal.returns-in_err-tailed_at
returns-in_err-tailed_at c =
    let p = err_from_is_err_and c.from_residual.result c.from_residual.ensures.1 in
    rw (p.1, p.2) (starting-tailed c.args.f c.args.depth _ c.in_err-tailed_at.ensures (error_some _))

pub returns : goal.returns
returns c = starting-deep c.args.f c.args.depth 0 _ c.in_ok-tailed_at.ensures refl c.deep_at.ensures
