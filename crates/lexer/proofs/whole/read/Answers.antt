-- What opening refuses the call refuses; else the items of the definition are those that reading on gives from the opening position.
use Rattle.std.proofs.lemmas.Result.{err_from_is_err_and}
use mathlib.Core.Path.{sym, ◌∙◌}
use Rattle.lexer.proofs.Opens.{read_opened, read_fails}
use Rattle.lexer.proofs.whole.read.Goals as goal

pub deliver-requires : goal.deliver-requires
deliver-requires c =
    let o = read_opened c.args.source.now c.args.mode c.args.skip c.args.recs.now
    c.args.text.now c.in_ok-position.position c.in_ok-position.ensures in (o.0, o.1, o.2)

pub returns : goal.returns
returns c =
    c.deliver.ensures
    ∙ sym (read_opened c.args.source.now c.args.mode c.args.skip c.args.recs.now c.args.text.now
    c.in_ok-position.position c.in_ok-position.ensures).3

pub returns-in_err-position : goal.returns-in_err-position
returns-in_err-position c =
    let p = err_from_is_err_and c.from_residual.result c.from_residual.ensures.1 in
    rw (p.1, p.2) (read_fails c.args.source.now c.args.mode c.args.skip c.args.recs.now c.args.text.now c.in_err-position.field-0.0 c.in_err-position.ensures)
