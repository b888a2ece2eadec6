-- What follows the line and its newline is what is left after one more byte.
use Rattle.meaning.proofs.Lines.{body_after}
use Rattle.meaning.proofs.quoted.body_length.Goals as goal

pub returns : goal.returns
returns c = body_after c.args.raw.now
    c.rest-inside.result.now c.rest.result.now c.rest-body.result.now c.here_line.result
    c.rest-inside.ensures c.here_line.ensures c.rest.ensures c.rest-body.ensures
