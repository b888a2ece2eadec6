-- Each answer of `lexer::open` is a case of the definition; a refused reader starts at the front of an empty text.
use mathlib.Core.Path.{ap, ◌∙◌}
use mathlib.Core.List.{[]}
use Rattle.std.proofs.Common.{Ok, Err}
use Rattle.lexer.specs.declared.Position.{Position}
use Rattle.reader.specs.Reading.{standing_of, opened_as}
use Rattle.reader.proofs.Steps.{open_is, open_fails}
use Rattle.reader.proofs.open.Goals as goal

pub returns-in-Ok : goal.returns-in-Ok
returns-in-Ok c = open_is c.args.source.now c.args.mode c.args.skip (Ok c.in-Ok.position) c.in-Ok.ensures

pub returns-in-Err : goal.returns-in-Err
returns-in-Err c =
    ap (λ (p : Position). opened_as (standing_of (Err c.in-Err.refusal)) [] p) c.front.ensures
    ∙ open_fails c.args.source.now c.args.mode c.args.skip c.in-Err.refusal c.in-Err.ensures
