-- Only after a # is there a line to pass over.
use mathlib.Core.Path.{sym, ap, ◌∙◌}
use Rattle.lexer.specs.declared.Position.{Position}
use Rattle.lexer_fields.proofs.OnePart.{start_plain}
use Rattle.lexer_fields.proofs.single.first_place.Goals as goal

pub returns-then-begins_hash : goal.returns-then-begins_hash
returns-then-begins_hash c = ap (λ (p : Position). p.spot.at) c.start-position.ensures

pub returns : goal.returns
returns c =
    start_plain c.args.part.now c.requires (sym c.begins_hash.ensures ∙ c.if-begins_hash.false)
