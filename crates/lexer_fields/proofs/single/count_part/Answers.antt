-- A part that is UTF-8 gives the items that reading on from its start gives; any other has its mark and its place.
use Rattle.std.proofs.Common.{None, Some}
use mathlib.Core.Path.{◌≡◌, sym, ap, ◌∙◌}
use Rattle.chars.specs.Utf8.{first_bad}
use Rattle.lexer.specs.declared.Position.{Position}
use Rattle.lexer_fields.proofs.OnePart.{good_part, bad_short, bad_part}
use Rattle.lexer_fields.proofs.single.count_part.Goals as goal

pub count-n-requires : goal.count-n-requires
count-n-requires c =
    (c.requires.0, sym (sym c.in-None.is ∙ c.seen.ensures))

pub not_utf8-requires : goal.not_utf8-requires
not_utf8-requires c =
    let bad : Some c.in-Some.at ≡ first_bad c.args.part.now = sym c.in-Some.is ∙ c.seen.ensures in
    bad_short c.args.part.now c.args.mode c.args.skip c.in-Some.at bad c.requires.0

pub returns-in-None : goal.returns-in-None
returns-in-None c =
    let good : None ≡ first_bad c.args.part.now = sym c.in-None.is ∙ c.seen.ensures in
    good_part c.args.part.now c.args.mode c.args.skip good c.start-position.result.spot (ap (λ (p : Position). p.spot) c.start-position.ensures)
    c.count-n.result c.read_well.result c.count-n.ensures c.read_well.ensures

pub returns-in-Some : goal.returns-in-Some
returns-in-Some c =
    let bad : Some c.in-Some.at ≡ first_bad c.args.part.now = sym c.in-Some.is ∙ c.seen.ensures in
    bad_part c.args.part.now c.args.mode c.args.skip c.in-Some.at bad c.not_utf8.result c.not_utf8.ensures
