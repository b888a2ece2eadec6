-- A real, `@`, and a real that ends with the text.
use Rattle.std.proofs.Common.{Some}
use Rattle.numbers.proofs.Outlines.{outline_real, outline_rest, is_told_lem}
use mathlib.Core.Path.{ap, ◌∙◌}
use native.Mathlib.Omega.{arith}
use Rattle.numbers.proofs.brief.brief_polar.Goals as goal

pub returns : goal.returns
returns c =
    let two = c.outline_at-two.ensures in
    let begun = c.requires.0 in
    let end = begun.5 in
    let tail = c.if-two-t.false in (
      c.args.one.end,
      begun.5,
      c.requires.1,
      ap Some c.real_of.ensures
          ∙ outline_real c.args.t.now 0 c.args.one begun.1 (omega arith) begun.2 (omega arith) begun.3 begun.4,
      ap Some c.real_of-2.ensures
          ∙ outline_rest c.args.t.now _ c.outline_at-two.result two.0 two.3 two.1 (omega arith) two.2
          (is_told_lem _ c.if-not-is_sound.false-raw ∙ c.is_sound.ensures) tail,
    )
