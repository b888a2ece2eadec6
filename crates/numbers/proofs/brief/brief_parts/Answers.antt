-- The first real ends with the text, or the byte behind it says what may follow; each form is told by a function of its own.
use Rattle.std.proofs.Common.{Some}
use Rattle.numbers.specs.Brief.{Begins}
use Rattle.numbers.proofs.Outlines.{outline_rest, is_told_lem}
use Rattle.digits.proofs.Digits.{is_sign_told}
use mathlib.Core.Path.{sym, ap, ◌∙◌}
use mathlib.Core.Logic.{inl}
use native.Mathlib.Omega.{arith}
use Rattle.numbers.proofs.brief.brief_parts.Tie as tie
use Rattle.numbers.proofs.brief.brief_parts.Lts as lts
use Rattle.numbers.proofs.brief.brief_parts.Reads as reads
use Rattle.numbers.proofs.brief.brief_parts.Goals as goal

-- the text goes on behind its first real
begins : (c : lts.Else3 tie.the-claims reads.Pre reads.Post) → Begins c.args.t.now c.outline_at-one.result
begins c =
    let one = c.outline_at-one.ensures in
    (omega arith, one.0, one.1, one.2, is_told_lem _ c.if-not-is_sound.false-raw ∙ c.is_sound.ensures, c.if-t-end.false)

pub returns-then-t-end : goal.returns-then-t-end
returns-then-t-end c =
    let one = c.outline_at-one in
    inl (ap Some c.real_of.ensures
    ∙ outline_rest c.args.t.now 0 one.result one.ensures.0 one.ensures.3 one.ensures.1 (omega arith) one.ensures.2
    (is_told_lem _ c.if-not-is_sound.false-raw ∙ c.is_sound.ensures) c.if-t-end.true)

pub brief_polar-requires : goal.brief_polar-requires
brief_polar-requires c = (begins c.before.before.before, c.if-c-eq64.true)

pub brief_complex-requires : goal.brief_complex-requires
brief_complex-requires c = (begins c.before.before.before.before.before, is_sign_told _ (sym c.if-is_sign.true ∙ c.is_sign.ensures))

pub brief_ratio-requires : goal.brief_ratio-requires
brief_ratio-requires c =
    let one = c.outline_at-one.ensures in
    (begins c.before.before.before.before.before.before.before.before, omega (arith, one.2, c.if-one-end.false), c.if-c-eq47.true)
