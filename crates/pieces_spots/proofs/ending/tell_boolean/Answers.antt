-- Its two bytes spell it (Ends).
use native.Mathlib.Omega.{arith}
use mathlib.Core.Path.{refl, sym, subst}
use Rattle.pieces_spots.specs.Spots.{TellsSign}
use Rattle.pieces_spots.proofs.Runs.{two_bytes}
use Rattle.pieces_spots.proofs.Ends.{true_spells, false_spells}
use Rattle.pieces_spots.proofs.ending.tell_boolean.Goals as goal

pub returns-in-116 : goal.returns-in-116
returns-in-116 c =
    let raw = c.args.raw.now in
    let spelt = true_spells raw (two_bytes raw _ _ (omega (arith, c.if-raw-ne-BOOLEAN_LENGTH.false))
    (omega (arith, c.if-raw-ne35.false)) c.in-116.is) in
    subst (TellsSign raw) (sym c.bare.ensures) (spelt, refl)

pub returns-in-102 : goal.returns-in-102
returns-in-102 c =
    let raw = c.args.raw.now in
    let spelt = false_spells raw (two_bytes raw _ _ (omega (arith, c.if-raw-ne-BOOLEAN_LENGTH.false))
    (omega (arith, c.if-raw-ne35.false)) c.in-102.is) in
    subst (TellsSign raw) (sym c.bare-in-102.ensures) (spelt, refl)
