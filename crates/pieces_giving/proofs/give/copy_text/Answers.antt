-- An arm for each place of a text.
use lib.ListN.{drop, length-drop}
use native.Mathlib.Omega.{arith}
use Rattle.items.proofs.Shorter.{shorter}
use Rattle.pieces_giving.proofs.give.copy_text.Goals as goal

pub decode-requires : goal.decode-requires
decode-requires c =
    (omega arith, omega (arith, shorter c.quotes_of.result (drop 1 c.args.raw.now), length-drop 1 c.args.raw.now))

pub returns-in-Nowhere : goal.returns-in-Nowhere
returns-in-Nowhere c = rw c.in-Nowhere.is c.copy_extent.ensures

pub returns-in-Source : goal.returns-in-Source
returns-in-Source c =
    rw c.in-Source.is
    (rw (c.saturating_sub.ensures, c.saturating_sub-in-Source.ensures) at c.copy_part.ensures)

pub returns-in-Decoded : goal.returns-in-Decoded
returns-in-Decoded c = rw c.in-Decoded.is (rw c.quotes_of.ensures at c.decode.ensures)
