-- The text is what the string decodes to (Giving: text-copied).
use native.Mathlib.Omega.{arith}
use mathlib.Core.Path.{refl}
use lib.ListN.{drop, length-drop}
use Rattle.items.specs.declared.Quotes.TheVariants.{Double}
use Rattle.items.proofs.Shorter.{shorter}
use Rattle.pieces_quick.specs.Gives.{decoded_means}
use Rattle.pieces_quick.proofs.Giving.{text_copied}
use Rattle.pieces_quick.proofs.finishing.decoded_record.Goals as goal

pub decode-n-requires : goal.decode-n-requires
decode-n-requires c =
    let raw = c.args.raw.now in
    (omega (arith, c.requires.some), omega (arith, shorter Double (drop 1 raw), length-drop 1 raw, c.requires.small, c.requires.room))

pub overflow_cast-n : goal.overflow_cast-n
overflow_cast-n c =
    let raw = c.args.raw.now in
    omega (arith, c.decode-n.ensures.0, shorter Double (drop 1 raw), length-drop 1 raw, c.requires.small)

pub returns : goal.returns
returns c =
    let a = c.args in
    let p = c.decode-n in
    text_copied a.depth (decoded_means a.raw.now) a.s a.raw.now a.text.now _ c.record_of.result (omega arith) p.result refl
    p.ensures.0 p.ensures.1 c.record_of.ensures
