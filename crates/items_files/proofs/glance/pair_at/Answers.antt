-- Two bytes whose `|` is below 128 are each below it (`or_below`).
use Prim.Native.Nat.{◌+◌}
use lib.Bits.{bit_or}
use lib.ListN.{get_or}
use borrow.Author.Tests.{ltb-true}
use Rattle.items_files.proofs.LightItems.{or_below}
use Rattle.items_files.proofs.glance.pair_at.Goals as goal

pub returns : goal.returns
returns c =
    let s = c.args.file.now in
    let at = c.args.at in
    λ e. or_below (get_or s at 0) (get_or s (at + 1) 0) (ltb-true (bit_or (get_or s at 0) (get_or s (at + 1) 0)) 128 e)
