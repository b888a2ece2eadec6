-- Each test gives one field; the `|` of four bytes gives the last four (`or_below`).
use Prim.Native.Nat.{◌+◌}
use lib.Bits.{bit_or}
use lib.ListN.{get_or}
use borrow.Author.Tests.{ltb-true}
use Rattle.std.proofs.Common.{arith}
use Rattle.std.proofs.lemmas.Grind.{common_steps}
use Rattle.items_files.proofs.LightItems.{or_below}
use Rattle.items_files.proofs.glance.light_head.Goals as goal

pub returns-then-at-file : goal.returns-then-at-file
returns-then-at-file c =
    let s = c.args.file.now in
    let at = c.args.at in
    λ e.
    let four = or_below (bit_or (bit_or (get_or s at 0) (get_or s (at + 1) 0)) (get_or s (at + 2) 0)) (get_or s (at + 3) 0)
    (ltb-true (bit_or (bit_or (bit_or (get_or s at 0) (get_or s (at + 1) 0)) (get_or s (at + 2) 0)) (get_or s (at + 3) 0)) 128 e) in
    let three = or_below (bit_or (get_or s at 0) (get_or s (at + 1) 0)) (get_or s (at + 2) 0) four.0 in
    let two = or_below (get_or s at 0) (get_or s (at + 1) 0) three.0 in
    record {
      which = grind (arith, common_steps);
      start = grind (arith, common_steps);
      room = grind (arith, common_steps);
      kind = two.0;
      detail = two.1;
      step = three.1;
      extent = four.1;
    }
