-- The invariant: what was counted is the length of what stands before the place, two bytes for a byte at most.
use native.Mathlib.Omega.{arith}
use mathlib.Core.Path.{ap, ◌∙◌}
use mathlib.Core.List.{[]}
use lib.ListN.{length, get_or}
use Rattle.items_writing.proofs.QuotedBytes.{few_bytes, front_size, front_all, laid_start}
use Rattle.items_writing.proofs.quoting.escaped_length.Goals as goal

pub loop-b-init : goal.loop-b-init
loop-b-init c = (omega arith, (laid_start c.args.mark c.args.t.now []).size, omega arith)

pub overflow_add-n : goal.overflow_add-n
overflow_add-n c =
    let turn = c.loop-b in
    omega (arith, (few_bytes c.args.mark (get_or c.args.t.now turn.b-index 0)).1, c.byte_length-n.ensures)

pub loop-b-preserved : goal.loop-b-preserved
loop-b-preserved c =
    let turn = c.loop-b in (
      omega arith,
      omega (arith, front_size c.args.mark c.args.t.now turn.b-index (omega arith), c.byte_length-n.ensures),
      omega
          (arith, (few_bytes c.args.mark (get_or c.args.t.now turn.b-index 0)).1, c.byte_length-n.ensures),
    )

pub returns : goal.returns
returns c =
    (c.loop-b.invariant.1 ∙ ap length (front_all c.args.mark c.args.t.now c.loop-b.b-index (omega arith)), omega arith)
