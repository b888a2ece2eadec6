-- The second item, and what stands beyond the pair.
use native.Mathlib.Omega.{arith}
use Rattle.pieces_calls.proofs.Replies.{reply_both}
use Rattle.pieces_calls.proofs.calls.give_waiting.Goals as goal

pub give_second-record-requires : goal.give_second-record-requires
give_second-record-requires c = c.requires.0

pub extent-requires : goal.extent-requires
extent-requires c = (omega arith, omega arith)

pub beyond-next-requires : goal.beyond-next-requires
beyond-next-requires c =
    (c.requires.0.full, c.requires.1)

pub returns : goal.returns
returns c = (
  reply_both 0 c.give_second-record.ensures.0 (rw c.extent.ensures at c.beyond-next.ensures),
  c.give_second-record.ensures.1,
)
