use Rattle.std.proofs.Common.{◌≡◌, ◌+◌, ◌-◌, ◌*◌, ◌≤◌, length, drop}
use Rattle.pieces.specs.declared.State.{State}
use Rattle.pieces.specs.Drive.{piece_calls}
use Rattle.pieces.specs.Expected.{Expected}
use Rattle.lexlist_listing.specs.Counted.{counted}
use Rattle.lexlist_listing.proofs.list_piece.Given as goal

abbrev pub invariant-loop : goal.invariant-loop
invariant-loop g l = (l.from ≤ length l.bytes) × (length l.text ≡ length l.initial.text)
    × ((next : State → Expected) → counted l.now.items (piece_calls (length l.initial.text) (2 * length l.bytes + 2 - l.counter) l.now.state (drop l.from l.bytes) next)
    ≡ counted l.initial.now.items (piece_calls (length l.initial.text) (2 * length l.bytes + 2) l.initial.now.state l.bytes next))
