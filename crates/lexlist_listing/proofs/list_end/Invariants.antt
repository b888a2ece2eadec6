use Rattle.std.proofs.Common.{◌≡◌, ◌-◌, length}
use Rattle.pieces.specs.Drive.{end_calls}
use Rattle.lexlist_listing.specs.Counted.{counted}
use Rattle.lexlist_listing.proofs.list_end.Given as goal

abbrev pub invariant-loop : goal.invariant-loop
invariant-loop g l = (length l.text ≡ length l.initial.text)
    × (counted l.now.items (end_calls (length l.initial.text) (4 - l.counter) l.now.state) ≡ counted l.initial.now.items (end_calls (length l.initial.text) 4 l.initial.now.state))
