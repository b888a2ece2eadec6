-- The scan that starts after an item's first character answers what the definition's reader reads.
use Prim.Native.Nat.{ℕ, ◌+◌}
use mathlib.Core.Path.{◌≡◌, ap}
use mathlib.Core.Bool.{Bool}
use mathlib.Core.List.{List}
use lib.ListN.{drop}
use Rattle.chars.specs.Encode.{width}
use Rattle.chars.specs.Utf8.{chars}
use Rattle.chars.proofs.Chars.{CharAt}
use Rattle.items.specs.Classes.{first_of}
use Rattle.items.specs.Readers.{so_far, read_item}
use Rattle.items.specs.Machine.{on_first, scan_of}
use Rattle.items.proofs.Same.{item_same}
use Rattle.steps.specs.Scan.{part, scanned}

-- what `scan(s, report, at, next, first_phase(c))` answers, where c stands from `at` to `next`
pub scan_item : (s : List ℕ) (report : Bool) (at c next : ℕ) → CharAt s at c next
    → scanned (scan_of report (on_first (first_of c)) (so_far (part s at next) next) (chars (drop next s))) ≡ scanned (read_item report at c (chars (drop next s)))
scan_item s report at c next k = rw (k.bytes, k.on) (ap scanned (item_same report at c (chars (drop (at + width c) s))))
