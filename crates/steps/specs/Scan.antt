-- What a scan answers, and the part of a text that an item is.
use Rattle.std.specs.Prelude.{ℕ, ◌-◌, ◌≤◌, ◌≡◌, Bool, List, length, take, drop}
use Rattle.chars.specs.Utf8.{chars}
use Rattle.items.specs.declared.Phase.{Phase}
use Rattle.items.specs.Readers.{Read, so_far}
use Rattle.items.specs.Machine.{scan_of}
use Rattle.steps.specs.declared.Scanned.{Scanned}

-- the part of s from the place a to the place b
abbrev pub part : List ℕ → ℕ → ℕ → List ℕ
part s a b = take (b - a) (drop a s)

-- what a reader got, and the place where its item ends
abbrev pub scanned : Read → Scanned
scanned r = record { what = r.what; end = r.item.at }

-- what the scan answers for the item that starts at the place a, from a phase and a place on
abbrev pub answer : List ℕ → Bool → ℕ → Phase → ℕ → Scanned
answer s report a p at = scanned (scan_of report p (so_far (part s a at) at) (chars (drop at s)))

-- from the place `at` on a scan may go on at the place r: it answers the same
abbrev pub Passes : List ℕ → Phase → ℕ → ℕ → Type 0
Passes s p at r =
    (at ≤ r) × (r ≤ length s) × ((report : Bool) (a : ℕ) → a ≤ at → answer s report a p at ≡ answer s report a p r)

-- the same of the item that starts at the place a
abbrev pub PassesFor : List ℕ → ℕ → Phase → ℕ → ℕ → Type 0
PassesFor s a p at r = (at ≤ r) × (r ≤ length s) × ((report : Bool) → answer s report a p at ≡ answer s report a p r)
