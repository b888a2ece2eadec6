use Prim.Native.Nat.{◌≤◌}
use mathlib.Core.Path.{◌≡◌}
use mathlib.Core.List.{[]}
use lib.ListN.{length, drop}
use Rattle.items.specs.Meaning.{unescape_hex}
use Rattle.escapes.proofs.Hex.{digits_to}
use Rattle.escapes.proofs.elements.read_hex.Given as goal

abbrev pub invariant-loop-i : goal.invariant-loop-i
invariant-loop-i l = (l.from ≤ l.i) × ((l.i ≤ length l.raw) × (unescape_hex l.k l.closer [] (drop l.from l.raw) ≡ unescape_hex l.k l.closer (digits_to l.raw l.from l.i) (drop l.i l.raw)))
