-- What the call builds, put together: its nodes are a row of trees at the depth of their items' records, and its records have as many opens as
-- closes. The nodes have a reading (`only`), and each of the three holds of a reading.
use Prim.Native.Nat.{ℕ}
use mathlib.Core.Path.{◌≡◌, ap}
use mathlib.Core.List.{List}
use lib.ListN.{length}
use Rattle.nested.specs.Items.{items_of}
use Rattle.nested.specs.Grammar.{Node, Reading}
use Rattle.nested.specs.Lent.{words_of, spliced, nested_of, Outcome, Built}
use Rattle.nested.proofs.Exactly.{served, only}
use Rattle.nested_theorems.specs.Depth.{opens, closes}
use Rattle.nested_theorems.specs.Trees.{Trees}
use Rattle.nested_theorems.proofs.Balanced.{balanced}
use Rattle.nested_theorems.proofs.Deep.{around}

pub built : (s memory : List ℕ) (n : ℕ) → (nested_of s memory).answer ≡ Built n
    → (ns : List Node) × Trees s 0 ns × (n ≡ length ns) × ((nested_of s memory).memory ≡ spliced 0 (words_of ns) memory) × (opens (items_of s) ≡ closes (items_of s))
built s memory n h =
    let o = only s memory n h in
    let r : Reading (items_of s) o.0 = o.1 in
    (o.0, around s r, o.3, ap (λ (x : Outcome). x.memory) (served s memory o.0 r o.2), balanced r)
