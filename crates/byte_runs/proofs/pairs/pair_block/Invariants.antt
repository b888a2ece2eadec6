use mathlib.Core.Path.{◌≡◌}
use mathlib.Core.Bool.{true}
use Rattle.byte_runs.proofs.Together.{PairedTo}
use Rattle.byte_runs.proofs.pairs.pair_block.Given as goal

abbrev pub invariant-loop-i : goal.invariant-loop-i
invariant-loop-i l = l.all ≡ true → PairedTo l.t l.at l.i
