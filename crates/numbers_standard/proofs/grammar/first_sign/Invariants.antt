use mathlib.Core.Path.{◌≡◌}
use mathlib.Core.Bool.{not}
use Prim.Native.Nat.{◌+◌, ◌≤◌, max}
use lib.ListN.{length, drop}
use Rattle.laws.specs.Texts.{span}
use Rattle.laws.specs.Letters.{is_sign}
use Rattle.numbers_standard.proofs.grammar.first_sign.Given as goal

abbrev pub invariant-loop-i : goal.invariant-loop-i
invariant-loop-i l =
    (l.from + span (λ c. not (is_sign c)) (drop l.from l.t) ≡ l.i + span (λ c. not (is_sign c)) (drop l.i l.t)) × (l.i ≤ max l.from (length l.t))
