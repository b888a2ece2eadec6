-- What gives nodes has as many opens as closes: each constructor of the grammar adds none, or one of both.
use Prim.Native.Nat.{ℕ, ◌+◌}
use native.Mathlib.Omega.{arith}
use mathlib.Core.Path.{◌≡◌}
use mathlib.Core.List.{List}
use Rattle.nested.specs.Items.{Item}
use Rattle.nested.specs.Grammar.{Node, Gap, none, comment, dropped, Datum, simple, quoted, bracket, dotted, Sequence, last, more, Reading}
use Rattle.nested_theorems.specs.Depth.{opens, closes}

mutual
  unfolding opens closes

  gap_even : {d : ℕ} {xs ys : List Item} → Gap d xs ys → opens xs + closes ys ≡ closes xs + opens ys
  gap_even none = omega arith
  gap_even (comment g) = omega (arith, gap_even g)
  gap_even (dropped g t u) = omega (arith, gap_even g, datum_even t, gap_even u)

  datum_even : {d : ℕ} {xs ys : List Item} {ns : List Node} → Datum d xs ys ns → opens xs + closes ys ≡ closes xs + opens ys
  datum_even (simple e) = omega arith
  datum_even (quoted g t e) = omega (arith, gap_even g, datum_even t)
  datum_even (bracket u e) = omega (arith, sequence_even u)
  datum_even (dotted y g t u h v k e) = omega (arith, gap_even g, datum_even t, sequence_even u, gap_even h, datum_even v, gap_even k)

  sequence_even : {d : ℕ} {xs ys : List Item} {ns : List Node} → Sequence d xs ys ns → opens xs + closes ys ≡ closes xs + opens ys
  sequence_even (last g) = gap_even g
  sequence_even (more g t u e) = omega (arith, gap_even g, datum_even t, sequence_even u)

pub balanced : {xs : List Item} {ns : List Node} → Reading xs ns → opens xs ≡ closes xs
unfolding opens closes
balanced r = omega (arith, sequence_even r)
