-- The lesser of two numbers.
use Prim.Native.Nat.{ℕ, min}
use mathlib.Core.List.{List}
use mathlib.Core.Path.{◌≡◌}
use native.Mathlib.Omega.{arith}
use borrow.Author.Tests.{ltb-true, ltb-false}
use lib.Dec.{ltb}
use lib.ListN.{length}
use Rattle.laws.proofs.Choice.{by_bool}
use Rattle.findings_render_messages.specs.Messages.{cut}
use Rattle.findings_render.specs.Rendered.{least}

pub least_is : (x y : ℕ) → min x y ≡ least x y
least_is x y = by_bool (ltb y x) (λ t. let h = ltb-true y x t in rw t (omega arith)) (λ f. let h = ltb-false y x f in rw f (omega arith))

pub cut_is : (s : List ℕ) (p : ℕ) → min (length s) p ≡ cut s p
cut_is s p = by_bool (ltb (length s) p) (λ t. let h = ltb-true (length s) p t in rw t (omega arith)) (λ f. let h = ltb-false (length s) p f in rw f (omega arith))
