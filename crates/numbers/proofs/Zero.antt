-- "Zero denominator means all digits zero" (01): a denominator counts as zero exactly if each of its digits is `0`, however many they are.
use Rattle.std.proofs.Common.{None, Some}
use Rattle.numbers.specs.Grammar.{zero_int}
use Rattle.numbers.specs.Reals.{denominator}
use Rattle.laws.proofs.Choice.{by_bool, impossible}
use Rattle.digits.specs.declared.Int.{Int}
use Rattle.digits.specs.declared.Int.TheVariants.{Small, Big}
use Rattle.digits.specs.Digits.{sign, negative, uinteger, value, signed, top, span_at, whole_of, integer, zeros}
use Rattle.digits.proofs.Zeros.{zeros_is}
use Prim.Native.Nat.{ℕ, zero, suc, ◌+◌, ◌≤◌}
use mathlib.Core.Path.{◌≡◌, refl, sym, ◌∙◌}
use mathlib.Core.Bool.{Bool, true, false}
use mathlib.Core.List.{List}
use lib.ListN.{length, drop}
use lib.Dec.{lit≤, eqb, ltb}
use native.Mathlib.Omega.{arith}
use borrow.Author.Tests.{ne_eqb, ltb-false}

zero_signed : (neg : Bool) (m : ℕ) → zero_int (Small (signed neg m)) ≡ eqb m 0
unfolding zero_int signed
zero_signed false m = refl
zero_signed true zero = refl
zero_signed true (suc k) = sym (ne_eqb (suc k) 0 (λ e. omega arith))

top_pos : (neg : Bool) → 1 ≤ top neg
top_pos true = lit≤ tt
top_pos false = lit≤ tt

zero_whole : (R : ℕ) (neg : Bool) (p : ℕ) (s : List ℕ) (d : Int) → 1 ≤ R → whole_of R neg p s ≡ Some d → zero_int d ≡ zeros s
unfolding whole_of zero_int
zero_whole R neg p s d r e =
    by_bool (uinteger R s)
    (λ u. by_bool (ltb (value R 0 s) (top neg))
    (λ l. let f : whole_of R neg p s ≡ Some (Small (signed neg (value R 0 s))) = simp (u, l) in
    let g : d ≡ Small (signed neg (value R 0 s)) = cc in
    rw g (zero_signed neg (value R 0 s) ∙ zeros_is R s r))
    (λ l. let f : whole_of R neg p s ≡ Some (Big neg (span_at p (length s))) = simp (u, l) in
    let g : d ≡ Big neg (span_at p (length s)) = cc in
    rw g (zero_large (ltb-false _ _ l))))
    (λ u. let f : whole_of R neg p s ≡ None = simp u in impossible cc)
  where
    zero_large : top neg ≤ value R 0 s → zero_int (Big neg (span_at p (length s))) ≡ zeros s
    zero_large l = sym (ne_eqb (value R 0 s) 0 (λ z. omega (arith, top_pos neg))) ∙ zeros_is R s r

pub zero_denominator_case : (R p : ℕ) (s : List ℕ) (d : Int) → 1 ≤ R → denominator R p s ≡ Some d → zero_int d ≡ zeros (drop (sign s) s)
unfolding denominator integer
zero_denominator_case R p s d r e = zero_whole R (negative s) (p + sign s) (drop (sign s) s) d r e
