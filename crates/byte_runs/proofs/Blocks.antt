-- What the tests of a block say of the run there, and runs from the places that they pass.
use Prim.Native.Nat.{ℕ, ◌+◌, ◌-◌, ◌≤◌, max}
use native.Mathlib.Omega.{arith}
use mathlib.Core.Path.{◌≡◌, refl, sym, ap, subst, ◌∙◌}
use mathlib.Core.List.{List}
use mathlib.Core.Bool.{Bool, true, false, not, ◌&&◌}
use lib.Bits.{bit_or, or_add_and, and_le_l, and_le_r}
use lib.Dec.{eqb, leb}
use mir.Val.{bool_byte}
use lib.ListN.{length, drop}
use borrow.Author.Tests.{eq-eqb, ne_eqb, eqb-true, eqb-false, leb-true, leb-false, le-leb}
use Rattle.laws.specs.Texts.{span}
use Rattle.laws.proofs.Choice.{by_bool, yes_no, no_yes}
use Rattle.laws.proofs.Blocks.{block_short, block_on}
use Rattle.laws.proofs.Runs.{span_end}
use Rattle.byte_runs.specs.Runs.{block}

pub not-not : (x y : Bool) → not x ≡ y → x ≡ not y
not-not true y e = ap not e
not-not false y e = ap not e

-- numbers are 0 together just if both are
or_none : (x y : ℕ) → eqb (bit_or x y) 0 ≡ (eqb x 0 && eqb y 0)
or_none x y =
    by_bool (eqb x 0)
    (λ e. by_bool (eqb y 0)
    (λ f. rw (e, f) (eq-eqb (bit_or x y) 0 (omega (arith, eqb-true x 0 e, eqb-true y 0 f, or_add_and x y))))
    (λ f. rw (e, f) (ne_eqb (bit_or x y) 0 (omega (arith, eqb-false y 0 f, or_add_and x y, and_le_l x y)))))
    (λ e. rw e (ne_eqb (bit_or x y) 0 (omega (arith, eqb-false x 0 e, or_add_and x y, and_le_r x y))))

-- a test as a number is 0 just if what it fails passes
as_number : (y p : Bool) → y ≡ not p → eqb (bool_byte y) 0 ≡ p
as_number true false e = refl
as_number false true e = refl
as_number true true e = yes_no e
as_number false false e = no_yes e

-- a test more, put to those before it as a number
pub none_more : (x : ℕ) (y p : Bool) → y ≡ not p → eqb (bit_or x (bool_byte y)) 0 ≡ (eqb x 0 && p)
none_more x y p e = or_none x (bool_byte y) ∙ ap (λ (q : Bool). eqb x 0 && q) (as_number y p e)

-- what does not end a run passes
pub passes_on : (p : Bool) {r : Bool} → r ≡ not p → r ≡ false → p ≡ true
passes_on true e f = refl
passes_on false e f = yes_no (sym e ∙ f)

pub passes_not : (p : Bool) {r : Bool} → r ≡ not p → r ≡ true → p ≡ false
passes_not true e f = no_yes (sym e ∙ f)
passes_not false e f = refl

module _ (t : List ℕ) (at : ℕ) {r : Bool} (e : r ≡ leb (at + block) (length t)) where
  pub room : not r ≡ false → at + block ≤ length t
  room h = leb-true (at + block) (length t) (sym e ∙ not-not r false h)

  pub no_room : (f : ℕ → Bool) → not r ≡ true → false ≡ leb block (span f (drop at t))
  no_room f h = sym (block_short f t at block (omega (arith, leb-false (at + block) (length t) (sym e ∙ not-not r true h))) (omega arith))

module _ (f : ℕ → Bool) (t : List ℕ) (at : ℕ) where
  -- the run from a place that it passes ends where it ends
  pub run_to : (k : ℕ) → at ≤ k → k ≤ at + span f (drop at t) → k + span f (drop k t) ≡ at + span f (drop at t)
  run_to k h l =
      let e : at + (k - at) ≡ k = omega arith in
      subst (λ (m : ℕ). m + span f (drop m t) ≡ at + span f (drop at t)) e
      (block_on f t at (k - at) refl (le-leb (k - at) (span f (drop at t)) (omega arith)))

  -- n bytes before such a place are of the run
  pub run_before : (k n : ℕ) → at + n ≤ k → k ≤ at + span f (drop at t) → n ≤ span f (drop (k - n) t)
  run_before k n h l = omega (arith, run_to (k - n) (omega arith) (omega arith))

  -- two places that it passes
  pub run_both : (k m : ℕ) → at ≤ k → k ≤ at + span f (drop at t) → at ≤ m → m ≤ at + span f (drop at t) → m + span f (drop m t) ≡ k + span f (drop k t)
  run_both k m h l i p = run_to m i p ∙ sym (run_to k h l)

-- n bytes past a place are of the run, told by one test with the n bytes before it
pub run_step : (f : ℕ → Bool) (t : List ℕ) (at n m : ℕ) → n ≤ at → m ≡ n + n → {r : Bool} → r ≡ leb m (span f (drop (at - n) t)) → r ≡ true
    → at + n + span f (drop (at + n) t) ≡ at + span f (drop at t)
run_step f t at n m h e d y =
    let l = leb-true m (span f (drop (at - n) t)) (sym d ∙ y) in
    run_both f t (at - n) at (at + n) (omega arith) (omega arith) (omega arith) (omega arith)

-- a run that was followed from a place up to the text's end, or to the place itself where that is past the end
pub end_max : (f : ℕ → Bool) (t : List ℕ) (at i : ℕ) → at ≤ i → (at ≤ length t → i ≤ length t) → length t ≤ i
    → i + span f (drop i t) ≡ at + span f (drop at t) → max at (length t) ≡ at + span f (drop at t)
end_max f t at i h k m e =
    let past = span_end f t i m in
    by_bool (leb at (length t))
    (λ b. omega (arith, leb-true at (length t) b, k (leb-true at (length t) b), past))
    (λ b. omega (arith, leb-false at (length t) b, span_end f t at (omega (arith, leb-false at (length t) b))))
