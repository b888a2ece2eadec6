-- The bytes passed are equal. Eight bytes that differ make the names differ; where the loop ends, only the last eight are left to compare.
use Prim.Native.Nat.{ℕ, ◌-◌}
use native.Mathlib.Omega.{arith}
use mathlib.Core.Path.{sym, ◌∙◌}
use mathlib.Core.List.{List}
use lib.ListN.{length}
use Rattle.laws.proofs.Compared.{same_differ}
use Rattle.names.specs.Blocks.{eight_at}
use Rattle.names.proofs.SeveralBytes.{same_not, same_by, agree_eight}
use Rattle.names.proofs.blocks.equal.Goals as goal

pub returns-then-s-t : goal.returns-then-s-t
returns-then-s-t c = sym (same_differ _ _ c.if-s-t.true)

pub returns-then-s-lt-EIGHT : goal.returns-then-s-lt-EIGHT
returns-then-s-lt-EIGHT c = c.equal_short.ensures

pub loop-i-init : goal.loop-i-init
loop-i-init c = λ j h. absurd (omega arith)

pub eight-requires : goal.eight-requires
eight-requires c = omega (arith, c.loop-i-test.true)

pub eight-requires-in-loop-i : goal.eight-requires-in-loop-i
eight-requires-in-loop-i c = omega (arith, c.loop-i-test.true, c.if-s-t.false)

pub returns-then-eight : goal.returns-then-eight
returns-then-eight c =
    sym (same_not (λ (x : List ℕ). eight_at x c.loop-i.i) _ _ (λ z. c.if-eight.true (c.eight.ensures ∙ z ∙ sym c.eight-in-loop-i.ensures)))

pub loop-i-preserved : goal.loop-i-preserved
loop-i-preserved c =
    let a = c.args in
    let i = c.loop-i.i in
    agree_eight a.s.now a.t.now (λ j. omega (arith, c.type_inv.s j))
    (λ j. omega (arith, c.type_inv.t j)) i i (omega arith)
    (sym c.eight.ensures ∙ c.if-eight.false ∙ c.eight-in-loop-i.ensures)
    c.loop-i.invariant

pub eight-requires-2 : goal.eight-requires-2
eight-requires-2 c = omega (arith, c.if-s-lt-EIGHT.false)

pub eight-requires-3 : goal.eight-requires-3
eight-requires-3 c = omega (arith, c.if-s-lt-EIGHT.false, c.if-s-t.false)

pub returns : goal.returns
returns c =
    let s = c.args.s.now in
    let t = c.args.t.now in
    let last = length s - 8 in
    same_by (λ (x : List ℕ). eight_at x last) s t c.if-s-t.false
    (λ e j h. agree_eight s t (λ j. omega (arith, c.type_inv.s j))
    (λ j. omega (arith, c.type_inv.t j)) last c.loop-i.i
    (omega (arith, c.loop-i-test.false)) e c.loop-i.invariant j (omega (arith, h, c.if-s-lt-EIGHT.false)))
    c.eight-2.ensures
    c.eight-3.ensures
