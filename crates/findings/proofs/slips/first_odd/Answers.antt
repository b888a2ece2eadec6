-- The loop keeps that what the part tells from place i on is what it tells.
use mathlib.Core.Path.{refl, sym, ap, ◌∙◌}
use Prim.Native.Nat.{ℕ}
use native.Mathlib.Omega.{arith}
use native.Mathlib.Nat.{add-zero}
use Rattle.chars.specs.Utf8.{sequences}
use Rattle.chars.proofs.Sequences.{further}
use Rattle.chars.proofs.Chars.{char_at}
use Rattle.findings.specs.Slips.{first_odd}
use Rattle.findings.proofs.OddNames.{code_some, code_none, odd_turn, plain_turn, odd_end}
use Rattle.findings.proofs.slips.first_odd.Goals as goal

pub loop-i-init : goal.loop-i-init
loop-i-init c = (omega arith, ap (λ (n : ℕ). first_odd (sequences 0 n c.args.part.now)) (add-zero c.args.a))

pub loop-i-preserved-then-is_plain : goal.loop-i-preserved-then-is_plain
loop-i-preserved-then-is_plain c = (
  omega arith,
  sym (plain_turn c.args.part.now c.args.a c.loop-i.i c.loop-i-test.true refl (sym c.is_plain.ensures ∙ c.if-is_plain.true))
      ∙ c.loop-i.invariant.1,
)

pub overflow_add-a-in-Some : goal.overflow_add-a-in-Some
overflow_add-a-in-Some c =
    let p = char_at c.args.part.now c.loop-i.i c.in-Char.code c.in-Char.next (sym c.in-Char.is ∙ c.decode_at.ensures) c.loop-i.invariant.0 in
    omega (arith, p.inside)

pub overflow_cast-a-in-Some : goal.overflow_cast-a-in-Some
overflow_cast-a-in-Some c =
    let p = char_at c.args.part.now c.loop-i.i c.in-Char.code c.in-Char.next (sym c.in-Char.is ∙ c.decode_at.ensures) c.loop-i.invariant.0 in
    omega (arith, p.inside)

pub returns-in-Some : goal.returns-in-Some
returns-in-Some c =
    let turn = odd_turn c.args.part.now c.args.a c.loop-i.i (sym c.in-Char.is ∙ c.decode_at.ensures) in
    let odd = code_some _ (sym c.in-Some.is ∙ c.odd_code.ensures) in
    c.warn.ensures ∙ sym (turn ∙ rw (odd.0, ← odd.1)) ∙ c.loop-i.invariant.1

pub loop-i-smaller : goal.loop-i-smaller
loop-i-smaller c =
    omega (arith, further c.args.part.now c.loop-i.i c.in-Char.code c.in-Char.next (sym c.in-Char.is ∙ c.decode_at.ensures))

pub loop-i-preserved : goal.loop-i-preserved
loop-i-preserved c =
    let o = sym c.in-Char.is ∙ c.decode_at.ensures in
    let turn = odd_turn c.args.part.now c.args.a c.loop-i.i o in (
      (char_at c.args.part.now c.loop-i.i c.in-Char.code c.in-Char.next o c.loop-i.invariant.0).inside,
      sym (turn ∙ rw (code_none _ c.odd_code.ensures c.in_default.not-Some)) ∙ c.loop-i.invariant.1,
    )

pub returns-in-Bad : goal.returns-in-Bad
returns-in-Bad c = sym (odd_turn _ _ _ (sym c.in-Bad.is ∙ c.decode_at.ensures)) ∙ c.loop-i.invariant.1

pub returns-in-Cut : goal.returns-in-Cut
returns-in-Cut c = sym (odd_turn _ _ _ (sym c.in-Cut.is ∙ c.decode_at.ensures)) ∙ c.loop-i.invariant.1

pub returns-in-End : goal.returns-in-End
returns-in-End c = sym (odd_turn _ _ _ (sym c.in-End.is ∙ c.decode_at.ensures)) ∙ c.loop-i.invariant.1

pub returns : goal.returns
returns c = odd_end _ _ _ c.loop-i-test.false ∙ c.loop-i.invariant.1
