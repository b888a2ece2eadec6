-- The bytes passed are digits, so what the escape gives is what it gives with these digits read, from here on. The first byte that is none
-- decides.
use Prim.Native.Nat.{ℕ}
use mathlib.Core.Path.{sym, ap, ◌∙◌}
use mathlib.Core.List.{List}
use native.Mathlib.Omega.{arith}
use lib.ListN.{drop}
use native.Mathlib.Nat.{le_refl}
use Rattle.items.specs.Meaning.{unescape_hex}
use Rattle.escapes.proofs.Cases.{same_text}
use Rattle.escapes.proofs.Hex.{is_closer, is_stop, is_quote_lem, is_digit, digits_none, hex_cut, hex_digit, hex_stops, hex_closes}
use Rattle.escapes.proofs.elements.read_hex.Goals as goal

pub loop-i-init : goal.loop-i-init
loop-i-init c = (
  le_refl _,
  (
    c.requires,
    ap (λ (ds : List ℕ). unescape_hex c.args.k c.args.closer ds (drop c.args.from c.args.raw.now))
        (sym (digits_none c.args.raw.now c.args.from)),
  ),
)

pub returns-then-b-closer : goal.returns-then-b-closer
returns-then-b-closer c = let l = c.loop-i in let a = c.args in
    rw c.closed_hex.ensures (same_text a.k a.raw.now l.invariant.1.1 (le_refl _) (hex_closes a.k a.raw.now
    a.closer a.from l.i l.invariant.0 c.loop-i-test.true (is_closer _ _ _ c.if-b-closer.true)))

pub returns-then-stops_hex : goal.returns-then-stops_hex
returns-then-stops_hex c =
    let l = c.loop-i in let a = c.args in
    rw c.give.ensures (same_text a.k a.raw.now l.invariant.1.1
    (le_refl _) (hex_stops a.k a.raw.now a.closer a.from l.i l.invariant.0 c.loop-i-test.true
    (is_stop _ _ _ c.if-b-closer.false (sym c.stops_hex.ensures ∙ c.if-stops_hex.true))))

pub returns-then-b-delimiter : goal.returns-then-b-delimiter
returns-then-b-delimiter c =
    let l = c.loop-i in
    let a = c.args in
    rw c.give-then-b-delimiter.ensures (same_text a.k a.raw.now l.invariant.1.1 (le_refl _) (hex_stops a.k a.raw.now a.closer a.from
    l.i l.invariant.0 c.loop-i-test.true (is_quote_lem _ _ _ c.if-b-closer.false
    (sym c.stops_hex.ensures ∙ c.if-stops_hex.false) (c.if-b-delimiter.true ∙ c.delimiter.ensures))))

pub loop-i-preserved : goal.loop-i-preserved
loop-i-preserved c = let l = c.loop-i in
    let a = c.args in (
      omega arith,
      (
        omega arith,
        l.invariant.1.1 ∙ hex_digit a.k
            a.raw.now a.closer a.from l.i l.invariant.0 c.loop-i-test.true
            (is_digit _ _ _ c.if-b-closer.false (sym c.stops_hex.ensures
            ∙ c.if-stops_hex.false) (λ h. c.if-b-delimiter.false (h ∙ sym c.delimiter.ensures))),
      ),
    )

pub returns : goal.returns
returns c = let l = c.loop-i in let a = c.args in
    rw c.give-2.ensures (same_text a.k a.raw.now l.invariant.1.1 (le_refl _)
    (hex_cut a.k a.raw.now a.closer a.from l.i l.invariant.0 c.requires c.loop-i-test.false))
