-- The bytes passed are ASCII, so the run of ASCII is at least as long; the first that is not ends it.
use Rattle.laws.specs.Texts.{span}
use Rattle.laws.proofs.Runs.{span_hit, span_stop, span_end, span_le}
use Rattle.chars.specs.Utf8.{ascii}
use Rattle.chars.proofs.Ascii.{ascii_yes, ascii_no}
use Rattle.std.proofs.Common.{◌≡◌, ◌<◌, length, sym, ◌∙◌, zero-add, arith, eq-eqb, ne_eqb}
use Rattle.coordinates.proofs.is_ascii.Goals as goal

pub loop-c-init : goal.loop-c-init
loop-c-init c = sym (zero-add _)

pub returns-then-c-gt-LAST_ASCII : goal.returns-then-c-gt-LAST_ASCII
returns-then-c-gt-LAST_ASCII c =
    let t = c.args.t.now in
    let i = c.loop-c.c-index in
    let l : i < length t = c.loop-c-test.true in
    let e : span ascii t ≡ i = c.loop-c.invariant ∙ span_stop ascii t i l (ascii_no _ c.if-c-gt-LAST_ASCII.true) in
    sym (ne_eqb (span ascii t) (length t) (λ q. omega (arith, e, l, q)))

pub loop-c-preserved : goal.loop-c-preserved
loop-c-preserved c =
    let l = c.if-c-gt-LAST_ASCII.false in
    c.loop-c.invariant ∙ span_hit ascii _ _ c.loop-c-test.true (ascii_yes _ (omega arith))

pub returns : goal.returns
returns c =
    let e = c.loop-c.invariant ∙ span_end ascii _ _ c.loop-c-test.false in
    let l = c.loop-c-test.false in
    let t = c.args.t.now in
    let k : span ascii t ≡ length t = omega (arith, span_le ascii t) in sym (eq-eqb _ _ k)
