-- `equal_lower` compares place by place: the texts are the same exactly if what is left of both is.
use Prim.Native.Nat.{◌<◌}
use mathlib.Core.Path.{refl, sym, ◌∙◌}
use native.Mathlib.Omega.{arith}
use lib.ListN.{length}
use Rattle.spellings.proofs.Case.{case_more, case_differ, case_end, case_length}
use Rattle.spellings.proofs.names.equal_lower.Goals as goal

pub returns-then-t-name : goal.returns-then-t-name
returns-then-t-name c = sym (case_length c.args.t.now c.args.name.now c.if-t-name.true)

pub loop-i-init : goal.loop-i-init
loop-i-init c = refl

pub bounds-name-i : goal.bounds-name-i
bounds-name-i c = omega (arith, c.loop-i-test.true, c.if-t-name.false)

pub returns-then-lower_case-name : goal.returns-then-lower_case-name
returns-then-lower_case-name c =
    let t = c.args.t.now in
    let name = c.args.name.now in
    let l = c.loop-i in
    let in-name : l.i < length name = omega (arith, c.loop-i-test.true, c.if-t-name.false) in
    sym (l.invariant ∙ case_differ t name l.i c.loop-i-test.true in-name (λ h. c.if-lower_case-name.true (c.lower_case.ensures ∙ h)))

pub loop-i-preserved : goal.loop-i-preserved
loop-i-preserved c =
    let t = c.args.t.now in
    let name = c.args.name.now in
    let l = c.loop-i in
    let in-name : l.i < length name = omega (arith, c.loop-i-test.true, c.if-t-name.false) in
    l.invariant ∙ case_more t name l.i c.loop-i-test.true in-name (sym c.lower_case.ensures ∙ c.if-lower_case-name.false)

pub returns : goal.returns
returns c = sym (c.loop-i.invariant ∙ case_end _ c.args.name.now
    c.loop-i.i c.loop-i-test.false (omega (arith, c.loop-i-test.false, c.if-t-name.false)))
