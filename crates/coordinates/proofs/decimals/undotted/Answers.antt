-- Digits alone are an integer, digits and an exponent a decimal, and anything else is neither.
use Rattle.numbers.proofs.Decimals.{suffix_marked, suffix_bad}
use Rattle.coordinates.proofs.Shapes.{run_inside, not_begun, not_ended, ended, wanted_other, plain_none, plain_bad, plain-told, wanted_whole, wanted_integer, sign_in}
use Rattle.std.proofs.Common.{sym, refl, ◌∙◌, arith}
use Rattle.coordinates.proofs.decimals.undotted.Goals as goal

pub returns-then-start-end : goal.returns-then-start-end
returns-then-start-end c =
    let p = c.requires in
    wanted_other _ _ _ _ p.0 _ (not_begun _ _ _ p.0.2 (sym c.if-start-end.true)) _
    (c.no_coordinate.ensures ∙ plain_none _ _ _ _ p.0 p.1 c.if-start-end.true)

pub returns-then-wholes : goal.returns-then-wholes
returns-then-wholes c =
    let p = c.requires in
    let f = c.if-end-t.true in
    wanted_whole _ _ _ _ p.0 p.1 (ended _ _ _ p.0.2 (λ q. c.if-start-end.false (sym q)) f) f _ c.if-wholes.true _
    c.multiplied.ensures

pub returns-then-end-t : goal.returns-then-end-t
returns-then-end-t c =
    let p = c.requires in
    let f = c.if-end-t.true in
    wanted_integer _ _ _ _ p.0 p.1 (ended _ _ _ p.0.2 (λ q. c.if-start-end.false (sym q)) f) f _ c.if-wholes.false

pub bounds-t-end : goal.bounds-t-end
bounds-t-end c =
    let p = c.requires in
    omega (arith, c.if-end-t.false, run_inside _ _ _ p.0.2 (sign_in _ _ p.0.1))

pub overflow_add-end : goal.overflow_add-end
overflow_add-end c =
    let p = c.requires in
    omega (arith, p.0.5, run_inside _ _ _ p.0.2 (sign_in _ _ p.0.1))

pub returns-then-is_marker : goal.returns-then-is_marker
returns-then-is_marker c =
    let p = c.requires in
    let n = c.if-end-t.false in
    let i = run_inside _ _ _ p.0.2 (sign_in _ _ p.0.1) in
    wanted_other _ _ _ _ p.0 _ (not_ended _ _ _ p.0.2 n) _
    (plain-told _ _ _ _ p.0 p.1 c.if-start-end.false _ refl
    (suffix_marked _ _ _ (omega arith) (sym c.if-is_marker.true ∙ c.is_marker.ensures) refl) _ c.exponent.ensures)

pub returns : goal.returns
returns c =
    let p = c.requires in
    let n = c.if-end-t.false in
    let i = run_inside _ _ _ p.0.2 (sign_in _ _ p.0.1) in
    wanted_other _ _ _ _ p.0 _ (not_ended _ _ _ p.0.2 n) _
    (c.no_coordinate-2.ensures
    ∙ plain_bad _ _ _ _ p.0 p.1 (suffix_bad _ _ (omega arith) (sym c.if-is_marker.false ∙ c.is_marker.ensures)))
