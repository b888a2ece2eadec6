-- The digits after the dot go on from those before it, so that one value counts all; what follows them decides as the suffix does.
use Rattle.numbers.specs.declared.Suffix.TheVariants.{Empty, Bad}
use Rattle.numbers.proofs.Decimals.{suffix_past, suffix_marked, suffix_bad}
use Rattle.coordinates.specs.Inner.{suffixed}
use Rattle.coordinates.proofs.Shapes.{dot_in, all_in, all_before, dot_none, dot_told}
use Rattle.coordinates.proofs.Counted.{held_on}
use Rattle.std.proofs.Common.{sym, refl, ◌∙◌, le_of_eq, arith}
use Rattle.coordinates.proofs.decimals.dotted.Goals as goal

pub overflow_add-from : goal.overflow_add-from
overflow_add-from c = let p = c.requires in omega (arith, dot_in _ _ _ _ p.0 p.1, p.0.5)

pub run-all-requires : goal.run-all-requires
run-all-requires c = held_on _ _ c.requires.0.4

pub overflow_add-start : goal.overflow_add-start
overflow_add-start c = let p = c.requires in omega (arith, dot_in _ _ _ _ p.0 p.1, p.0.2, p.0.5)

pub returns-then-start-all : goal.returns-then-start-all
returns-then-start-all c =
    let p = c.requires in
    c.no_coordinate.ensures ∙ dot_none _ _ _ _ p.0 p.1 _ c.run-all.ensures.0 c.if-start-all.true

pub overflow_sub-f : goal.overflow_sub-f
overflow_sub-f c = omega (arith, c.run-all.ensures.0)

pub returns-then-end-t : goal.returns-then-end-t
unfolding suffixed
returns-then-end-t c =
    let p = c.requires in
    let told = c.run-all.ensures in
    dot_told _ _ _ _ p.0 p.1 _ told.0 c.if-start-all.false _ told.1 Empty
    (suffix_past _ _ (le_of_eq (sym c.if-end-t.true))) _ c.divided.ensures

pub bounds-t-end : goal.bounds-t-end
bounds-t-end c =
    let p = c.requires in
    all_before _ _ _ _ p.0 p.1 _ c.run-all.ensures.0 c.if-end-t.false

pub overflow_add-end : goal.overflow_add-end
overflow_add-end c =
    let p = c.requires in
    omega (arith, p.0.5, all_in _ _ _ _ p.0 p.1 _ c.run-all.ensures.0)

pub exponent-requires : goal.exponent-requires
exponent-requires c =
    let p = c.requires in
    omega (arith, p.0.5, all_in _ _ _ _ p.0 p.1 _ c.run-all.ensures.0)

pub returns-then-is_marker : goal.returns-then-is_marker
returns-then-is_marker c =
    let p = c.requires in
    let told = c.run-all.ensures in
    let i = all_before _ _ _ _ p.0 p.1 _ told.0 c.if-end-t.false in
    dot_told _ _ _ _ p.0 p.1 _ told.0 c.if-start-all.false _ told.1 _
    (suffix_marked _ _ _ i (sym c.if-is_marker.true ∙ c.is_marker.ensures) refl) _ c.exponent.ensures

pub returns : goal.returns
unfolding suffixed
returns c =
    let p = c.requires in
    let told = c.run-all.ensures in
    let i = all_before _ _ _ _ p.0 p.1 _ told.0 c.if-end-t.false in
    dot_told _ _ _ _ p.0 p.1 _ told.0 c.if-start-all.false _ told.1 Bad
    (suffix_bad _ _ i (sym c.if-is_marker.false ∙ c.is_marker.ensures)) _ c.no_coordinate-2.ensures
