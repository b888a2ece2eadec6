-- The place lies within the lent bytes whatever the memory is, and the name is the part there.
use native.Mathlib.Omega.{arith}
use mathlib.Core.Path.{ap}
use Rattle.names.specs.Layout.{cut}
use Rattle.names.specs.Call.{name_of}
use Rattle.names.specs.declared.Place.{Place}
use Rattle.names.proofs.Laws.{place_inside}
use Rattle.names.proofs.naming.name_of.Goals as goal

pub slice_bounds-result-count : goal.slice_bounds-result-count
slice_bounds-result-count c =
    rw c.place_of-place.ensures (let q = place_inside c.args.words.now c.args.bytes.now c.args.number in
    let f = q.forth in let s = q.short in omega arith)

pub slice_bounds-result-start : goal.slice_bounds-result-start
slice_bounds-result-start c =
    rw c.place_of-place.ensures (let q = place_inside c.args.words.now c.args.bytes.now c.args.number in
    let f = q.forth in let s = q.short in omega arith)

pub slice_bounds-result-end : goal.slice_bounds-result-end
slice_bounds-result-end c =
    rw c.place_of-place.ensures (let q = place_inside c.args.words.now c.args.bytes.now c.args.number in
    let f = q.forth in let s = q.short in omega arith)

pub returns : goal.returns
unfolding name_of
returns c = ap (λ (q : Place). cut q c.args.bytes.now) c.place_of-place.ensures
