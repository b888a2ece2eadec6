-- Every place lies within the lent bytes, and the name is the part at its place.
use native.Mathlib.Omega.{arith}
use mathlib.Core.Path.{ap}
use Rattle.names.specs.Layout.{name_at, cut}
use Rattle.names.specs.declared.Place.{Place}
use Rattle.names.proofs.Laws.{place_within}
use Rattle.names.proofs.layout.name_at.Goals as goal

pub slice_bounds-result-count : goal.slice_bounds-result-count
slice_bounds-result-count c =
    rw c.place_at-place.ensures (let q = place_within c.args.words.now c.args.party c.args.k c.requires.readable.party in
    let f = q.forth in let s = q.short in omega (arith, c.requires.readable.bytes))

pub slice_bounds-result-start : goal.slice_bounds-result-start
slice_bounds-result-start c =
    rw c.place_at-place.ensures (let q = place_within c.args.words.now c.args.party c.args.k c.requires.readable.party in
    let f = q.forth in let s = q.short in omega (arith, c.requires.readable.bytes))

pub slice_bounds-result-end : goal.slice_bounds-result-end
slice_bounds-result-end c =
    rw c.place_at-place.ensures (let q = place_within c.args.words.now c.args.party c.args.k c.requires.readable.party in
    let f = q.forth in let s = q.short in omega (arith, c.requires.readable.bytes))

pub returns : goal.returns
unfolding name_at
returns c = ap (λ (q : Place). cut q c.args.bytes.now) c.place_at-place.ensures
