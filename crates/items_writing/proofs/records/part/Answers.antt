-- A part that is whole characters is there.
use native.Mathlib.Omega.{arith}
use Rattle.items_writing.proofs.RightRecords.{whole_is}
use Rattle.items_writing.proofs.records.part.Goals as goal

pub slice_bounds-result-count : goal.slice_bounds-result-count
slice_bounds-result-count c = let w = whole_is c.args.s.now c.args.a c.args.b c.requires in omega arith

pub slice_bounds-result-start : goal.slice_bounds-result-start
slice_bounds-result-start c = let w = whole_is c.args.s.now c.args.a c.args.b c.requires in omega arith

pub slice_bounds-result-end : goal.slice_bounds-result-end
slice_bounds-result-end c = let w = whole_is c.args.s.now c.args.a c.args.b c.requires in omega arith
