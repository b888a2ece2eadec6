-- What the three memories hold is what is done, written; each turn adds one row, and one part's records and texts; at the end all is done.
use Prim.Native.Nat.{◌*◌}
use native.Mathlib.Omega.{arith}
use Rattle.laws.proofs.Lent.{length_part}
use Rattle.lexer_fields.specs.Fields.{row_words}
use Rattle.lexer_fields.proofs.Cuts.{this_known}
use Rattle.lexer_fields.proofs.Progress.{bounds, short, sums, total}
use Rattle.lexer_fields.proofs.Writing.{writing, writing_on, writing_end, fit, rows_same, recs_same, text_same}
use Rattle.lexer_fields.proofs.whole.write.Goals as goal

pub loop-i-init : goal.loop-i-init
loop-i-init c = writing c.requires.fine c.requires.room

pub slice_bounds-part-count : goal.slice_bounds-part-count
slice_bounds-part-count c = omega (arith, bounds c.loop-i.invariant.at c.loop-i-test.true)

pub slice_bounds-part-start : goal.slice_bounds-part-start
slice_bounds-part-start c = omega (arith, bounds c.loop-i.invariant.at c.loop-i-test.true)

pub slice_bounds-part-end : goal.slice_bounds-part-end
slice_bounds-part-end c = omega (arith, bounds c.loop-i.invariant.at c.loop-i-test.true)

pub offset_bounds-recs-w : goal.offset_bounds-recs-w
offset_bounds-recs-w c =
    omega (arith, fit c.requires.fine c.requires.room c.loop-i.invariant c.loop-i-test.true, recs_same c.requires.fine c.requires.room c.loop-i.invariant)

pub slice_bounds-write_part-count : goal.slice_bounds-write_part-count
slice_bounds-write_part-count c =
    omega (arith, fit c.requires.fine c.requires.room c.loop-i.invariant c.loop-i-test.true)

pub slice_bounds-write_part-start : goal.slice_bounds-write_part-start
slice_bounds-write_part-start c =
    omega (arith, fit c.requires.fine c.requires.room c.loop-i.invariant c.loop-i-test.true)

pub slice_bounds-write_part-end : goal.slice_bounds-write_part-end
slice_bounds-write_part-end c =
    omega (arith, fit c.requires.fine c.requires.room c.loop-i.invariant c.loop-i-test.true)

pub slice_bounds-write_part-count-in-loop-i : goal.slice_bounds-write_part-count-in-loop-i
slice_bounds-write_part-count-in-loop-i c =
    omega (arith, fit c.requires.fine c.requires.room c.loop-i.invariant c.loop-i-test.true)

pub slice_bounds-write_part-start-in-loop-i : goal.slice_bounds-write_part-start-in-loop-i
slice_bounds-write_part-start-in-loop-i c =
    omega (arith, fit c.requires.fine c.requires.room c.loop-i.invariant c.loop-i-test.true)

pub slice_bounds-write_part-end-in-loop-i : goal.slice_bounds-write_part-end-in-loop-i
slice_bounds-write_part-end-in-loop-i c =
    omega (arith, fit c.requires.fine c.requires.room c.loop-i.invariant c.loop-i-test.true)

pub write_part-p-requires : goal.write_part-p-requires
write_part-p-requires c =
    let l = c.loop-i in
    let room = fit c.requires.fine c.requires.room c.loop-i.invariant c.loop-i-test.true in record {
      part_len_bound = (short l.invariant.at c.loop-i-test.true c.requires.fine, this_known l.invariant.at c.loop-i-test.true c.args.parts.known c.requires.all_known);
      part_in_bounds = omega (arith, room.1, length_part l.recs l.w);
      part_in_bounds_2 = omega (arith, room.2, length_part l.text l.free);
    }

pub overflow_mul-i : goal.overflow_mul-i
overflow_mul-i c =
    let room = fit c.requires.fine c.requires.room c.loop-i.invariant c.loop-i-test.true in
    omega (arith, room.0, rows_same c.requires.fine c.requires.room c.loop-i.invariant)

pub offset_bounds-rows-i : goal.offset_bounds-rows-i
offset_bounds-rows-i c =
    let room = fit c.requires.fine c.requires.room c.loop-i.invariant c.loop-i-test.true in
    omega (arith, room.0, rows_same c.requires.fine c.requires.room c.loop-i.invariant)

pub slice_bounds-put_row-count : goal.slice_bounds-put_row-count
slice_bounds-put_row-count c =
    let room = fit c.requires.fine c.requires.room c.loop-i.invariant c.loop-i-test.true in
    omega (arith, room.0)

pub slice_bounds-put_row-start : goal.slice_bounds-put_row-start
slice_bounds-put_row-start c =
    let room = fit c.requires.fine c.requires.room c.loop-i.invariant c.loop-i-test.true in
    omega (arith, room.0)

pub slice_bounds-put_row-end : goal.slice_bounds-put_row-end
slice_bounds-put_row-end c =
    let room = fit c.requires.fine c.requires.room c.loop-i.invariant c.loop-i-test.true in
    omega (arith, room.0)

pub overflow_cast-n : goal.overflow_cast-n
overflow_cast-n c =
    let room = fit c.requires.fine c.requires.room c.loop-i.invariant c.loop-i-test.true in
    omega (arith, room.3)

pub overflow_cast-free : goal.overflow_cast-free
overflow_cast-free c =
    let room = fit c.requires.fine c.requires.room c.loop-i.invariant c.loop-i-test.true in
    omega (arith, room.4)

pub put_row-requires : goal.put_row-requires
put_row-requires c =
    let room = fit c.requires.fine c.requires.room c.loop-i.invariant c.loop-i-test.true in
    omega (arith, room.0, length_part c.loop-i.rows (c.loop-i.i * row_words))

pub overflow_add-n : goal.overflow_add-n
overflow_add-n c =
    omega (arith, sums c.loop-i.invariant.at c.loop-i-test.true c.requires.fine c.write_part-p.result c.write_part-p.ensures.value)

pub overflow_mul-w : goal.overflow_mul-w
overflow_mul-w c =
    omega (arith, sums c.loop-i.invariant.at c.loop-i-test.true c.requires.fine c.write_part-p.result c.write_part-p.ensures.value)

pub overflow_add-free : goal.overflow_add-free
overflow_add-free c =
    omega (arith, sums c.loop-i.invariant.at c.loop-i-test.true c.requires.fine c.write_part-p.result c.write_part-p.ensures.value)

pub loop-i-preserved : goal.loop-i-preserved
loop-i-preserved c =
    writing_on c.requires.fine c.requires.room c.loop-i.invariant c.loop-i-test.true c.write_part-p.result
    c.write_part-p.ensures.value c.write_part-p.ensures.recs_after c.write_part-p.ensures.text_after c.put_row.ensures

pub shape_of-rows : goal.shape_of-rows
shape_of-rows c = rows_same c.requires.fine c.requires.room c.loop-i.invariant

pub shape_of-recs : goal.shape_of-recs
shape_of-recs c = recs_same c.requires.fine c.requires.room c.loop-i.invariant

pub shape_of-text : goal.shape_of-text
shape_of-text c = text_same c.requires.fine c.requires.room c.loop-i.invariant

pub returns : goal.returns
returns c =
    let all = writing_end c.requires.fine c.requires.room c.loop-i.invariant c.loop-i-test.false in record {
      value = total c.loop-i.invariant.at c.loop-i-test.false;
      rows_after = all.0;
      recs_after = all.1;
      text_after = all.2;
    }
