-- The first pass refuses or gives the size; the second writes that much.
use native.Mathlib.Omega.{arith}
use Prim.Native.Nat.{◌*◌, ◌/◌}
use mathlib.Core.Path.{sym}
use Rattle.std.proofs.lemmas.Result.{err_from_is_err_and}
use lib.ListN.{length, take}
use lib.Seq.{length-take-le}
use Rattle.items.specs.Items.{record_words}
use Rattle.items_files.proofs.Calls.{whole_tens, writes_refused, writes_short, writes_all, measured_bytes}
use Rattle.items_files.proofs.write.Goals as goal

pub slice_bounds-words-end : goal.slice_bounds-words-end
slice_bounds-words-end c =
    sym (length-take-le (length c.args.records.now / record_words * record_words) c.args.records.now (omega arith))

pub measure-requires : goal.measure-requires
measure-requires c = whole_tens c.args.records.now

pub returns-then-out-bytes : goal.returns-then-out-bytes
returns-then-out-bytes c =
    writes_short c.args.records.now c.args.out.now (sym c.in_ok-bytes.ensures) c.if-out-bytes.true

pub put_words-requires : goal.put_words-requires
put_words-requires c =
    let m = measured_bytes (take (length c.args.records.now / record_words * record_words) c.args.records.now)
    (sym c.in_ok-bytes.ensures) in
    (whole_tens c.args.records.now, m.0, omega (arith, m.1, c.if-out-bytes.false))

pub returns-in_err-bytes : goal.returns-in_err-bytes
returns-in_err-bytes c =
    let p = err_from_is_err_and c.from_residual.result c.from_residual.ensures.1 in
    rw (p.1, p.2) (writes_refused c.args.records.now c.args.out.now (sym c.in_err-bytes.ensures))

pub returns : goal.returns
returns c =
    writes_all c.args.records.now c.args.out.now (sym c.in_ok-bytes.ensures) c.if-out-bytes.false c.put_words.ensures
