-- The first pass refuses or gives the words; the second writes them.
use Rattle.std.proofs.lemmas.Result.{err_from_is_err_and}
use Rattle.items_files.proofs.Calls.{reads_refused, reads_sound, reads_fit, reads_short, reads_all}
use Rattle.items_files.proofs.read.Goals as goal

pub returns-in_err-words : goal.returns-in_err-words
returns-in_err-words c =
    let p = err_from_is_err_and c.from_residual.result c.from_residual.ensures.1 in
    rw (p.1, p.2) (reads_refused c.args.file.now c.args.records.now _ c.in_err-words.ensures)

pub returns-then-records-items : goal.returns-then-records-items
returns-then-records-items c =
    reads_short c.args.file.now c.args.records.now c.in_ok-words.ensures c.if-records-items.true

pub fill-requires : goal.fill-requires
fill-requires c = (
  reads_sound c.args.file.now c.args.records.now c.in_ok-words.ensures,
  reads_fit c.args.file.now c.args.records.now c.in_ok-words.ensures
      (λ i. (c.shared_slice_known-1.given i).fits) c.if-records-items.false,
)

pub returns : goal.returns
returns c =
    reads_all c.args.file.now c.args.records.now c.in_ok-words.ensures c.if-records-items.false c.fill.ensures
