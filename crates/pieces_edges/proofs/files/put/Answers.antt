-- By the test; what is copied lies from the place on.
use Rattle.std.proofs.Common.{le-ltb, lt-ltb}
use Rattle.pieces_cuttings.proofs.Noted.{copied_in}
use Rattle.pieces_edges.proofs.files.put.Goals as goal

pub returns-then-source-at : goal.returns-then-source-at
returns-then-source-at c = (rw (lt-ltb _ _ c.if-source-at.true), rw (lt-ltb _ _ c.if-source-at.true))

pub returns : goal.returns
returns c =
    let a = c.args in
    let fits = c.if-source-at.false in (
      rw (le-ltb _ _ fits) c.wrapping_add_usize.ensures.value,
      rw (le-ltb _ _ fits) (copied_in a.at a.bytes.now a.source.now c.copy.ensures),
    )
