-- The extent is a part of the source where it neither goes back nor passes it; a Number record has the coordinate of that part, and any
-- other has none.
use Rattle.coordinates.proofs.Calls.{record_back, record_past, record_number, record_other}
use Rattle.coordinates.proofs.record_coordinate.Goals as goal

pub returns-then-to-from : goal.returns-then-to-from
returns-then-to-from c = record_back _ _ _ _ c.if-to-from.true

pub returns-then-source-to : goal.returns-then-source-to
returns-then-source-to c = record_past _ _ _ _ c.if-to-from.false c.if-source-to.true

pub returns-then-kind-eq-NUMBER : goal.returns-then-kind-eq-NUMBER
returns-then-kind-eq-NUMBER c =
    record_number _ _ _ _ c.if-to-from.false c.if-source-to.false c.if-kind-eq-NUMBER.true _
    c.coordinate.ensures

pub returns : goal.returns
returns c =
    record_other _ _ _ _ c.if-to-from.false c.if-source-to.false c.if-kind-eq-NUMBER.false _
    c.no_coordinate.ensures
