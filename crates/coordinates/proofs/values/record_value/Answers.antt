use Rattle.coordinates.proofs.Wholes.{value_back, value_past, value_number, value_other}
use Rattle.coordinates.proofs.values.record_value.Goals as goal

-- src/values.rt:65:9
pub returns-then-to-from : goal.returns-then-to-from
returns-then-to-from c = value_back _ _ _ _ c.if-to-from.true

-- src/values.rt:68:9
pub returns-then-source-to : goal.returns-then-source-to
returns-then-source-to c = value_past _ _ _ _ c.if-to-from.false c.if-source-to.true

-- src/values.rt:71:9
pub returns-then-kind-eq-NUMBER : goal.returns-then-kind-eq-NUMBER
returns-then-kind-eq-NUMBER c = value_number _ _ _ _ c.if-to-from.false c.if-source-to.false c.if-kind-eq-NUMBER.true _ c.value.ensures

-- src/values.rt:59:1
pub returns : goal.returns
returns c = value_other _ _ _ _ c.if-to-from.false c.if-source-to.false c.if-kind-eq-NUMBER.false _ c.record_coordinate.ensures
