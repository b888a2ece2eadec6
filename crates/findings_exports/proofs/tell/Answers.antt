-- Each arm tells the number and the values that `number_in` and `values_in` name for its case.
use Rattle.findings_exports.proofs.Told.{answer_told}
use Rattle.findings_exports.proofs.tell.Goals as goal

pub returns-in-Ok : goal.returns-in-Ok
returns-in-Ok c = answer_told _ c.in-Ok.is c.put_values.ensures

pub returns-in-Err : goal.returns-in-Err
returns-in-Err c = answer_told _ c.in-Err.is c.put_values-in-Err.ensures
