-- The answer is taken apart case by case; the memory is what the call left.
use borrow.Author.Rules.{rules}
use Rattle.names_exports.proofs.Marked.{as_number, as_refused}
use Rattle.names_exports.proofs.mihadrena_names_enter.Goals as goal

pub returns-in-Ok : goal.returns-in-Ok
returns-in-Ok c = search (rules, as_number)

pub returns-in-Err : goal.returns-in-Err
returns-in-Err c = search (rules, as_refused)
