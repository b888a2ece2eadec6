-- Each arm is a clause of `given`.
use Rattle.numbers.specs.Call.{given}
use mathlib.Core.Path.{sym, ap}
use Rattle.numbers.proofs.serve.Goals as goal

pub returns-in-Ok : goal.returns-in-Ok
returns-in-Ok c = sym (ap given c.in-Ok.is)
