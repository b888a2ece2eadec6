-- The place past what fails is no place past the extent.
use native.Mathlib.Omega.{arith}
use mathlib.Core.Path.{ap}
use Prim.Native.Nat.{◌+◌}
use lib.ListN.{length, length-drop}
use Rattle.items.proofs.Failing.{past_within}
use Rattle.meaning.proofs.places.failing_at.Goals as goal

pub overflow_cast-result-2 : goal.overflow_cast-result-2
overflow_cast-result-2 c =
    omega (
      arith,
      c.past_failing-past.ensures,
      (past_within c.args.detail (c.args.start + 2 + c.args.at) c.rest-2.result.now).1,
      ap length c.rest-2.ensures,
      length-drop c.args.at c.rest.result.now,
      ap length c.rest.ensures,
      length-drop 2 c.args.raw.now,
      c.requires.0,
      c.requires.1,
    )

pub returns : goal.returns
returns c = simp (c.past_failing-past.ensures, c.rest-2.ensures, c.rest.ensures)
