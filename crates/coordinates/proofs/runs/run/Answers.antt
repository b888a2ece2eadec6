-- In a short text the run is exact; it counts as itself, and its value is below ten to its length.
use Rattle.coordinates.specs.Inner.{capped}
use Rattle.coordinates.proofs.Counted.{short_held}
use Rattle.std.proofs.Common.{ap}
use Rattle.coordinates.proofs.runs.run.Goals as goal

pub short_run-requires : goal.short_run-requires
short_run-requires c = (c.if-t-gt-SHORT.false, c.requires.1)

pub returns : goal.returns
returns c =
    let told = c.short_run.ensures in (
      told.0,
      ap capped told.1,
      short_held _ _ _ _ _ c.if-t-gt-SHORT.false c.requires told.0 told.1
          told.2,
    )
