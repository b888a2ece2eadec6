-- One store at the front, where there is room.
use mathlib.Core.List.{[], ◌∷◌}
use Rattle.chars.proofs.Lay.{lay_room, lay_full}
use Rattle.exports_values.proofs.put_value.Goals as goal

pub returns-then-values-lt-ONE_VALUE : goal.returns-then-values-lt-ONE_VALUE
returns-then-values-lt-ONE_VALUE c = (lay_full _ _ c.if-values-lt-ONE_VALUE.true).1

pub returns : goal.returns
returns c = (lay_room (c.args.value ∷ []) _ c.if-values-lt-ONE_VALUE.false).1
