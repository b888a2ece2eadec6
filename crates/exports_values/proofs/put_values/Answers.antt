-- Two stores from the front on, where there is room for both.
use mathlib.Core.List.{[], ◌∷◌}
use Rattle.chars.proofs.Lay.{lay_room, lay_full}
use Rattle.exports_values.proofs.put_values.Goals as goal

pub returns-then-values-lt-VALUES : goal.returns-then-values-lt-VALUES
returns-then-values-lt-VALUES c = (lay_full _ _ c.if-values-lt-VALUES.true).1

pub returns : goal.returns
returns c = (lay_room (c.args.first ∷ c.args.second ∷ []) _ c.if-values-lt-VALUES.false).1
