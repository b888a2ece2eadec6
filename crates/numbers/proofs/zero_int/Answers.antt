-- A Small is zero if its 64 bits are; a Big never is.
use Rattle.numbers.proofs.Judged.{zero_big, zero_small}
use mathlib.Core.Path.{◌≡◌}
use mir.Syntax.{w64}
use mir.Val.{to_z, of_z}
use borrow.Author.Rules.{rules}
use Rattle.numbers.proofs.zero_int.Goals as goal

pub returns-in-Small : goal.returns-in-Small
returns-in-Small c =
    let f : to_z w64 (of_z w64 c.in-Small.v) ≡ c.in-Small.v = search rules in
    zero_small _ _ c.in-Small.is f

pub returns-in-Big : goal.returns-in-Big
returns-in-Big c = zero_big _ _ _ c.in-Big.is
