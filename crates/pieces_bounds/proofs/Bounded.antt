-- What the tests of the bounds tell.
use Prim.Native.Nat.{◌+◌, ◌≤◌, ◌<◌}
use mathlib.Core.Path.{◌≡◌}
use mathlib.Core.Bool.{Bool, true, ◌&&◌}
use lib.Dec.{leb}
use borrow.Author.Tests.{leb-true, ltb-true}
use Rattle.laws.proofs.Choice.{and_true}
use Rattle.items.specs.Whole.{limit, is_mode}
use Rattle.pieces.specs.declared.Marks.{Marks}
use Rattle.pieces.specs.Expected.{longest}
use Rattle.pieces.specs.Bounds.{is_place, number_bounds}

pub record Numbers (m : Marks) : Type 0 where
  pub mode : m.mode < 2
  pub far : m.at + m.part.count ≤ limit
  pub small : m.len ≤ longest
  pub from : m.from ≤ limit
  pub to : m.to ≤ limit
  pub deep : m.depth + m.len ≤ m.at

pub numbers : (m : Marks) → number_bounds m ≡ true → Numbers m
numbers m e =
    let a : Bool = is_mode m.mode in
    let b : Bool = is_place (m.at + m.part.count) in
    let l : Bool = leb m.len longest in
    let f : Bool = is_place m.from in
    let t : Bool = is_place m.to in
    let d : Bool = leb (m.depth + m.len) m.at in
    let e6 = and_true (a && b && l && f && t) d e in
    let e5 = and_true (a && b && l && f) t e6.0 in
    let e4 = and_true (a && b && l) f e5.0 in
    let e3 = and_true (a && b) l e4.0 in
    let e2 = and_true a b e3.0 in
    record {
      mode = ltb-true m.mode 2 e2.0;
      far = leb-true (m.at + m.part.count) limit e2.1;
      small = leb-true m.len longest e3.1;
      from = leb-true m.from limit e4.1;
      to = leb-true m.to limit e5.1;
      deep = leb-true (m.depth + m.len) m.at e6.1;
    }
