-- A run of n bytes has room (laws, Blocks).
use borrow.Author.Tests.{leb-false}
use mathlib.Core.Path.{sym, ◌∙◌}
use Prim.Native.Nat.{◌+◌}
use lib.ListN.{length}
use Rattle.laws.proofs.Blocks.{block_short}
use Rattle.byte_runs.proofs.runs.starts_run.Goals as goal

pub returns-else-has_room : goal.returns-else-has_room
returns-else-has_room g c =
    let a = c.args in
    c.if-has_room.false
    ∙ sym (block_short (g.C.ByteClass.passes a.class) a.t.now a.at a.n (leb-false (a.at + a.n) (length a.t.now) (sym c.has_room.ensures ∙ c.if-has_room.false)) c.requires)
