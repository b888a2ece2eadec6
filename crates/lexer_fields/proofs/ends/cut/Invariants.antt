use Prim.Native.Nat.{◌≤◌}
use mathlib.Core.Path.{◌≡◌}
use mathlib.Core.Bool.{false}
use lib.ListN.{length, drop}
use Rattle.std.specs.Prelude.{if◌then◌else◌}
use Rattle.lexer_fields.specs.Fields.{is_in_order}
use Rattle.lexer_fields.specs.Answers.{between}
use Rattle.lexer_fields.proofs.ends.cut.Given as goal

abbrev pub invariant-loop-place : goal.invariant-loop-place
invariant-loop-place l =
    (l.place-index ≤ length l.ends) × (is_in_order l.n l.from (drop l.place-index l.ends) ≡ is_in_order l.n 0 l.ends) × ((if l.inside then false else between l.source (drop l.place-index l.ends)) ≡ between l.source l.ends)
