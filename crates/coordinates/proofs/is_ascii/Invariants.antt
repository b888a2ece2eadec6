use Rattle.laws.specs.Texts.{span}
use Rattle.chars.specs.Utf8.{ascii}
use Rattle.std.proofs.Common.{◌≡◌, ◌+◌, drop}
use Rattle.coordinates.proofs.is_ascii.Given as goal

abbrev pub invariant-loop-c : goal.invariant-loop-c
invariant-loop-c l = span ascii l.t ≡ l.c-index + span ascii (drop l.c-index l.t)
