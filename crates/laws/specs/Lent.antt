-- Lent memory that is written from its start on: w, and what was there past it.
use Rattle.std.specs.Prelude.{List, ◌++◌, ℕ, length, drop}

abbrev pub written : List ℕ → List ℕ → List ℕ
written w old = w ++ drop (length w) old
