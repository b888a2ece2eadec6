-- What a call answers where the state is lent, with the state that it left: 01's numbers and values by `what_of`, as of the calls by value.
use Rattle.std.specs.Prelude.{List, ℕ}
use Rattle.pieces.specs.declared.State.{State}
use Rattle.pieces.specs.Calls.{Reply, reply}
use Rattle.pieces_calls.specs.Answers.{what_of}
use Rattle.pieces_lent.specs.declared.Taken.{Taken}

abbrev pub kept : Taken → State → List ℕ → Reply
kept t s text = reply t.taken (what_of t.got text) s
