-- Words of a state within its bounds that reads on.
use Rattle.std.specs.Prelude.{ℕ, ◌≡◌, true, List}
use Rattle.pieces_turns.specs.Inner.{Sound}
use Rattle.pieces_lent.specs.declared.Words.{Words}
use Rattle.pieces_lent.specs.Coding.{standing, is_code}

pub record Stood (w : Words) (buf text : List ℕ) : Type 0 where
  pub code : is_code w ≡ true
  pub sound : Sound (standing w) buf text
