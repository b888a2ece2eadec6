-- A state as the words that a caller lends, and what the calls leave there.
use Rattle.std.specs.Prelude.{ℕ, Bool, ◌&&◌, List, [], ◌∷◌, eqb, leb, length, get_or, set, if◌then◌else◌}
use Rattle.laws.specs.Lent.{written}
use Rattle.refusal.specs.Refusals.{out_of_bounds}
use Rattle.lines.specs.Starts.{Told, Refused}
use Rattle.lines.specs.Pieces.{Fed, fresh, piece_of, end_of}
use Rattle.lines.specs.declared.LineState.{LineState}

-- how many words a state has
abbrev pub state_words : ℕ
state_words = 8

-- the words of a state, in the order of its fields
abbrev pub listed : LineState → List ℕ
listed t = t.begun.need ∷ t.begun.low ∷ t.begun.high ∷ t.begun.code ∷ t.from ∷ t.at ∷ t.lines ∷ t.stop ∷ []

-- the state that words stand for
abbrev pub state_in : List ℕ → LineState
state_in w = record {
  begun = record { need = get_or w 0 0; low = get_or w 1 0; high = get_or w 2 0; code = get_or w 3 0 };
  from = get_or w 4 0;
  at = get_or w 5 0;
  lines = get_or w 6 0;
  stop = get_or w 7 0;
}

abbrev pub is_byte : ℕ → Bool
is_byte n = leb n 255

-- as many words as a state has, and the first three within a byte, as a character begun has them
unfoldable pub is_a_state : List ℕ → Bool
is_a_state w = eqb (length w) state_words && (is_byte (get_or w 0 0) && (is_byte (get_or w 1 0) && is_byte (get_or w 2 0)))

-- what the words and the memory hold after a call
pub record Contents : Type 0 where
  pub words : List ℕ
  pub memory : List ℕ

abbrev pub contents : List ℕ → List ℕ → Contents
contents w m = record { words = w; memory = m }

-- the words of the state that a call by value leaves, written over those that were there
abbrev pub kept : Fed → List ℕ → Contents
kept f w = contents (written (listed f.state) w) f.memory

unfoldable pub open_left : List ℕ → List ℕ → Contents
open_left w m = if eqb (length w) state_words then contents (written (listed fresh) w) (set m 0 0) else contents w m

unfoldable pub piece_left : List ℕ → List ℕ → List ℕ → Contents
piece_left w s m = if is_a_state w then kept (piece_of (state_in w) s m) w else contents w m

-- 27 where the words are no state's, else what the end by value answers
unfoldable pub end_for : List ℕ → ℕ → Told
end_for w n = if is_a_state w then end_of (state_in w) n else Refused out_of_bounds 0

-- piece calls one after the other
abbrev pub calls : Contents → List (List ℕ) → Contents
calls f [] = f
calls f (p ∷ ps) = calls (piece_left f.words p f.memory) ps
