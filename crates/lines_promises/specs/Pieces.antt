-- The index from pieces, by value and on words: `piece` ensures `fed r index' ≡ piece_of state bytes index`, `end` `told_of r ≡ end_of state
-- length`; on words `contents words' index' ≡ piece_left words bytes index` and `told_of r ≡ end_for words length`.
use Rattle.std.specs.Prelude.{ℕ, ◌≡◌, refl, List, [], ◌∷◌, ◌++◌}
use Rattle.laws.specs.Quoted.{within}
use Rattle.chars.specs.Utf8.{first}
use Rattle.chars.specs.Machine.{step, start}
use Rattle.chars.specs.Encode.{utf8, bytes_of, spelled}
use Rattle.chars.specs.declared.Begun.{Begun}
use Rattle.lines.specs.Starts.{newline, Served, Refused}
use Rattle.lines.specs.Pieces.{fed, open_of, step_of, fed_of, piece_of, end_of, pieces}
use Rattle.lines.specs.Words.{is_a_state, contents, open_left, piece_left, end_for, calls}

abbrev pub room : List ℕ
room = 9 ∷ 9 ∷ 9 ∷ 9 ∷ []

-- `a`, a newline, λ cut after its first byte, a newline
abbrev pub parts : List (List ℕ)
parts = (spelled "a" ++ newline ∷ 0xCE ∷ []) ∷ (0xBB ∷ newline ∷ []) ∷ []

-- the same with a sequence after the first newline that the second one breaks off: the byte that shows it is not the sequence's first
abbrev broken : List (List ℕ)
broken = (spelled "a" ++ newline ∷ 0xE2 ∷ []) ∷ (newline ∷ []) ∷ []

-- what E2 begins: two bytes from 80 to BF are still to come
abbrev begun_at2 : Begun
begun_at2 = record { need = 2; low = 0x80; high = 0xBF; code = 2 }

-- the starts in the memory, the places counted on from piece to piece
pub fed-all : pieces (open_of room) parts ≡ fed (record { begun = start; from = 5; at = 5; lines = 2; stop = 0 }) (0 ∷ 2 ∷ 5 ∷ 9 ∷ [])
unfolding within first step utf8 bytes_of step_of fed_of piece_of
fed-all = refl

ended : end_of (record { begun = start; from = 5; at = 5; lines = 2; stop = 0 }) 4 ≡ Served 3
unfolding end_of
ended = refl

-- no piece is refused: the bad byte is told at the end, with the start of its sequence, and no start after it is noted
fed_bad : pieces (open_of room) broken ≡ fed (record { begun = begun_at2; from = 2; at = 4; lines = 1; stop = 21 }) (0 ∷ 2 ∷ 9 ∷ 9 ∷ [])
unfolding within first step utf8 bytes_of step_of fed_of piece_of
fed_bad = refl

ended_bad : end_of (record { begun = begun_at2; from = 2; at = 4; lines = 1; stop = 21 }) 4 ≡ Refused 21 2
unfolding end_of
ended_bad = refl

-- memory for one start: as many as fit are noted, no piece is refused, and the end says how many there are
fed_short : pieces (open_of (9 ∷ [])) parts ≡ fed (record { begun = start; from = 5; at = 5; lines = 2; stop = 0 }) (0 ∷ [])
unfolding within first step utf8 bytes_of step_of fed_of piece_of
fed_short = refl

ended_short : end_of (record { begun = start; from = 5; at = 5; lines = 2; stop = 0 }) 1 ≡ Refused 33 3
unfolding end_of
ended_short = refl

-- a state with more newline bytes than bytes is forged
forged : end_of (record { begun = start; from = 0; at = 0; lines = 1; stop = 0 }) 4 ≡ Refused 27 0
unfolding end_of
forged = refl

-- at the limit a byte more is one too many, also where a bad one came before; then it stands
one_too_many : step_of (record { begun = start; from = 2; at = 4294967295; lines = 1; stop = 21 }) 97
    ≡ record { begun = start; from = 2; at = 4294967295; lines = 1; stop = 20 }
unfolding step_of
one_too_many = refl

-- on words: the state is written where it lies
on_words : calls (open_left (7 ∷ 7 ∷ 7 ∷ 7 ∷ 7 ∷ 7 ∷ 7 ∷ 7 ∷ []) room) parts
    ≡ contents (0 ∷ 0 ∷ 0 ∷ 0 ∷ 5 ∷ 5 ∷ 2 ∷ 0 ∷ []) (0 ∷ 2 ∷ 5 ∷ 9 ∷ [])
unfolding within first step utf8 bytes_of step_of fed_of piece_of is_a_state open_left piece_left
on_words = refl

-- seven words are no state: all stays, and the end says so
seven_words : calls (open_left (7 ∷ 7 ∷ 7 ∷ 7 ∷ 7 ∷ 7 ∷ 7 ∷ []) room) parts ≡ contents (7 ∷ 7 ∷ 7 ∷ 7 ∷ 7 ∷ 7 ∷ 7 ∷ []) room
unfolding is_a_state open_left piece_left
seven_words = refl

seven_ended : end_for (7 ∷ 7 ∷ 7 ∷ 7 ∷ 7 ∷ 7 ∷ 7 ∷ []) 4 ≡ Refused 27 0
unfolding is_a_state end_for
seven_ended = refl
