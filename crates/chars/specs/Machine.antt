-- The byte machine: UTF-8 one byte at a time, for a text that comes in pieces. proofs/Run.antt shows that it reads what Utf8's table says.
use Rattle.std.specs.Prelude.{ℕ, ◌+◌, ◌-◌, ◌*◌, ◌%◌, List, [], ◌∷◌, ◌++◌, ◌&&◌, leb, eqb, if◌then◌else◌}
use Rattle.chars.specs.declared.Begun.{Begun}
use Rattle.chars.specs.declared.Step.{Step}
use Rattle.chars.specs.declared.Step.TheVariants as steps
use Rattle.chars.specs.declared.Decoded.{Decoded}
use Rattle.chars.specs.declared.Decoded.TheVariants as decoded
use Rattle.laws.specs.Quoted.{within}
use Rattle.chars.specs.Utf8.{more, first, Sequence, read, broken, short}

-- One byte more. Between two characters it is a first byte. Within one it is bad out of its range; else its six bits join the code,
-- which is whole at the last byte. A state may be any, so the step says also what no text leads to: bytes still to come after a code
-- past 7FFF, more bits than any character has, are bad.
unfoldable pub step : Begun → ℕ → Step
step t b =
    if eqb t.need 0 then first b
    else if within t.low t.high b && leb t.code 0x7FFF then
    (if eqb t.need 1 then steps.Char (t.code * 64 + b % 64) else more (t.need - 1) 0x80 0xBF (t.code * 64 + b % 64))
    else steps.Bad

-- between two characters
abbrev pub start : Begun
start = record { need = 0; low = 0; high = 0; code = 0 }

-- by what a byte did: more is wanted, a character is whole, or it is bad
abbrev pub told : {A : Type 0} → Step → (Begun → A) → (ℕ → A) → A → A
told (steps.More u) more char bad = more u
told (steps.Char c) more char bad = char c
told steps.Bad more char bad = bad

-- the bytes from place `at` on, up to the end of the character that the machine is in
unfoldable pub reads : Begun → ℕ → List ℕ → Decoded
reads t at [] = decoded.Cut
reads t at (b ∷ s) = told (step t b) (λ u. reads u (at + 1) s) (λ c. decoded.Char c (at + 1)) decoded.Bad

-- what the machine gives over a whole text from place `at` on, where the character that it is in starts at f
unfoldable pub run : Begun → ℕ → ℕ → List ℕ → List Sequence
run t f at [] = if eqb t.need 0 then [] else short f ∷ []
run t f at (b ∷ s) =
    told (step t b) (λ u. run u f (at + 1) s) (λ c. read c f (at + 1) ∷ run start (at + 1) (at + 1) s) (broken f (at + 1) ∷ [])

-- What a piece of a text leaves: the characters that ended in it, and the machine with the start of the character that it is in; or
-- the sequences up to the bad one.
pub data Fed : Type 0 where
  going : List Sequence → Begun → ℕ → Fed
  stopped : List Sequence → Fed

abbrev pub along : Sequence → Fed → Fed
along i (going l u g) = going (i ∷ l) u g
along i (stopped l) = stopped (i ∷ l)

unfoldable pub feed : Begun → ℕ → ℕ → List ℕ → Fed
feed t f at [] = going [] t f
feed t f at (b ∷ s) =
    told (step t b) (λ u. feed u f (at + 1) s) (λ c. along (read c f (at + 1)) (feed start (at + 1) (at + 1) s)) (stopped (broken f (at + 1) ∷ []))

-- what a piece gave, and what follows it
abbrev pub continued : Fed → (Begun → ℕ → List Sequence) → List Sequence
continued (going l u g) follow = l ++ follow u g
continued (stopped l) follow = l
