-- UTF-8 as RFC 3629 has it: section 4 says which bytes may stand where, section 3 which bits of a character each of them holds.
use Rattle.std.specs.Prelude.{ℕ, zero, suc, ◌+◌, ◌-◌, ◌*◌, ◌%◌, List, [], ◌∷◌, Bool, if◌then◌else◌, None, Option, Some}
use Rattle.laws.specs.Quoted.{within}
use Rattle.chars.specs.declared.Step.{Step}
use Rattle.chars.specs.declared.Step.TheVariants as step
use Rattle.chars.specs.declared.Decoded.{Decoded}
use Rattle.chars.specs.declared.Decoded.TheVariants as decoded

-- whether b is a character by itself, UTF8-1
abbrev pub ascii : ℕ → Bool
ascii b = within 0x00 0x7F b

-- n bytes follow, the next of them one of lo..hi; the bytes up to here hold the bits c
abbrev pub more : ℕ → ℕ → ℕ → ℕ → Step
more n lo hi c = step.More (record { need = n; low = lo; high = hi; code = c })

-- A character's first byte, a line for each alternative of section 4:
--   UTF8-1 = %x00-7F
--   UTF8-2 = %xC2-DF UTF8-tail
--   UTF8-3 = %xE0 %xA0-BF UTF8-tail / %xE1-EC 2( UTF8-tail ) / %xED %x80-9F UTF8-tail / %xEE-EF 2( UTF8-tail )
--   UTF8-4 = %xF0 %x90-BF 2( UTF8-tail ) / %xF1-F3 3( UTF8-tail ) / %xF4 %x80-8F 2( UTF8-tail )
--   UTF8-tail = %x80-BF
-- Of its bits those count that section 3 writes as x: 110xxxxx, 1110xxxx, 11110xxx. No other byte starts a character.
unfoldable pub first : ℕ → Step
first b =
    if ascii b then step.Char b
    else if within 0xC2 0xDF b then more 1 0x80 0xBF (b - 0xC0)
    else if within 0xE0 0xE0 b then more 2 0xA0 0xBF (b - 0xE0)
    else if within 0xE1 0xEC b then more 2 0x80 0xBF (b - 0xE0)
    else if within 0xED 0xED b then more 2 0x80 0x9F (b - 0xE0)
    else if within 0xEE 0xEF b then more 2 0x80 0xBF (b - 0xE0)
    else if within 0xF0 0xF0 b then more 3 0x90 0xBF (b - 0xF0)
    else if within 0xF1 0xF3 b then more 3 0x80 0xBF (b - 0xF0)
    else if within 0xF4 0xF4 b then more 3 0x80 0x8F (b - 0xF0)
    else step.Bad

-- What stands at the front of a text: a character and the count of its bytes; a bad sequence, with the count of its bytes up to the
-- first after which no valid text can follow; a sequence that the end cuts; nothing.
pub data Front : Type 0 where
  char : ℕ → ℕ → Front
  bad : ℕ → Front
  cut : Front
  none : Front

-- The bytes after the first, k bytes into the character: n of them, the next one of lo..hi and each later one a UTF8-tail. Each brings
-- six bits, 10xxxxxx.
unfoldable pub rest : ℕ → ℕ → ℕ → ℕ → ℕ → List ℕ → Front
rest zero lo hi c k s = char c k
rest (suc n) lo hi c k [] = cut
rest (suc n) lo hi c k (b ∷ s) = if within lo hi b then rest n 0x80 0xBF (c * 64 + b % 64) (k + 1) s else bad (k + 1)

abbrev pub after : Step → List ℕ → Front
after (step.Char c) s = char c 1
after (step.More t) s = rest t.need t.low t.high t.code 1 s
after step.Bad s = bad 1

unfoldable pub front : List ℕ → Front
front [] = none
front (b ∷ s) = after (first b) s

-- what stands at the front of the text from place `at` on, as an answer: a character comes with the place past it
abbrev pub placed : ℕ → Front → Decoded
placed at (char c n) = decoded.Char c (at + n)
placed at (bad n) = decoded.Bad
placed at cut = decoded.Cut
placed at none = decoded.End

-- What a text is cut into: characters, each with its first place and the place past it, up to the end or the first bad sequence; that
-- one with its first place and the place past the byte that shows it; or one that the end cuts, with its first place.
pub data Sequence : Type 0 where
  read : ℕ → ℕ → ℕ → Sequence
  broken : ℕ → ℕ → Sequence
  short : ℕ → Sequence

-- what stands at place `at`, and what follows its character, of whose n bytes n - 1 are still to pass
abbrev pub onward : ℕ → Front → (ℕ → List Sequence) → List Sequence
onward at (char c n) follow = read c at (at + n) ∷ follow (n - 1)
onward at (bad n) follow = broken at (at + n) ∷ []
onward at cut follow = short at ∷ []
onward at none follow = []

-- the sequences of a text from place `at` on, where `skip` bytes of the last character are still to pass
unfoldable pub sequences : ℕ → ℕ → List ℕ → List Sequence
sequences skip at [] = []
sequences (suc k) at (b ∷ s) = sequences k (at + 1) s
sequences zero at (b ∷ s) = onward at (front (b ∷ s)) (λ k. sequences k (at + 1) s)

-- no bad sequence, or the start of the first; one that the end cuts is bad too
abbrev pub verdict : List Sequence → Option ℕ
verdict [] = None
verdict (read c f t ∷ l) = verdict l
verdict (broken f t ∷ l) = Some f
verdict (short f ∷ l) = Some f

-- Refusal 21: "bytes aren't UTF-8", at the "start of the first bad sequence".
unfoldable pub first_bad : List ℕ → Option ℕ
first_bad s = verdict (sequences 0 0 s)

abbrev pub code_points : List Sequence → List ℕ
code_points [] = []
code_points (read c f t ∷ l) = c ∷ code_points l
code_points (broken f t ∷ l) = code_points l
code_points (short f ∷ l) = code_points l

-- the characters of a text, each by its code point, up to its first bad sequence
unfoldable pub chars : List ℕ → List ℕ
chars s = code_points (sequences 0 0 s)
