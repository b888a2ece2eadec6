-- Answers about characters as plain numbers, which is all that C passes on.
use Rattle.std.specs.Prelude.{ℕ, None, Option, Some}
use Rattle.chars.specs.declared.Decoded.{Decoded}
use Rattle.chars.specs.declared.Decoded.TheVariants as decoded

-- Where a text of n bytes stops being UTF-8: the start of its first bad sequence, or n. A sequence starts before the end, so the two
-- are never the same.
abbrev pub good_bytes : ℕ → Option ℕ → ℕ
good_bytes n None = n
good_bytes n (Some at) = at

-- What stands at a place: a character's code point, or one of three numbers past all code points.
abbrev pub code_or : Decoded → ℕ
code_or (decoded.Char code next) = code
code_or decoded.Bad = 0x110000
code_or decoded.Cut = 0x110001
code_or decoded.End = 0x110002

-- the place past what stands at place `at`: past the character, or `at` itself where there is none
abbrev pub next_or : ℕ → Decoded → ℕ
next_or at (decoded.Char code next) = next
next_or at decoded.Bad = at
next_or at decoded.Cut = at
next_or at decoded.End = at
