-- A character past ASCII at the front of a text, told by the table of RFC 3629, section 4, without the byte machine.
use Rattle.std.specs.Prelude.{ℕ, zero, suc, ◌+◌, ◌≤◌, ◌≡◌, List, Bool, false, eqb, drop, if◌then◌else◌}
use Rattle.laws.specs.Quoted.{within}
use Rattle.chars.specs.Blank.{is_blank}
use Rattle.chars.specs.Utf8.{char, front, sequences, verdict}

-- whether x may follow b, the first of three bytes or of four
abbrev pub second3 : ℕ → ℕ → Bool
second3 b x = if eqb b 0xE0 then within 0xA0 0xBF x else if eqb b 0xED then within 0x80 0x9F x else within 0x80 0xBF x

abbrev pub second4 : ℕ → ℕ → Bool
second4 b x = if eqb b 0xF0 then within 0x90 0xBF x else if eqb b 0xF4 then within 0x80 0x8F x else within 0x80 0xBF x

-- a character past ASCII of n bytes stands at the front
pub record PastAscii (l : List ℕ) (n : ℕ) : Type 0 where
  pub letter : ℕ
  pub reads : front l ≡ char letter n
  pub past : 0x80 ≤ letter

-- the same, or 0, which says nothing
abbrev pub Wide : List ℕ → ℕ → Type 0
Wide l zero = Unit {0}
Wide l (suc n) = PastAscii l (suc n)

-- characters past ASCII stand from a place to another, and nothing else
pub data Wides (s : List ℕ) (at : ℕ) : ℕ → Type 0 where
  empty : Wides s at at
  longer : {m n : ℕ} → Wides s at m → PastAscii (drop m s) n → Wides s at (m + n)

-- the character of n bytes at the front is no blank
abbrev pub Solid : List ℕ → ℕ → Type 0
Solid l n = (c : ℕ) → front l ≡ char c n → is_blank c ≡ false

-- from the place `at` on a text is as good as from the place r on
abbrev pub Passed : List ℕ → ℕ → ℕ → Type 0
Passed s at r = (at ≤ r) × (verdict (sequences 0 r (drop r s)) ≡ verdict (sequences 0 at (drop at s)))
