-- Characters: what each call of crate `chars` ensures is `r ≡` its definition, so that no other answer is permitted.
use Rattle.std.specs.Prelude.{ℕ, ◌≡◌, refl, true, false, List, [], ◌∷◌, map, drop, replicate, None, Some}
use Rattle.std.proofs.Common.{arith}
use Rattle.laws.specs.Quoted.{code, within}
use Rattle.chars.specs.Encode.{is_scalar, utf8, width, encode, bytes_of, spelled, lay, laid}
use Rattle.chars.specs.Blank.{is_blank}
use Rattle.chars.specs.Machine.{start, step}
use Rattle.chars.specs.Utf8.{first, rest, front, placed, sequences, first_bad}
use Rattle.chars.specs.declared.Begun.{Begun}
use Rattle.chars.specs.declared.Step.TheVariants as steps
use Rattle.chars.specs.declared.Decoded.{Decoded}
use Rattle.chars.specs.declared.Decoded.TheVariants as decoded

-- what n bytes of lent memory hold before a call
abbrev room : ℕ → List ℕ
room n = replicate n 7

-- `decode_at`
abbrev decoded_at : List ℕ → ℕ → Decoded
decoded_at s at = placed at (front (drop at s))

-- the byte machine after a first byte: n bytes are to follow, the next of them one of lo..hi
abbrev within_one : ℕ → ℕ → ℕ → ℕ → Begun
within_one n lo hi c = record { need = n; low = lo; high = hi; code = c }

-- `put_char` into n bytes of lent memory: the count that it answers, and the memory after it
abbrev put : ℕ → ℕ → List (List ℕ)
put c n = (laid (encode c) (room n) ∷ []) ∷ lay (encode c) (room n) ∷ []

abbrev puts : ℕ → List ℕ → List (List ℕ)
puts n memory = (n ∷ []) ∷ memory ∷ []

pub record Rows : Type 0 where
  -- decode_at: a character and the place past it; one that the end cuts; a bad one; the end, and past the end
  pub character : decoded_at (spelled "aλ") 1 ≡ decoded.Char (code "λ") 3
  pub cut : decoded_at (0xCE ∷ []) 0 ≡ decoded.Cut
  pub bad : decoded_at (0xCE ∷ 0x28 ∷ []) 0 ≡ decoded.Bad
  pub at_end_case : decoded_at (spelled "a") 1 ≡ decoded.End
  pub past_end : decoded_at (spelled "a") 2 ≡ decoded.End
  -- first_bad
  pub good : first_bad (spelled "abc") ≡ None
  pub overlong : first_bad (0xE0 ∷ 0x80 ∷ 0x80 ∷ []) ≡ Some 0
  pub short : first_bad (code "a" ∷ 0xE2 ∷ 0x82 ∷ []) ≡ Some 1
  -- byte_step: a first byte; A0 after ED, where the surrogates would begin; BF after CE; a state that no text leads to
  pub first_byte : step start 0xED ≡ steps.More (within_one 2 0x80 0x9F 0x0D)
  pub surrogate : step (within_one 2 0x80 0x9F 0x0D) 0xA0 ≡ steps.Bad
  pub last_tail : step (within_one 1 0x80 0xBF 0x0E) 0xBF ≡ steps.Char 0x3BF
  pub no_state : step (within_one 1 0x80 0xBF 0x8000) 0xBF ≡ steps.Bad
  -- put_char: the byte past it stays; just room enough; too little; no character
  pub put_two : put (code "λ") 3 ≡ puts 2 (0xCE ∷ 0xBB ∷ room 1)
  pub put_exact : put (code "λ") 2 ≡ puts 2 (0xCE ∷ 0xBB ∷ [])
  pub put_no_room : put (code "λ") 1 ≡ puts 0 (room 1)
  pub put_surrogate : put 0xD800 4 ≡ puts 0 (room 4)
  -- is_blank: the first and last of each run, and what stands next to them
  pub blanks : map is_blank (0x09 ∷ 0x0D ∷ 0x20 ∷ 0x85 ∷ 0xA0 ∷ 0x1680 ∷ 0x2000 ∷ 0x200A ∷ 0x2028 ∷ 0x2029 ∷ 0x202F ∷ 0x205F ∷ 0x3000 ∷ []) ≡ replicate 13 true
  pub solids : map is_blank (0x08 ∷ 0x0E ∷ 0x1F ∷ 0x86 ∷ 0x200B ∷ 0x202A ∷ 0x2060 ∷ []) ≡ replicate 7 false
  -- char_width: the last of each width, and the first of the next
  pub widths : map width (0x7F ∷ 0x80 ∷ 0x7FF ∷ 0x800 ∷ 0xFFFF ∷ 0x10000 ∷ 0x1FFFF ∷ []) ≡ 1 ∷ 2 ∷ 2 ∷ 3 ∷ 3 ∷ 4 ∷ 4 ∷ []
  -- is_scalar
  pub scalars : map is_scalar (0 ∷ 0xD7FF ∷ 0xE000 ∷ 0x10FFFF ∷ []) ≡ true ∷ true ∷ true ∷ true ∷ []
  pub surrogates : map is_scalar (0xD800 ∷ 0xDFFF ∷ []) ≡ false ∷ false ∷ []
  pub past_all : is_scalar 0x110000 ≡ false

pub rows : Rows
unfolding within is_scalar utf8 width encode bytes_of lay laid is_blank step first rest front sequences first_bad
rows = record {
  character = refl;
  cut = refl;
  bad = refl;
  at_end_case = refl;
  past_end = refl;
  good = refl;
  overlong = refl;
  short = refl;
  first_byte = refl;
  surrogate = refl;
  last_tail = refl;
  no_state = refl;
  put_two = refl;
  put_exact = refl;
  put_no_room = refl;
  put_surrogate = refl;
  blanks = refl;
  solids = refl;
  widths = refl;
  scalars = refl;
  surrogates = refl;
  past_all = refl;
}

-- no program that writes nothing meets the promise of `put_char`
never_unwritten : lay (encode (code "λ")) (room 2) ≡ room 2 → ⊥
unfolding within is_scalar utf8 encode lay
never_unwritten h = let z : ◌≡◌ {A = ℕ} 0xCE 7 = cc in omega (arith, z)
