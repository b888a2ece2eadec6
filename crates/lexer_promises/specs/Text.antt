-- The text call: `text_of` ensures `now r ≡ text_in source text k from to`, `text_mark` `r ≡ text_mark ..`, `text_and_mark` both.
use Rattle.std.specs.Prelude.{ℕ, ◌≡◌, refl, List, []}
use Rattle.std.proofs.Common.{sym, ◌∙◌, arith}
use Rattle.chars.specs.Encode.{utf8, bytes_of, spelled}
use Rattle.lexer.specs.Text.{text_in, text_mark}

-- the part, and the mark beside it: `text_and_mark` gives both
pub record Given : Type 0 where
  pub part : List ℕ
  pub mark : ℕ

abbrev pub given : List ℕ → ℕ → Given
given t m = record { part = t; mark = m }

-- by the last three words of a record: the text source, the first place and the place past it
abbrev pub text : ℕ → ℕ → ℕ → Given
text k from to = given (text_in (spelled "abc") (spelled "xy") k from to) (text_mark (spelled "abc") (spelled "xy") k from to)

pub record Rows : Type 0 where
  pub in_source : text 1 1 3 ≡ given (spelled "bc") 0
  pub in_memory : text 2 0 2 ≡ given (spelled "xy") 0
  -- an empty text at the end
  pub nothing : text 1 3 3 ≡ given [] 0
  -- no text; places that go back; places that pass the slice they are of, and that one alone
  pub no_source : text 0 0 0 ≡ given [] 27
  pub backwards : text 1 2 1 ≡ given [] 27
  pub past_source : text 1 0 4 ≡ given [] 27
  pub past_memory : text 2 0 3 ≡ given [] 27

pub rows : Rows
unfolding utf8 bytes_of text_in text_mark
rows = record {
  in_source = refl;
  in_memory = refl;
  nothing = refl;
  no_source = refl;
  backwards = refl;
  past_source = refl;
  past_memory = refl;
}

-- no program that always gives the same mark meets the promise, nor one that leaves the lent number as it was
never_fixed : (m : ℕ) → ((k from to : ℕ) → m ≡ text_mark (spelled "abc") (spelled "xy") k from to) → ⊥
unfolding utf8 bytes_of text_mark
never_fixed m h = let z : ◌≡◌ {A = ℕ} 0 27 = sym (h 1 1 3) ∙ h 0 0 0 in omega (arith, z)
