-- What the decoder's functions say of an element. A means of proof: the contracts of `decode` and `decoded_length` cite `unescape` alone.
use Rattle.std.specs.Prelude.{ℕ, ◌≤◌, ◌≡◌, Bool, true, List, [], ◌∷◌, ◌++◌, length, drop, eqb, if◌then◌else◌, Err, Ok, Result}
use Rattle.laws.specs.Quoted.{code}
use Rattle.chars.specs.Encode.{encode, is_scalar}
use Rattle.items.specs.declared.Quotes.{Quotes}
use Rattle.items.specs.declared.CharError.{CharError}
use Rattle.items.specs.Meaning.{unescape, unescape_trim}
use Rattle.escapes.specs.declared.ElementValue.{ElementValue}
use Rattle.escapes.specs.declared.ElementValue.TheVariants.{Nothing, Byte, Code}
use Rattle.escapes.specs.declared.Element.{Element}

abbrev pub element : ElementValue → ℕ → Element
element g n = record { given = g; next = n }

abbrev pub bytes_given : ElementValue → List ℕ
bytes_given Nothing = []
bytes_given (Byte b) = b ∷ []
bytes_given (Code c) = encode c

-- a code given is a character's
abbrev pub sound : ElementValue → Bool
sound Nothing = true
sound (Byte b) = true
sound (Code c) = is_scalar c

-- at the closer of a hex escape
abbrev pub closed_hex : Result ℕ CharError → ℕ → ℕ → Element
closed_hex (Ok c) next end = element (Code c) next
closed_hex (Err e) next end = element Nothing end

abbrev pub is_space : ℕ → Bool
is_space c = if eqb c (code " ") then true else eqb c (code "\t")

-- in the blanks of a line that goes on, its newline seen or not: the text that raw spells from the place `from` on is what it spells from
-- the place n on
pub record GoesOn (seen : Bool) (raw : List ℕ) (from n : ℕ) : Type 0 where
  pub ahead : from ≤ n
  pub inside : n ≤ length raw
  pub rest : (k : Quotes) → unescape_trim k seen (drop from raw) ≡ unescape k (drop n raw)

-- The element e begins a text that raw spells from the place `from` on or from before it: what e gives, and what raw gives from e's next
-- place on, make up the text.
pub record Unescapes (k : Quotes) (raw text : List ℕ) (from : ℕ) (e : Element) : Type 0 where
  pub ahead : from ≤ e.next
  pub inside : e.next ≤ length raw
  pub whole : text ≡ bytes_given e.given ++ unescape k (drop e.next raw)
  pub safe : sound e.given ≡ true
