-- A word can be spelled as a row of a table only if that begins with the word's first byte: so the other rows may be left out.
use Prim.Native.Nat.{ℕ}
use mathlib.Core.Path.{◌≡◌, refl, sym, ◌∙◌}
use mathlib.Core.Bool.{false}
use mathlib.Core.List.{List, [], ◌∷◌}
use lib.ListN.{length, get_or}
use lib.Dec.{eqb}
use native.Mathlib.Omega.{arith}
use borrow.Author.Tests.{ne_eqb}
use Rattle.std.specs.Prelude.{if◌then◌else◌}
use Rattle.laws.specs.Quoted.{code}
use Rattle.laws.specs.Texts.{same}
use Rattle.laws.proofs.Choice.{by_bool}
use Rattle.chars.specs.Encode.{bytes_of, utf8}
use Rattle.items.specs.Kinds as kind
use Rattle.items.specs.Meaning.{Row, lookup, words, word_kind}

-- the rows that begin with a byte
abbrev pub beginning : ℕ → List Row → List Row
beginning b [] = []
beginning b (r ∷ rs) = if eqb b (get_or r.text 0 0) then r ∷ beginning b rs else beginning b rs

-- a text that begins with another byte is another text, unless it is empty
other : (b : ℕ) (s t : List ℕ) → eqb b (get_or t 0 0) ≡ false → same (b ∷ s) t ≡ false
unfolding same
other b s [] h = refl
other b s (c ∷ t) h = rw h

beginning_enough : (b : ℕ) (s : List ℕ) (n : ℕ) (rs : List Row) → lookup (beginning b rs) (b ∷ s) n ≡ lookup rs (b ∷ s) n
unfolding lookup
beginning_enough b s n [] = refl
beginning_enough b s n (r ∷ rs) = by_bool (eqb b (get_or r.text 0 0))
    (λ h. rw (h, beginning_enough b s n rs))
    (λ h. rw (h, other b s r.text h) (beginning_enough b s n rs))

-- a word by its first byte
pub by_first : (raw : List ℕ) (b : ℕ) → (length raw ≡ 0 → ⊥) → get_or raw 0 0 ≡ b → {k : ℕ} → k ≡ lookup (beginning b words) raw kind.Identifier → k ≡ word_kind raw
unfolding word_kind
by_first [] b h e q = absurd (h refl)
by_first (c ∷ s) b h e q = q ∙ rw (sym e) (beginning_enough c s kind.Identifier words)

pub empty_word : (raw : List ℕ) → length raw ≡ 0 → kind.Identifier ≡ word_kind raw
unfolding word_kind words lookup bytes_of utf8 same
empty_word [] h = refl
empty_word (c ∷ s) h = absurd (omega arith)

-- no row begins with any other byte
pub no_row : (raw : List ℕ) (b : ℕ) → (b ≡ code "." → ⊥) → (b ≡ code "i" → ⊥) → (b ≡ code "l" → ⊥) → (b ≡ code "d" → ⊥) → (b ≡ code "#" → ⊥)
    → (b ≡ code "%" → ⊥) → (b ≡ code "r" → ⊥) → (b ≡ code "b" → ⊥) → (b ≡ code "f" → ⊥) → (b ≡ 0xCE → ⊥) → (b ≡ code "q" → ⊥) → (b ≡ code "s" → ⊥)
    → kind.Identifier ≡ lookup (beginning b words) raw kind.Identifier
unfolding words bytes_of utf8 lookup
no_row raw b h1 h2 h3 h4 h5 h6 h7 h8 h9 h10 h11 h12 =
    simp (
      ne_eqb b (code ".") h1,
      ne_eqb b (code "i") h2,
      ne_eqb b (code "l") h3,
      ne_eqb b (code "d") h4,
      ne_eqb b (code "#") h5,
      ne_eqb b (code "%") h6,
      ne_eqb b (code "r") h7,
      ne_eqb b (code "b") h8,
      ne_eqb b (code "f") h9,
      ne_eqb b 0xCE h10,
      ne_eqb b (code "q") h11,
      ne_eqb b (code "s") h12,
    )
