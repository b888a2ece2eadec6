-- <string>: read to its closing quote; its text is what its elements denote, decoded where one of them is an escape.
use Prim.Native.Nat.{ℕ, ◌+◌}
use mathlib.Core.Path.{◌≡◌, refl, ap, ◌∙◌}
use mathlib.Core.Bool.{Bool, true, false}
use mathlib.Core.List.{List, [], ◌∷◌, ◌++◌, append_assoc}
use lib.Dec.{ltb}
use Rattle.laws.specs.Quoted.{codes, code, one_of}
use Rattle.laws.proofs.Choice.{by_bool}
use Rattle.chars.specs.Blank.{is_blank}
use Rattle.chars.specs.Encode.{bytes_of}
use Rattle.items.specs.declared.Quotes.{Quotes}
use Rattle.items.specs.declared.Quotes.TheVariants.{Double}
use Rattle.items.specs.declared.Outcome.TheVariants.{Str}
use Rattle.items.specs.Classes.{first_of, in_quotes, after_backslash, plain, simple}
use Rattle.items.specs.Items.{byte_count}
use Rattle.items.specs.Meaning.{escaped, string_text, Text}
use Rattle.items.specs.Readers.{so_far, got, read_quoted, read_item, SoFar}
use Rattle.items.specs.Kinds as kind
use Rattle.items_r7rs.specs.Escape.{Mnemonic, alarm, backspace, tab, linefeed, return}
use Rattle.items_r7rs.specs.Reading.{spelling, bytes, ReadAs}
use Rattle.items_r7rs.specs.String.{StringElements, no_more, itself, mnemonic, doublequote, backslash, vertical, goes_on, hex, StringText, quoted}
use Rattle.items_r7rs.proofs.Between.{between, spells_between, between_unescaped, between_same}
use Rattle.items_r7rs.proofs.Classes.{not_first, not_others}
use Rattle.items_r7rs.proofs.Quoted.{quoted_on, Quoted, empty, character, escape, hexadecimal, continued}
use Rattle.items_r7rs.proofs.Reading.{eats, eats_append, whole, eats-whole, read_one}

mnemonic_simple : {c x : ℕ} → Mnemonic c x → after_backslash c ≡ simple x
unfolding after_backslash
mnemonic_simple alarm = refl
mnemonic_simple backspace = refl
mnemonic_simple tab = refl
mnemonic_simple linefeed = refl
mnemonic_simple return = refl

mnemonic_ascii : {c x : ℕ} → Mnemonic c x → (ltb x 0x80 ≡ true) × (ltb c 0x80 ≡ true)
mnemonic_ascii alarm = (refl, refl)
mnemonic_ascii backspace = (refl, refl)
mnemonic_ascii tab = (refl, refl)
mnemonic_ascii linefeed = (refl, refl)
mnemonic_ascii return = (refl, refl)

pub quoted_mnemonic : (k : Quotes) {c x : ℕ} {t v : List ℕ} → Mnemonic c x → Quoted k t v → Quoted k (code "\\" ∷ c ∷ t) (x ∷ v)
quoted_mnemonic k m q = escape (mnemonic_simple m) (mnemonic_ascii m).0 (mnemonic_ascii m).1 q

itself_plain : (c : ℕ) → one_of (codes "\"\\\r") c ≡ false → in_quotes Double c ≡ plain
unfolding in_quotes
itself_plain c h = rw (not_first (code "\"") (codes "\\\r") c h, not_first (code "\\") (codes "\r") c (not_others (code "\"") (codes "\\\r") c h))

pub elements : {t v : List ℕ} → StringElements t v → Quoted Double t v
unfolding after_backslash
elements no_more = empty
elements (itself {c = c} h s) = character (itself_plain c h) (elements s)
elements (mnemonic m s) = quoted_mnemonic Double m (elements s)
elements (doublequote s) = escape refl refl refl (elements s)
elements (backslash s) = escape refl refl refl (elements s)
elements (vertical s) = escape refl refl refl (elements s)
elements (goes_on u w m n h s) = continued u w m n h (elements s)
elements (hex h x s) = hexadecimal h x (elements s)

module _ (t : List ℕ) where
  abbrev pub string_text_lem : ℕ → Text
  string_text_lem at = string_text at (at + byte_count (between Double t)) (bytes_of (between Double t))

  pub string_spells : {v : List ℕ} → Quoted Double t v → (at : ℕ) → spelling at (bytes_of (between Double t)) (string_text_lem at) ≡ bytes (bytes_of v)
  unfolding string_text
  string_spells q at =
      by_bool (escaped (bytes_of (between Double t)))
      (λ e. rw e (ap bytes (between_unescaped Double q)))
      (λ e. rw e (spells_between Double at t ∙ ap (λ l. bytes (bytes_of l)) (between_same Double q e)))

  string_read : (report : Bool) (cs : List ℕ) {v : List ℕ} → Quoted Double t v
      → (at : ℕ) → read_item report at (code "\"") ((t ++ codes "\"") ++ cs) ≡ got Str (whole at (between Double t)) cs
  unfolding read_item first_of read_quoted in_quotes
  string_read report cs q at =
      let i : SoFar = eats (so_far [] at) (codes "\"") in
      rw (append_assoc t (codes "\"") cs, ← eats-whole at (between Double t), eats_append i t (codes "\"")) (quoted_on report Double i cs q)

  -- whatever follows it: it ends where its quotes close
  pub quoted_string : (report : Bool) (cs : List ℕ) {v : List ℕ} → Quoted Double t v → ReadAs report (between Double t) cs kind.StringLiteral 0 (bytes (bytes_of v))
  unfolding is_blank
  quoted_string report cs q = record {
    text = string_text_lem;
    one = read_one report (code "\"") (t ++ codes "\"") cs Str kind.StringLiteral 0 string_text_lem refl refl (string_read report cs q) (λ last at. refl) (λ at. refl);
    spells = string_spells q;
  }

pub string : (report : Bool) {text v : List ℕ} (cs : List ℕ) → StringText text v → ReadAs report text cs kind.StringLiteral 0 (bytes (bytes_of v))
string report cs (quoted {t = t} s) = quoted_string t report cs (elements s)
