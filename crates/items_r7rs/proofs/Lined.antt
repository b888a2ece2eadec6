-- <identifier> in vertical lines: read to its closing line, and named by what its elements denote.
use Prim.Native.Nat.{ℕ, ◌+◌, ◌-◌}
use mathlib.Core.Path.{◌≡◌, refl, sym, ap, ◌∙◌}
use mathlib.Core.Bool.{Bool, true, false}
use mathlib.Core.List.{List, [], ◌∷◌, ◌++◌, append_assoc}
use lib.ListN.{length, length-append}
use lib.Seq.{get_or_at}
use lib.Dec.{ltb}
use native.Mathlib.Omega.{arith}
use borrow.Author.Tests.{lt-leb}
use Rattle.laws.specs.Quoted.{codes, code, one_of}
use Rattle.laws.proofs.Choice.{by_bool}
use Rattle.chars.specs.Blank.{is_blank}
use Rattle.chars.specs.Encode.{utf8, bytes_of}
use Rattle.items.specs.declared.Quotes.TheVariants.{Lines}
use Rattle.items.specs.declared.Outcome.TheVariants as outcome
use Rattle.items.specs.Classes.{starts_run, first_of, in_quotes, after_backslash, plain}
use Rattle.items.specs.Items.{byte_count}
use Rattle.items.specs.Meaning.{escaped, lined_text, Text}
use Rattle.items.specs.Readers.{so_far, got, last_is, lined_of, read_quoted, read_item, SoFar}
use Rattle.items.specs.Kinds as kind
use Rattle.items_r7rs.specs.Identifier.{SymbolElements, no_more, itself, mnemonic, vertical, doublequote, backslash, goes_on, hex, Remains, some, Lined, lined}
use Rattle.items_r7rs.specs.Identifier as identifier
use Rattle.items_r7rs.specs.Reading.{spelling, bytes, ReadAs}
use Rattle.items_r7rs.proofs.Between.{between, between_bytes, spells_between, between_unescaped, between_same}
use Rattle.items_r7rs.proofs.Bytes.{bytes_some}
use Rattle.items_r7rs.proofs.Classes.{not_first, not_others}
use Rattle.items_r7rs.proofs.Quoted.{quoted_on, Quoted, empty, character, escape, hexadecimal, continued}
use Rattle.items_r7rs.proofs.Reading.{eats, eats_append, whole, eats-whole, read_one}
use Rattle.items_r7rs.proofs.String.{quoted_mnemonic}

itself_plain : (c : ℕ) → one_of (codes "|\\") c ≡ false → in_quotes Lines c ≡ plain
unfolding in_quotes
itself_plain c h = rw (not_first (code "|") (codes "\\") c h, not_first (code "\\") [] c (not_others (code "|") (codes "\\") c h))

pub elements : {t v : List ℕ} → SymbolElements t v → Quoted Lines t v
unfolding after_backslash
elements no_more = empty
elements (itself {c = c} h s) = character (itself_plain c h) (elements s)
elements (mnemonic m s) = quoted_mnemonic Lines m (elements s)
elements (vertical s) = escape refl refl refl (elements s)
elements (doublequote s) = escape refl refl refl (elements s)
elements (backslash s) = escape refl refl refl (elements s)
elements (goes_on u w m n h s) = continued u w m n h (elements s)
elements (hex h x s) = hexadecimal h x (elements s)

-- where there is an escape, the name is not empty
pub named : {t v : List ℕ} → Remains t v → escaped (bytes_of (between Lines t)) ≡ true → ltb 0 (length (bytes_of v)) ≡ true
unfolding escaped bytes_of utf8
named identifier.empty h = cc
named (some {x = x} {v = v}) h = bytes_some x v

-- the closing line is the last byte
pub last_line : (l : List ℕ) → last_is (code "|") (code "|" ∷ l ++ codes "|") ≡ true
last_line l =
    let e : length (code "|" ∷ l) ≡ length (code "|" ∷ l ++ codes "|") - 1 = rw (length-append l (codes "|")) (omega arith) in
    rw (get_or_at (code "|" ∷ l) (code "|") [] 0 (length (code "|" ∷ l ++ codes "|") - 1) e)

lined_outcome : (t : List ℕ) → lined_of (bytes_of (between Lines t)) ≡ outcome.Lined
unfolding lined_of
lined_outcome t = rw (between_bytes Lines t) (rw (lt-leb (length (code "|" ∷ bytes_of t ++ codes "|")) 1 (rw (length-append (bytes_of t) (codes "|")) (omega arith)), last_line (bytes_of t)))

module _ (t : List ℕ) where
  abbrev pub lined_text_lem : ℕ → Text
  lined_text_lem at = lined_text at (at + byte_count (between Lines t)) (bytes_of (between Lines t))

  -- a name with an escape is not empty
  abbrev pub NamedSo : List ℕ → Type 0
  NamedSo v = escaped (bytes_of (between Lines t)) ≡ true → ltb 0 (length (bytes_of v)) ≡ true

  pub lined_spells : {v : List ℕ} → Quoted Lines t v → NamedSo v → (at : ℕ) → spelling at (bytes_of (between Lines t)) (lined_text_lem at) ≡ bytes (bytes_of v)
  unfolding lined_text
  lined_spells {v} q n at =
      by_bool (escaped (bytes_of (between Lines t)))
      (λ e. rw (between_unescaped Lines q, e, n e))
      (λ e. rw e (spells_between Lines at t ∙ ap (λ l. bytes (bytes_of l)) (between_same Lines q e)))

  lined_read : (report : Bool) (cs : List ℕ) {v : List ℕ} → Quoted Lines t v
      → (at : ℕ) → read_item report at (code "|") ((t ++ codes "|") ++ cs) ≡ got outcome.Lined (whole at (between Lines t)) cs
  unfolding read_item first_of starts_run read_quoted in_quotes
  lined_read report cs q at =
      let i : SoFar = eats (so_far [] at) (codes "|") in
      let e : eats (eats i t) (codes "|") ≡ whole at (between Lines t) = sym (eats_append i t (codes "|")) ∙ eats-whole at (between Lines t) in
      rw (append_assoc t (codes "|") cs)
      (quoted_on report Lines i cs q
      ∙ (ap (λ j. got (lined_of j.bytes) j cs) e ∙ ap (λ o. got o (whole at (between Lines t)) cs) (lined_outcome t)))

  -- whatever follows it: it ends where its lines close
  pub quoted_lined : (report : Bool) (cs : List ℕ) {v : List ℕ} → Quoted Lines t v → NamedSo v → ReadAs report (between Lines t) cs kind.Identifier 0 (bytes (bytes_of v))
  unfolding is_blank
  quoted_lined report cs q n = record {
    text = lined_text_lem;
    one = read_one report (code "|") (t ++ codes "|") cs outcome.Lined kind.Identifier 0 lined_text_lem refl refl (lined_read report cs q) (λ last at. refl) (λ at. refl);
    spells = lined_spells q n;
  }

pub lined_identifier : (report : Bool) {text v : List ℕ} (cs : List ℕ) → Lined text v → ReadAs report text cs kind.Identifier 0 (bytes (bytes_of v))
lined_identifier report cs (lined {t = t} s r) = quoted_lined t report cs (elements s) (named r)
