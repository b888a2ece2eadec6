-- Strings in quotes and identifiers in vertical lines, with the two escapes: they read back as their text.
use Prim.Native.Nat.{ℕ, ◌≤◌}
use mathlib.Core.Path.{◌≡◌, refl, sym, ap, ◌∙◌}
use mathlib.Core.Bool.{true, false}
use mathlib.Core.List.{List, [], ◌∷◌, ◌++◌}
use lib.Dec.{eqb, ltb}
use borrow.Author.Tests.{eqb-true, eq-eqb}
use Rattle.laws.specs.Quoted.{code, within}
use Rattle.laws.proofs.Choice.{by_bool}
use Rattle.chars.specs.Encode.{is_scalar, utf8, bytes_of}
use Rattle.chars.proofs.Good.{Scalars}
use Rattle.items.specs.declared.Quotes.{Quotes}
use Rattle.items.specs.declared.Quotes.TheVariants.{Double, Lines}
use Rattle.items.specs.Classes.{delim_of, in_quotes, after_backslash, plain, simple}
use Rattle.items.specs.Meaning.{escaped}
use Rattle.items.specs.Kinds as kind
use Rattle.items_r7rs.specs.Reading.{bytes, ReadAs}
use Rattle.items_r7rs.specs.Repeated.{Many, done, more}
use Rattle.items_r7rs.proofs.Bytes.{High, Beyond, all_high, utf8_low, utf8_high, bytes_some}
use Rattle.items_r7rs.proofs.Classes.{beyond_differs}
use Rattle.items_r7rs.proofs.Between.{between, between_bytes}
use Rattle.items_r7rs.proofs.Quoted.{Quoted, empty, character, escape as escape-one}
use Rattle.items_r7rs.proofs.String.{quoted_string}
use Rattle.items_r7rs.proofs.Lined.{quoted_lined, NamedSo}
use Rattle.items_writing.proofs.Places.{scalars_append}
use Rattle.items_writing.specs.Written.{escape, quoted}

module _ (k : Quotes) where
  -- a character that is no backslash and does not close
  plain_one : (c : ℕ) → eqb c (delim_of k) ≡ false → eqb c (code "\\") ≡ false → in_quotes k c ≡ plain
  unfolding in_quotes
  plain_one c e f = rw (e, f)

  closer_simple : after_backslash (delim_of k) ≡ simple (delim_of k)
  unfolding after_backslash
  closer_simple = elim k as (λ q. after_backslash (delim_of q) ≡ simple (delim_of q)) [ Double ↦ refl | Lines ↦ refl ]

  backslash_simple : after_backslash (code "\\") ≡ simple (code "\\")
  unfolding after_backslash
  backslash_simple = refl

  closer_ascii : ltb (delim_of k) 0x80 ≡ true
  closer_ascii = elim k as (λ q. ltb (delim_of q) 0x80 ≡ true) [ Double ↦ refl | Lines ↦ refl ]

  -- what is escaped denotes what it was
  pub escape_denotes : (v : List ℕ) → Quoted k (escape k v) v
  unfolding escape
  escape_denotes [] = empty
  escape_denotes (c ∷ v) = by_bool (eqb c (delim_of k))
      (λ e. rw (e, escape) (rw (eqb-true c (delim_of k) e) (escape-one closer_simple closer_ascii closer_ascii (escape_denotes v))))
      (λ e. by_bool (eqb c (code "\\"))
      (λ f. rw (e, f, escape) (rw (eqb-true c (code "\\") f) (escape-one backslash_simple refl refl (escape_denotes v))))
      (λ f. rw (e, f, escape) (character (plain_one c e f) (escape_denotes v))))

  -- bytes past ASCII stay
  escape_byte : (b : ℕ) (r : List ℕ) → 0x80 ≤ b → escape k (b ∷ r) ≡ b ∷ escape k r
  unfolding escape
  escape_byte b r h =
      let e : eqb b (delim_of k) ≡ false = beyond_differs b h (delim_of k) closer_ascii in
      rw (e, beyond_differs b h (code "\\") refl)

  escape_high : (r : List ℕ) {bs : List ℕ} → Many High bs → escape k (bs ++ r) ≡ bs ++ escape k r
  escape_high r done = refl
  escape_high r (more {c = b} {t = bs} h m) = escape_byte b (bs ++ r) h ∙ ap (λ (l : List ℕ). b ∷ l) (escape_high r m)

  escape_beyond : (r : List ℕ) {bs : List ℕ} → Beyond bs → escape k (bs ++ r) ≡ bs ++ escape k r
  escape_beyond r (all_high h m) = escape_high r (more h m)

  escape_plain : (c : ℕ) (r : List ℕ) → eqb c (delim_of k) ≡ false → eqb c (code "\\") ≡ false → escape k (utf8 c ++ r) ≡ utf8 c ++ escape k r
  unfolding escape
  escape_plain c r e f = by_bool (ltb c 0x80)
      (λ l. rw (utf8_low c l) (rw (e, f)))
      (λ l. escape_beyond r (utf8_high c l))

  -- escaping characters is escaping their bytes
  pub escape_bytes : (v : List ℕ) → bytes_of (escape k v) ≡ escape k (bytes_of v)
  unfolding escape bytes_of
  escape_bytes [] = refl
  escape_bytes (c ∷ v) = by_bool (eqb c (delim_of k))
      (λ e. let q : c ≡ delim_of k = eqb-true c (delim_of k) e in
      rw (e, escape) (rw (q, utf8_low (delim_of k) closer_ascii, utf8_low (code "\\") refl) (rw (eq-eqb (delim_of k) (delim_of k) refl, escape, escape_bytes v))))
      (λ e. by_bool (eqb c (code "\\"))
      (λ f. let q : c ≡ code "\\" = eqb-true c (code "\\") f in
      let d : eqb (code "\\") (delim_of k) ≡ false = rw q at e in
      rw (e, f, escape) (rw (q, utf8_low (code "\\") refl) (rw (d, escape, escape_bytes v))))
      (λ f. rw (e, f, escape) (ap (λ (l : List ℕ). utf8 c ++ l) (escape_bytes v) ∙ sym (escape_plain c (bytes_of v) e f))))

  pub quoted_bytes : (v : List ℕ) → quoted k (bytes_of v) ≡ bytes_of (between k (escape k v))
  unfolding quoted
  quoted_bytes v = rw (between_bytes k (escape k v), escape_bytes v)

  -- and they are characters
  delim_scalar : is_scalar (delim_of k) ≡ true
  unfolding is_scalar within
  delim_scalar = elim k as (λ q. is_scalar (delim_of q) ≡ true) [ Double ↦ refl | Lines ↦ refl ]

  backslash_scalar : is_scalar (code "\\") ≡ true
  unfolding is_scalar within
  backslash_scalar = refl

  escape_scalars : (v : List ℕ) → Scalars v → Scalars (escape k v)
  unfolding escape
  escape_scalars [] h = tt
  escape_scalars (c ∷ v) h = by_bool (eqb c (delim_of k))
      (λ e. rw (e, escape) (backslash_scalar, (h.0, escape_scalars v h.1)))
      (λ e. by_bool (eqb c (code "\\"))
      (λ f. rw (e, f, escape) (backslash_scalar, (h.0, escape_scalars v h.1)))
      (λ f. rw (e, f, escape) (h.0, escape_scalars v h.1)))

  pub between_scalars : (v : List ℕ) → Scalars v → Scalars (between k (escape k v))
  between_scalars v h = (delim_scalar, scalars_append (escape k v) (delim_of k ∷ []) (escape_scalars v h) (delim_scalar, tt))

-- a string, whatever follows it
pub string_back : (v cs : List ℕ) → ReadAs true (between Double (escape Double v)) cs kind.StringLiteral 0 (bytes (bytes_of v))
string_back v cs = quoted_string (escape Double v) true cs (escape_denotes Double v)

named_so : (v : List ℕ) → NamedSo (escape Lines v) v
unfolding escape escaped bytes_of utf8
named_so [] h = cc
named_so (c ∷ v) h = bytes_some c v

-- an identifier in vertical lines, whatever follows it
pub lined_back : (v cs : List ℕ) → ReadAs true (between Lines (escape Lines v)) cs kind.Identifier 0 (bytes (bytes_of v))
lined_back v cs = quoted_lined (escape Lines v) true cs (escape_denotes Lines v) (named_so v)
