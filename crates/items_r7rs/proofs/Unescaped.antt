-- The text between quotes, on bytes: its escapes decoded, it is the bytes of the characters that it denotes; and where it has none, it is
-- these characters itself.
use Prim.Native.Nat.{ℕ}
use mathlib.Core.Path.{◌≡◌, refl, sym, ap, ◌∙◌}
use mathlib.Core.Bool.{Bool, true, false}
use mathlib.Core.List.{List, [], ◌∷◌, ◌++◌, append_assoc, append-nil}
use lib.Dec.{eqb, ltb}
use borrow.Author.Tests.{eqb-true}
use Rattle.laws.specs.Quoted.{code, one_of}
use Rattle.laws.proofs.Choice.{by_bool}
use Rattle.chars.specs.Encode.{utf8, encode, bytes_of}
use Rattle.chars.proofs.Bytes.{bytes_append}
use Rattle.items.specs.declared.Quotes.{Quotes}
use Rattle.items.specs.declared.Quotes.TheVariants.{Double, Lines}
use Rattle.items.specs.Classes.{delim_of, in_quotes, after_backslash, in_hex, in_trim, plain, simple}
use Rattle.items.specs.Meaning.{escaped, unescape, unescape_next, unescape_hex, unescape_trim}
use Rattle.items_r7rs.specs.Escape.{HexScalar}
use Rattle.items_r7rs.specs.Repeated.{Many, done, more}
use Rattle.items_r7rs.specs.String.{intraline, Intraline, indented}
use Rattle.items_r7rs.proofs.Bytes.{High, utf8_low, utf8_high, Beyond, all_high}
use Rattle.items_r7rs.proofs.Classes.{at_one_of, beyond_differs, beyond_none}
use Rattle.items_r7rs.proofs.Hex.{is_scalar_lem, scalar_of_lem, scalar_digits, digits_bytes, digit_in_escape, Hexadecimal}
use Rattle.items_r7rs.proofs.Quoted.{quotes_escape, newline_plain, intraline-space, intraline-blank, solid_or_line, closing_solid, Quoted, empty, character, escape, hexadecimal, continued}

-- white space of a line is ASCII
pub spaces_ascii : {u : List ℕ} → Many Intraline u → bytes_of u ≡ u
unfolding bytes_of
spaces_ascii done = refl
spaces_ascii (more {c = c} h m) = rw (utf8_low c (at_one_of (λ x. ltb x 0x80) true intraline c refl h), spaces_ascii m)

module _ (k : Quotes) where
  pub high_plain : (b : ℕ) → High b → in_quotes k b ≡ plain
  unfolding in_quotes
  high_plain b h = elim k as (λ q. in_quotes q b ≡ plain) [
    | Double ↦ rw (beyond_differs b h (code "\"") refl, beyond_differs b h (code "\\") refl)
    | Lines ↦ rw (beyond_differs b h (code "|") refl, beyond_differs b h (code "\\") refl)
  ]

  plain_byte : (b : ℕ) (r : List ℕ) → in_quotes k b ≡ plain → unescape k (b ∷ r) ≡ b ∷ unescape k r
  unfolding unescape
  plain_byte b r h = rw (h, unescape)

  pub high_bytes : (r : List ℕ) {bs : List ℕ} → Many High bs → unescape k (bs ++ r) ≡ bs ++ unescape k r
  high_bytes r done = refl
  high_bytes r (more {c = b} {t = bs} h m) = plain_byte b (bs ++ r) (high_plain b h) ∙ rw (high_bytes r m)

  pub beyond_bytes : (r : List ℕ) {bs : List ℕ} → Beyond bs → unescape k (bs ++ r) ≡ bs ++ unescape k r
  beyond_bytes r (all_high h m) = high_bytes r (more h m)

  pub plain_bytes : (c : ℕ) (r : List ℕ) → in_quotes k c ≡ plain → unescape k (utf8 c ++ r) ≡ utf8 c ++ unescape k r
  plain_bytes c r h = by_bool (ltb c 0x80) (λ e. rw (utf8_low c e) (plain_byte c r h)) (λ e. beyond_bytes r (utf8_high c e))

  -- ---- escapes

  pub escape_byte : (r : List ℕ) → unescape k (code "\\" ∷ r) ≡ unescape_next k r
  unfolding unescape
  escape_byte r = rw (quotes_escape k, unescape)

  pub simple_bytes : (c x : ℕ) (r : List ℕ) → after_backslash c ≡ simple x → unescape_next k (c ∷ r) ≡ x ∷ unescape k r
  unfolding unescape
  simple_bytes c x r e = rw (e, unescape_next)

  pub x_byte : (r : List ℕ) → unescape_next k (code "x" ∷ r) ≡ unescape_hex k (code ";") [] r
  unfolding unescape after_backslash
  x_byte r = refl

  hex_bytes : (ds r : List ℕ) {h : List ℕ} → Many Hexadecimal h → unescape_hex k (code ";") ds (h ++ r) ≡ unescape_hex k (code ";") (ds ++ h) r
  unfolding unescape
  hex_bytes ds r done = rw (append-nil ds)
  hex_bytes ds r (more {c = c} {t = h} e m) =
      rw (digit_in_escape k e, unescape_hex) (hex_bytes (ds ++ (c ∷ [])) r m ∙ rw (append_assoc ds (c ∷ []) h))

  hex_closed : (h r : List ℕ) {v : ℕ} → HexScalar h v → unescape_hex k (code ";") h (code ";" ∷ r) ≡ utf8 v ++ unescape k r
  unfolding unescape in_hex encode
  hex_closed h r s = rw (scalar_of_lem s, unescape_hex) (rw (is_scalar_lem s))

  -- ---- a line that goes on

  pub space_bytes : (seen : Bool) (r : List ℕ) {u : List ℕ} → Many Intraline u → unescape_trim k seen (u ++ r) ≡ unescape_trim k seen r
  unfolding unescape
  space_bytes seen r done = refl
  space_bytes seen r (more {c = c} h m) = rw (intraline-space c h, unescape_trim) (space_bytes seen r m)

  pub newline_bytes : (r : List ℕ) {u : List ℕ} → Many Intraline u → unescape_next k (u ++ (code "\n" ∷ r)) ≡ unescape_trim k true r
  unfolding unescape after_backslash in_trim
  newline_bytes r done = refl
  newline_bytes r (more {c = c} h m) = rw (intraline-blank c h, unescape_next) (space_bytes false (code "\n" ∷ r) m)

  line_end_byte : (r : List ℕ) → unescape_trim k true (code "\n" ∷ r) ≡ unescape k (code "\n" ∷ r)
  unfolding unescape in_trim
  line_end_byte r = rw (newline_plain k, unescape)

  pub text_byte : (b : ℕ) (r : List ℕ) → one_of intraline b ≡ false → unescape_trim k true (b ∷ r) ≡ unescape k (b ∷ r)
  unfolding unescape
  text_byte b r h =
      by_bool (eqb b (code "\n"))
      (λ e. rw (eqb-true b (code "\n") e) (line_end_byte r))
      (λ e. rw (solid_or_line b h, e, unescape_trim))

  pub text_beyond : (r : List ℕ) {bs : List ℕ} → Beyond bs → unescape_trim k true (bs ++ r) ≡ unescape k (bs ++ r)
  text_beyond r (all_high {b = b} {bs = bs} h m) = text_byte b (bs ++ r) (beyond_none b h intraline refl)

  text_bytes_lem : (t r : List ℕ) → indented t ≡ false → unescape_trim k true (bytes_of t ++ (delim_of k ∷ r)) ≡ unescape k (bytes_of t ++ (delim_of k ∷ r))
  unfolding bytes_of
  text_bytes_lem [] r h = text_byte (delim_of k) r (closing_solid k)
  text_bytes_lem (c ∷ t) r h =
      rw (append_assoc (utf8 c) (bytes_of t) (delim_of k ∷ r))
      (by_bool (ltb c 0x80) (λ e. rw (utf8_low c e) (text_byte c _ h)) (λ e. text_beyond _ (utf8_high c e)))

  -- ---- every element

  closing_byte : (r : List ℕ) → unescape k (delim_of k ∷ r) ≡ []
  unfolding unescape in_quotes
  closing_byte r = elim k as (λ q. unescape q (delim_of q ∷ r) ≡ []) [ Double ↦ refl | Lines ↦ refl ]

  pub unescaped : (r : List ℕ) {t v : List ℕ} → Quoted k t v → unescape k (bytes_of t ++ (delim_of k ∷ r)) ≡ bytes_of v
  unfolding bytes_of
  unescaped r empty = closing_byte r
  unescaped r (character {c = c} {t = t} h q) = rw (append_assoc (utf8 c) (bytes_of t) (delim_of k ∷ r)) (plain_bytes c _ h ∙ rw (unescaped r q))
  unescaped r (escape {c = c} {x = x} {t = t} e l m q) =
      let rest : List ℕ = bytes_of t ++ (delim_of k ∷ r) in
      rw (utf8_low (code "\\") refl, utf8_low c m, utf8_low x l) (escape_byte (c ∷ rest) ∙ (simple_bytes c x rest e ∙ ap (λ l. x ∷ l) (unescaped r q)))
  unescaped r (hexadecimal h {x = x} {t = t} s q) =
      let rest : List ℕ = bytes_of t ++ (delim_of k ∷ r) in
      rw (
        bytes_append h (code ";" ∷ t),
        digits_bytes (scalar_digits s),
        utf8_low (code "\\") refl,
        utf8_low (code "x") refl,
        utf8_low (code ";") refl,
        append_assoc h (code ";" ∷ bytes_of t) (delim_of k ∷ r),
      )
      (escape_byte (code "x" ∷ h ++ (code ";" ∷ rest))
      ∙ (x_byte (h ++ (code ";" ∷ rest))
      ∙ (hex_bytes [] (code ";" ∷ rest) (scalar_digits s)
      ∙ (hex_closed h rest s ∙ ap (λ l. utf8 x ++ l) (unescaped r q)))))
  unescaped r (continued u w {t = t} m n e q) =
      let rest : List ℕ = bytes_of t ++ (delim_of k ∷ r) in
      rw (
        bytes_append u (code "\n" ∷ w ++ t),
        spaces_ascii m,
        bytes_append w t,
        spaces_ascii n,
        utf8_low (code "\\") refl,
        utf8_low (code "\n") refl,
        append_assoc u (code "\n" ∷ w ++ bytes_of t) (delim_of k ∷ r),
        append_assoc w (bytes_of t) (delim_of k ∷ r),
      )
      (escape_byte (u ++ (code "\n" ∷ w ++ rest))
      ∙ (newline_bytes (w ++ rest) m ∙ (space_bytes true rest n ∙ (text_bytes_lem t r e ∙ unescaped r q))))

  -- ---- no escape

  backslash_differs : (c : ℕ) → in_quotes k c ≡ plain → eqb c (code "\\") ≡ false
  unfolding in_quotes
  backslash_differs c h =
      by_bool (eqb c (code "\\"))
      (λ e. let z = rw (eqb-true c (code "\\") e, quotes_escape k) at h in cc)
      (λ e. e)

  unescaped_byte : (b : ℕ) (r : List ℕ) → eqb b (code "\\") ≡ false → escaped (b ∷ r) ≡ escaped r
  unfolding escaped
  unescaped_byte b r h = rw h

  escaped_high : (r : List ℕ) {bs : List ℕ} → Many High bs → escaped (bs ++ r) ≡ escaped r
  escaped_high r done = refl
  escaped_high r (more {c = b} {t = bs} h m) = unescaped_byte b (bs ++ r) (beyond_differs b h (code "\\") refl) ∙ escaped_high r m

  escaped_beyond : (r : List ℕ) {bs : List ℕ} → Beyond bs → escaped (bs ++ r) ≡ escaped r
  escaped_beyond r (all_high h m) = escaped_high r (more h m)

  escaped-plain : (c : ℕ) (r : List ℕ) → in_quotes k c ≡ plain → escaped (utf8 c ++ r) ≡ escaped r
  escaped-plain c r h =
      by_bool (ltb c 0x80)
      (λ e. rw (utf8_low c e) (unescaped_byte c r (backslash_differs c h)))
      (λ e. escaped_beyond r (utf8_high c e))

  backslash_escaped : (t r : List ℕ) → escaped (bytes_of (code "\\" ∷ t) ++ r) ≡ true
  unfolding escaped bytes_of utf8
  backslash_escaped t r = refl

  -- with no escape, the characters between the quotes are those that they denote
  pub escaped_none : (r : List ℕ) {t v : List ℕ} → Quoted k t v → escaped (bytes_of t ++ r) ≡ false → t ≡ v
  unfolding bytes_of
  escaped_none r empty h = refl
  escaped_none r (character {c = c} {t = t} p q) h =
      ap (λ l. c ∷ l) (escaped_none r q (sym (escaped-plain c (bytes_of t ++ r) p) ∙ (rw (append_assoc (utf8 c) (bytes_of t) r) at h)))
  escaped_none r (escape {c = c} {t = t} e l m q) h = let z = backslash_escaped (c ∷ t) r in cc
  escaped_none r (hexadecimal x {t = t} s q) h = let z = backslash_escaped (code "x" ∷ x ++ (code ";" ∷ t)) r in cc
  escaped_none r (continued u w {t = t} m n e q) h = let z = backslash_escaped (u ++ (code "\n" ∷ w ++ t)) r in cc
