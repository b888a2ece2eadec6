-- What stands between quotes, in strings and in vertical lines alike: it is read element by element up to the closing quote, and its
-- bytes, each escape as what it stands for, are those of the characters that it denotes.
use Prim.Native.Nat.{ℕ}
use mathlib.Core.Path.{◌≡◌, refl, ◌∙◌}
use mathlib.Core.Bool.{Bool, true, false}
use mathlib.Core.List.{List, [], ◌∷◌, ◌++◌, append_assoc}
use lib.ListN.{length, drop}
use lib.Seq.{drop_at}
use lib.Dec.{eqb, ltb}
use borrow.Author.Tests.{eqb-true}
use Rattle.std.specs.Prelude.{if◌then◌else◌, Ok}
use Rattle.laws.specs.Quoted.{codes, code, one_of}
use Rattle.laws.proofs.Choice.{by_bool}
use Rattle.chars.specs.Encode.{bytes_of}
use Rattle.digits.specs.Hex.{hex_value}
use Rattle.items.specs.declared.Quotes.{Quotes}
use Rattle.items.specs.declared.Quotes.TheVariants.{Double, Lines}
use Rattle.items.specs.Classes.{delim_of, in_quotes, after_backslash, in_hex, in_trim, escapes, plain, simple, blank, space, line, solid}
use Rattle.items.specs.Readers.{eat, scalar_of, read_quoted, read_escape, read_hex, read_trim, SoFar}
use Rattle.items_r7rs.specs.Escape.{HexScalar}
use Rattle.items_r7rs.specs.Repeated.{Many, done, more}
use Rattle.items_r7rs.specs.String.{intraline, Intraline, indented}
use Rattle.items_r7rs.proofs.Classes.{at_one_of, not_first, not_others}
use Rattle.items_r7rs.proofs.Hex.{scalar_of_lem, scalar_digits, digits_bytes, digit_in_escape, Hexadecimal}
use Rattle.items_r7rs.proofs.Reading.{eats, eats_all, eats_append}

-- the elements of both, each with the class that it has here: characters, and what they denote
pub data Quoted (k : Quotes) : List ℕ → List ℕ → Type 0 where
  empty : Quoted k [] []
  character : {c : ℕ} {t v : List ℕ} → in_quotes k c ≡ plain → Quoted k t v → Quoted k (c ∷ t) (c ∷ v)
  escape : {c x : ℕ} {t v : List ℕ} → after_backslash c ≡ simple x → ltb x 0x80 ≡ true → ltb c 0x80 ≡ true → Quoted k t v → Quoted k (code "\\" ∷ c ∷ t) (x ∷ v)
  hexadecimal : (h : List ℕ) {x : ℕ} {t v : List ℕ} → HexScalar h x → Quoted k t v → Quoted k (code "\\" ∷ code "x" ∷ h ++ (code ";" ∷ t)) (x ∷ v)
  continued : (u w : List ℕ) {t v : List ℕ} → Many Intraline u → Many Intraline w → indented t ≡ false → Quoted k t v
      → Quoted k (code "\\" ∷ u ++ (code "\n" ∷ w ++ t)) v

-- ---- reading

pub quotes_escape : (k : Quotes) → in_quotes k (code "\\") ≡ escapes
unfolding in_quotes
quotes_escape Double = refl
quotes_escape Lines = refl

pub newline_plain : (k : Quotes) → in_quotes k (code "\n") ≡ plain
unfolding in_quotes
newline_plain Double = refl
newline_plain Lines = refl

-- white space of a line, where a line goes on
pub intraline-space : (c : ℕ) → one_of intraline c ≡ true → in_trim c ≡ space
unfolding in_trim
intraline-space c h = at_one_of in_trim space intraline c refl h

pub intraline-blank : (c : ℕ) → one_of intraline c ≡ true → after_backslash c ≡ blank
unfolding after_backslash
intraline-blank c h = at_one_of after_backslash blank intraline c refl h

pub solid_or_line : (c : ℕ) → one_of intraline c ≡ false → in_trim c ≡ (if eqb c (code "\n") then line else solid)
unfolding in_trim
solid_or_line c h = rw (not_first (code " ") (codes "\t") c h, not_first (code "\t") [] c (not_others (code " ") (codes "\t") c h))

pub closing_solid : (k : Quotes) → one_of intraline (delim_of k) ≡ false
closing_solid Double = refl
closing_solid Lines = refl

unindented : (k : Quotes) (t : List ℕ) → indented t ≡ false → indented (t ++ (delim_of k ∷ [])) ≡ false
unindented k [] h = closing_solid k
unindented k (c ∷ t) h = h

module _ (report : Bool) (k : Quotes) where
  pub quoted_escape : (i : SoFar) (cs : List ℕ) → read_quoted report k i (code "\\" ∷ cs) ≡ read_escape report k i.at (eat i (code "\\")) cs
  unfolding read_quoted
  quoted_escape i cs = rw (quotes_escape k, read_quoted)

  hex_on : (from n : ℕ) (i : SoFar) (cs : List ℕ) {h : List ℕ} → Many Hexadecimal h → read_hex report k (code ";") from n i (h ++ cs) ≡ read_hex report k (code ";") from n (eats i h) cs
  unfolding read_quoted
  hex_on from n i cs done = refl
  hex_on from n i cs (more {c = c} h m) = rw (digit_in_escape k h, read_hex) (hex_on from n (eat i c) cs m)

  pub trim_on : (seen : Bool) (i : SoFar) (cs : List ℕ) {u : List ℕ} → Many Intraline u → read_trim report k seen i (u ++ cs) ≡ read_trim report k seen (eats i u) cs
  unfolding read_quoted
  trim_on seen i cs done = refl
  trim_on seen i cs (more {c = c} h m) = rw (intraline-space c h, read_trim) (trim_on seen (eat i c) cs m)

  pub line_end_lem : (i : SoFar) (cs : List ℕ) → read_trim report k true i (code "\n" ∷ cs) ≡ read_quoted report k i (code "\n" ∷ cs)
  unfolding read_quoted in_trim
  line_end_lem i cs = rw (newline_plain k, read_quoted)

  -- where the line's own text begins, reading is as in quotes
  trim_ends : (i : SoFar) (c : ℕ) (cs : List ℕ) → one_of intraline c ≡ false → read_trim report k true i (c ∷ cs) ≡ read_quoted report k i (c ∷ cs)
  unfolding read_quoted
  trim_ends i c cs h =
      by_bool (eqb c (code "\n"))
      (λ e. rw (eqb-true c (code "\n") e) (line_end_lem i cs))
      (λ e. rw (solid_or_line c h, e, read_trim))

  -- the digits of an escape, and what closes them
  hex_close : (from n : ℕ) (i : SoFar) (cs : List ℕ) {v : ℕ} → scalar_of (hex_value (drop n i.bytes)) ≡ Ok v
      → read_hex report k (code ";") from n i (code ";" ∷ cs) ≡ read_quoted report k (eat i (code ";")) cs
  unfolding read_quoted in_hex
  hex_close from n i cs e = rw (e, read_hex)

  digits_eaten : (i : SoFar) {h : List ℕ} → Many Hexadecimal h → drop (length i.bytes) (eats i h).bytes ≡ h
  digits_eaten i {h} m = rw (eats_all i h) (drop_at i.bytes (bytes_of h) (length i.bytes) refl ∙ digits_bytes m)

  hex_read : (from : ℕ) (i : SoFar) (cs : List ℕ) {h : List ℕ} {v : ℕ} → HexScalar h v
      → read_hex report k (code ";") from (length i.bytes) i (h ++ (code ";" ∷ cs)) ≡ read_quoted report k (eat (eats i h) (code ";")) cs
  hex_read from i cs {h} {v} s =
      hex_on from (length i.bytes) i (code ";" ∷ cs) (scalar_digits s)
      ∙ hex_close from (length i.bytes) (eats i h) cs {v = v} (rw (digits_eaten i (scalar_digits s)) (scalar_of_lem s))

  -- a line that goes on, up to the text of the next
  pub newline_read : (from : ℕ) (i : SoFar) (cs : List ℕ) {u : List ℕ} → Many Intraline u
      → read_escape report k from i (u ++ (code "\n" ∷ cs)) ≡ read_trim report k true (eat (eats i u) (code "\n")) cs
  unfolding read_quoted after_backslash in_trim
  newline_read from i cs done = refl
  newline_read from i cs (more {c = c} {t = u} h m) = rw (intraline-blank c h, read_escape) (trim_on false (eat i c) (code "\n" ∷ cs) m)

  line_read : (i : SoFar) (t cs : List ℕ) {w : List ℕ} (c : ℕ) → Many Intraline w → indented (t ++ (c ∷ [])) ≡ false
      → read_trim report k true i (w ++ (t ++ (c ∷ cs))) ≡ read_quoted report k (eats i w) (t ++ (c ∷ cs))
  line_read i [] cs {w} c m h = trim_on true i (c ∷ cs) m ∙ trim_ends (eats i w) c cs h
  line_read i (x ∷ t) cs {w} c m h = trim_on true i (x ∷ t ++ (c ∷ cs)) m ∙ trim_ends (eats i w) x (t ++ (c ∷ cs)) h

  -- up to the closing quote
  pub quoted_on : (i : SoFar) (cs : List ℕ) {t v : List ℕ} → Quoted k t v → read_quoted report k i (t ++ (delim_of k ∷ cs)) ≡ read_quoted report k (eats i t) (delim_of k ∷ cs)
  unfolding read_quoted after_backslash
  quoted_on i cs empty = refl
  quoted_on i cs (character {c = c} h q) = rw (h, read_quoted) (quoted_on (eat i c) cs q)
  quoted_on i cs (escape {c = c} {t = t} e l m q) =
      quoted_escape i (c ∷ t ++ (delim_of k ∷ cs)) ∙ rw (e, read_escape) (quoted_on (eats i (code "\\" ∷ c ∷ [])) cs q)
  quoted_on i cs (hexadecimal h {t = t} s q) =
      rw (append_assoc h (code ";" ∷ t) (delim_of k ∷ cs), eats_append (eats i (codes "\\x")) h (code ";" ∷ t))
      (quoted_escape i (code "x" ∷ h ++ (code ";" ∷ t ++ (delim_of k ∷ cs)))
      ∙ (hex_read i.at (eats i (codes "\\x")) (t ++ (delim_of k ∷ cs)) s ∙ quoted_on _ cs q))
  quoted_on i cs (continued u w {t = t} m n e q) =
      let j : SoFar = eat i (code "\\") in
      let l : SoFar = eat (eats j u) (code "\n") in
      rw (append_assoc u (code "\n" ∷ w ++ t) (delim_of k ∷ cs), append_assoc w t (delim_of k ∷ cs), eats_append j u (code "\n" ∷ w ++ t), eats_append l w t)
      (quoted_escape i (u ++ (code "\n" ∷ w ++ (t ++ (delim_of k ∷ cs))))
      ∙ (newline_read i.at j (w ++ (t ++ (delim_of k ∷ cs))) m
      ∙ (line_read l t cs (delim_of k) n (unindented k t e) ∙ quoted_on (eats l w) cs q)))
