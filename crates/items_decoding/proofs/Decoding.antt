-- Decoding goes by the same elements: before whatever elements it gives what they stand for, and goes on behind them as it would begin there.
-- So the decoded text of an item that was read without an error is what its elements stand for.
use Prim.Native.Nat.{ℕ, ◌+◌, ◌-◌}
use mathlib.Core.Path.{◌≡◌, refl, sym, ap, subst, ◌∙◌}
use mathlib.Core.Bool.{Bool, true, false, ◌&&◌, true≢false}
use mathlib.Core.List.{List, [], ◌∷◌, ◌++◌, append_assoc, append-nil}
use lib.ListN.{length, drop}
use lib.Dec.{eqb, ltb}
use Rattle.std.specs.Prelude.{if◌then◌else◌}
use Rattle.laws.specs.Quoted.{code, codes}
use Rattle.laws.proofs.Choice.{by_bool, impossible}
use Rattle.chars.specs.Encode.{utf8, encode, bytes_of}
use Rattle.chars.proofs.Bytes.{bytes_append}
use Rattle.digits.specs.Hex.{hex_value}
use Rattle.items.specs.declared.Quotes.{Quotes}
use Rattle.items.specs.declared.Quotes.TheVariants.{Double, Lines}
use Rattle.items.specs.Classes.{starts_run, first_of, delim_of, in_quotes, after_backslash, in_hex, closes, digit}
use Rattle.items.specs.Meaning.{source, decoded, escaped, string_text, lined_text, unescape, unescape_next, unescape_brace, unescape_hex, unescape_trim}
use Rattle.items.specs.Readers.{SoFar, so_far, eat, Read, scalar_of, read_quoted, read_item}
use Rattle.items.proofs.Shorter.{scalar_is}
use Rattle.items_r7rs.specs.Repeated.{Many, done}
use Rattle.items_r7rs.specs.Repeated as many
use Rattle.items_r7rs.proofs.Bytes.{High, utf8_low, Beyond, all_high, utf8_high}
use Rattle.items_r7rs.proofs.Unescaped.{spaces_ascii, plain_bytes, escape_byte, simple_bytes, x_byte, space_bytes, newline_bytes, text_byte, text_beyond}
use Rattle.items_r7rs.proofs.Reading.{eats, eats_all, eats_append}
use Rattle.items_decoding.specs.Elements.{Digit, Spells, Solid, Element, itself, escape, hex, unicode, braced, line, Part, written, value, Elements, none, more}
use Rattle.items_decoding.specs.Elements.{Ends, closing, text_over, closer, Well, Decoded}
use Rattle.items_decoding.proofs.Letters.{no_brace, high_digit, escape_low}
use Rattle.items_decoding.proofs.Reading.{Seen, reads_through, well_read}

module _ (k : Quotes) where
  -- ---- escapes

  module _ (end : ℕ) (low : ltb end 0x80 ≡ true) where
    digit_byte : (ds : List ℕ) (b : ℕ) (r : List ℕ) → in_hex k end b ≡ digit → unescape_hex k end ds (b ∷ r) ≡ unescape_hex k end (ds ++ (b ∷ [])) r
    unfolding unescape
    digit_byte ds b r h = rw (h, unescape_hex)

    high_digits : (ds r : List ℕ) {bs : List ℕ} → Many High bs → unescape_hex k end ds (bs ++ r) ≡ unescape_hex k end (ds ++ bs) r
    high_digits ds r done = ap (λ (l : List ℕ). unescape_hex k end l r) (sym (append-nil ds))
    high_digits ds r (many.more {c = b} {t = bs} h m) =
        digit_byte ds b (bs ++ r) (high_digit b h k end low)
        ∙ high_digits (ds ++ (b ∷ [])) r m
        ∙ ap (λ (l : List ℕ). unescape_hex k end l r) (append_assoc ds (b ∷ []) bs)

    beyond_digits : (ds r : List ℕ) {bs : List ℕ} → Beyond bs → unescape_hex k end ds (bs ++ r) ≡ unescape_hex k end (ds ++ bs) r
    beyond_digits ds r (all_high h m) = high_digits ds r (many.more h m)

    digit_bytes : (ds : List ℕ) (c : ℕ) (r : List ℕ) → Digit k end c → unescape_hex k end ds (utf8 c ++ r) ≡ unescape_hex k end (ds ++ utf8 c) r
    digit_bytes ds c r h = by_bool (ltb c 0x80) (λ e. rw (utf8_low c e) (digit_byte ds c r h)) (λ e. beyond_digits ds r (utf8_high c e))

    hex_bytes : (ds r : List ℕ) {cs : List ℕ} → Many (Digit k end) cs → unescape_hex k end ds (bytes_of cs ++ r) ≡ unescape_hex k end (ds ++ bytes_of cs) r
    unfolding bytes_of
    hex_bytes ds r done = ap (λ (l : List ℕ). unescape_hex k end l r) (sym (append-nil ds))
    hex_bytes ds r (many.more {c = c} {t = cs} h m) =
        ap (unescape_hex k end ds) (append_assoc (utf8 c) (bytes_of cs) r)
        ∙ digit_bytes ds c (bytes_of cs ++ r) h
        ∙ hex_bytes (ds ++ utf8 c) r m
        ∙ ap (λ (l : List ℕ). unescape_hex k end l r) (append_assoc ds (utf8 c) (bytes_of cs))

    hex_closed : (ds r : List ℕ) {v : ℕ} → in_hex k end end ≡ closes → Spells ds v → unescape_hex k end (bytes_of ds) (end ∷ r) ≡ utf8 v ++ unescape k r
    unfolding unescape encode
    hex_closed ds r {v} c s = rw (c, unescape_hex) (rw s (rw (scalar_is (hex_value (bytes_of ds)) v s)))

    hex_all : (cs r : List ℕ) {v : ℕ} → in_hex k end end ≡ closes → Many (Digit k end) cs → Spells cs v
        → unescape_hex k end [] (bytes_of cs ++ (end ∷ r)) ≡ utf8 v ++ unescape k r
    hex_all cs r {v} c m s = hex_bytes [] (end ∷ r) m ∙ hex_closed cs r {v = v} c s

  u_byte : (r : List ℕ) → unescape_next k (code "u" ∷ r) ≡ unescape_brace k r
  unfolding unescape after_backslash
  u_byte r = refl

  brace_byte : (r : List ℕ) → unescape_brace k (code "{" ∷ r) ≡ unescape_hex k (code "}") [] r
  unfolding unescape
  brace_byte r = refl

  -- after `\u`, where no brace follows, the digits are read at once
  digits_at_once : (b : ℕ) (r : List ℕ) → Digit k (code ";") b → unescape_brace k (b ∷ r) ≡ unescape_hex k (code ";") [] (b ∷ r)
  unfolding unescape
  digits_at_once b r h = rw (no_brace b k h, unescape_brace) (rw (h, unescape_hex))

  beyond_at_once : (r : List ℕ) {bs : List ℕ} → Beyond bs → unescape_brace k (bs ++ r) ≡ unescape_hex k (code ";") [] (bs ++ r)
  beyond_at_once r (all_high {b = b} {bs = bs} h m) = digits_at_once b (bs ++ r) (high_digit b h k (code ";") refl)

  at_once : (cs r : List ℕ) {v : ℕ} → Many (Digit k (code ";")) cs → Spells cs v → unescape_brace k (bytes_of cs ++ r) ≡ unescape_hex k (code ";") [] (bytes_of cs ++ r)
  unfolding bytes_of hex_value scalar_of
  at_once [] r done s = impossible cc
  at_once (c ∷ cs) r (many.more h m) s =
      rw (append_assoc (utf8 c) (bytes_of cs) r)
      (by_bool (ltb c 0x80) (λ e. rw (utf8_low c e) (digits_at_once c (bytes_of cs ++ r) h)) (λ e. beyond_at_once (bytes_of cs ++ r) (utf8_high c e)))

  -- ---- a line that goes on

  text_bytes_lem : (cs : List ℕ) → Solid cs → unescape_trim k true (bytes_of cs) ≡ unescape k (bytes_of cs)
  unfolding bytes_of
  text_bytes_lem [] h = absurd h
  text_bytes_lem (c ∷ cs) h =
      by_bool (ltb c 0x80) (λ e. rw (utf8_low c e) (text_byte k c (bytes_of cs) h)) (λ e. text_beyond k (bytes_of cs) (utf8_high c e))

  -- ---- elements

  -- one element
  stands_for : {w v : List ℕ} (cs : List ℕ) → Element k cs w v → unescape k (bytes_of (w ++ cs)) ≡ v ++ unescape k (bytes_of cs)
  unfolding bytes_of in_hex
  stands_for cs (itself {c = c} h) = plain_bytes k c (bytes_of cs) h
  stands_for cs (escape {c = c} {x = x} e) =
      rw (utf8_low (code "\\") refl, utf8_low c (escape_low c x e)) (escape_byte k (c ∷ bytes_of cs) ∙ simple_bytes k c x (bytes_of cs) e)
  stands_for cs (hex ds {v = v} m s) =
      rw (append_assoc ds (codes ";") cs, bytes_append ds (code ";" ∷ cs), utf8_low (code "\\") refl, utf8_low (code "x") refl, utf8_low (code ";") refl)
      (escape_byte k (code "x" ∷ bytes_of ds ++ (code ";" ∷ bytes_of cs))
      ∙ (x_byte k (bytes_of ds ++ (code ";" ∷ bytes_of cs)) ∙ hex_all (code ";") refl ds (bytes_of cs) {v = v} refl m s))
  stands_for cs (unicode ds {v = v} m s) =
      rw (append_assoc ds (codes ";") cs, bytes_append ds (code ";" ∷ cs), utf8_low (code "\\") refl, utf8_low (code "u") refl, utf8_low (code ";") refl)
      (escape_byte k (code "u" ∷ bytes_of ds ++ (code ";" ∷ bytes_of cs))
      ∙ (u_byte (bytes_of ds ++ (code ";" ∷ bytes_of cs))
      ∙ (at_once ds (code ";" ∷ bytes_of cs) {v = v} m s ∙ hex_all (code ";") refl ds (bytes_of cs) {v = v} refl m s)))
  stands_for cs (braced ds {v = v} m s) =
      rw (
        append_assoc ds (codes "}") cs,
        bytes_append ds (code "}" ∷ cs),
        utf8_low (code "\\") refl,
        utf8_low (code "u") refl,
        utf8_low (code "{") refl,
        utf8_low (code "}") refl,
      )
      (escape_byte k (codes "u{" ++ (bytes_of ds ++ (code "}" ∷ bytes_of cs)))
      ∙ (u_byte (code "{" ∷ bytes_of ds ++ (code "}" ∷ bytes_of cs))
      ∙ (brace_byte (bytes_of ds ++ (code "}" ∷ bytes_of cs)) ∙ hex_all (code "}") refl ds (bytes_of cs) {v = v} refl m s)))
  stands_for cs (line u w m n h) =
      rw (
        append_assoc u (code "\n" ∷ w) cs,
        bytes_append u (code "\n" ∷ w ++ cs),
        spaces_ascii m,
        bytes_append w cs,
        spaces_ascii n,
        utf8_low (code "\\") refl,
        utf8_low (code "\n") refl,
      )
      (escape_byte k (u ++ (code "\n" ∷ w ++ bytes_of cs))
      ∙ (newline_bytes k (w ++ bytes_of cs) m ∙ (space_bytes k true (bytes_of cs) n ∙ text_bytes_lem cs h)))

  -- DECODING GIVES WHAT THE ELEMENTS STAND FOR: whatever elements stand before `after`, and then it goes on at `after`.
  pub decodes_through : {after : List ℕ} {ps : List Part} → Elements k after ps
      → unescape k (bytes_of (written ps ++ after)) ≡ value ps ++ unescape k (bytes_of after)
  unfolding written value
  decodes_through none = refl
  decodes_through {after} (more {p = p} {ps = ps} e es) =
      rw (append_assoc p.written (written ps) after, append_assoc p.value (value ps) (unescape k (bytes_of after)))
      (stands_for (written ps ++ after) e ∙ ap (λ (l : List ℕ). p.value ++ l) (decodes_through es))

  -- ---- an item

  -- what follows the closing quote is not looked at
  solid_alone : (w : List ℕ) (c : ℕ) (rest : List ℕ) → Solid (w ++ (c ∷ rest)) → Solid (w ++ (c ∷ []))
  solid_alone [] c rest h = h
  solid_alone (x ∷ w) c rest h = h

  element_alone : (t : List ℕ) (c : ℕ) (rest : List ℕ) {w v : List ℕ} → Element k (t ++ (c ∷ rest)) w v → Element k (t ++ (c ∷ [])) w v
  element_alone t c rest (itself h) = itself h
  element_alone t c rest (escape e) = escape e
  element_alone t c rest (hex ds m s) = hex ds m s
  element_alone t c rest (unicode ds m s) = unicode ds m s
  element_alone t c rest (braced ds m s) = braced ds m s
  element_alone t c rest (line u w m n h) = line u w m n (solid_alone t c rest h)

  elements_alone : {c : ℕ} {rest : List ℕ} {ps : List Part} → Elements k (c ∷ rest) ps → Elements k (c ∷ []) ps
  elements_alone none = none
  elements_alone {c} {rest} (more {ps = ps} e es) = more (element_alone (written ps) c rest e) (elements_alone es)

  closing_low : ltb (delim_of k) 0x80 ≡ true
  closing_low = elim k as (λ q. ltb (delim_of q) 0x80 ≡ true) [ Double ↦ refl | Lines ↦ refl ]

  closing_byte : unescape k (bytes_of (delim_of k ∷ [])) ≡ []
  unfolding unescape in_quotes bytes_of utf8
  closing_byte = elim k as (λ q. unescape q (bytes_of (delim_of q ∷ [])) ≡ []) [ Double ↦ refl | Lines ↦ refl ]

  ends_decoded : {after : List ℕ} {ps : List Part} → Elements k after ps → Ends k after → unescape k (bytes_of (written ps ++ closer after)) ≡ value ps
  unfolding unescape bytes_of
  ends_decoded {after} {ps} es (closing rest) =
      decodes_through (elements_alone es) ∙ ap (λ (l : List ℕ). value ps ++ l) closing_byte ∙ append-nil (value ps)
  ends_decoded {after} {ps} es (text_over h) = decodes_through es ∙ append-nil (value ps)

  opening_dropped : (t : List ℕ) → drop 1 (bytes_of (delim_of k ∷ t)) ≡ bytes_of t
  unfolding bytes_of
  opening_dropped t = rw (utf8_low (delim_of k) closing_low)

module _ (report : Bool) (k : Quotes) where
  -- at an end
  record Last (j : SoFar) (after : List ℕ) (r : Read) : Type 0 where
    item : r.item ≡ eats j (closer after)
    rest : r.rest ≡ drop 1 after

  last : (j : SoFar) (after : List ℕ) → Ends k after → Last j after (read_quoted report k j after)
  unfolding read_quoted in_quotes
  last j after (closing rest) = elim k as (λ q. Last j (delim_of q ∷ rest) (read_quoted report q j (delim_of q ∷ rest))) [ Double ↦ record { item = refl; rest = refl } | Lines ↦ record { item = refl; rest = refl } ]
  last j after (text_over h) = record { item = refl; rest = refl }

  pub quoted_item : (at : ℕ) (cs : List ℕ) → read_item report at (delim_of k) cs ≡ read_quoted report k (eat (so_far [] at) (delim_of k)) cs
  unfolding read_item first_of starts_run
  quoted_item at cs = elim k as (λ q. read_item report at (delim_of q) cs ≡ read_quoted report q (eat (so_far [] at) (delim_of q)) cs) [ Double ↦ refl | Lines ↦ refl ]

  decoded_item : (at : ℕ) (cs : List ℕ) → Well (read_quoted report k (eat (so_far [] at) (delim_of k)) cs).what
      → Decoded k cs (read_quoted report k (eat (so_far [] at) (delim_of k)) cs)
  decoded_item at cs h = record {
    parts = s.parts;
    after = s.after;
    elements = s.elements;
    ends = s.ends;
    text = s.text;
    raw = raw;
    rest = ap (λ (r : Read). r.rest) passed ∙ z.rest;
    decoded = ap (λ (b : List ℕ). unescape k (drop 1 b)) raw ∙ ap (unescape k) (opening_dropped k inside) ∙ ends_decoded k s.elements s.ends;
  }
    where
      i : SoFar
      i = eat (so_far [] at) (delim_of k)

      s : Seen k cs
      s = well_read report k i cs h

      inside : List ℕ
      inside = written s.parts ++ closer s.after

      passed : read_quoted report k i cs ≡ read_quoted report k (eats i (written s.parts)) s.after
      passed = ap (read_quoted report k i) (sym s.text) ∙ reads_through report k s.elements i

      z : Last (eats i (written s.parts)) s.after (read_quoted report k (eats i (written s.parts)) s.after)
      z = last (eats i (written s.parts)) s.after s.ends

      raw : (read_quoted report k i cs).item.bytes ≡ bytes_of (delim_of k ∷ inside)
      raw =
          ap (λ (r : Read). r.item.bytes) passed
          ∙ ap (λ (j : SoFar). j.bytes) (z.item ∙ sym (eats_append i (written s.parts) (closer s.after)) ∙ eats_all (so_far [] at) (delim_of k ∷ inside))

  -- READING AND DECODING GO THE SAME WAY: an item in quotes that was read without an error is made of elements, and its decoded text is what
  -- they stand for.
  pub same_way : (at : ℕ) (cs : List ℕ) → Well (read_item report at (delim_of k) cs).what → Decoded k cs (read_item report at (delim_of k) cs)
  same_way at cs h =
      subst (Decoded k cs) (sym (quoted_item at cs)) (decoded_item at cs (subst (λ (r : Read). Well r.what) (quoted_item at cs) h))

-- the text that the item is given: decoded, or its part of the source
pub string_text_lem : (s e : ℕ) {cs : List ℕ} (r : Read) (d : Decoded Double cs r)
    → string_text s e r.item.bytes ≡ (if escaped r.item.bytes then decoded (value d.parts) else source (s + 1) (e - 1))
unfolding string_text
string_text_lem s e r d = ap (λ (t : List ℕ). if escaped r.item.bytes then decoded t else source (s + 1) (e - 1)) d.decoded

-- in vertical lines nothing is handed out as decoded that is empty (E14)
pub lined_text_lem : (s e : ℕ) {cs : List ℕ} (r : Read) (d : Decoded Lines cs r)
    → lined_text s e r.item.bytes
    ≡ (if escaped r.item.bytes && ltb 0 (length (value d.parts)) then decoded (value d.parts) else source (s + 1) (e - 1))
unfolding lined_text
lined_text_lem s e r d =
    ap (λ (t : List ℕ). if escaped r.item.bytes && ltb 0 (length t) then decoded t else source (s + 1) (e - 1)) d.decoded

-- ---- no escape

escaped_parts : (xs ys : List ℕ) → escaped (xs ++ ys) ≡ false → (escaped xs ≡ false) × (escaped ys ≡ false)
unfolding escaped
escaped_parts [] ys h = (refl, h)
escaped_parts (x ∷ xs) ys h =
    by_bool (eqb x (code "\\"))
    (λ e. absurd (true≢false (rw e at h)))
    (λ e. let z = escaped_parts xs ys (rw e at h) in (rw e z.0, z.1))

backslash_escaped : (t : List ℕ) → escaped (bytes_of (code "\\" ∷ t)) ≡ true
unfolding escaped bytes_of utf8
backslash_escaped t = refl

-- an element that is no escape stands for itself
plain_element : {k : Quotes} {next w v : List ℕ} → Element k next w v → escaped (bytes_of w) ≡ false → v ≡ bytes_of w
unfolding bytes_of
plain_element (itself {c = c} h) f = sym (append-nil (utf8 c))
plain_element (escape {c = c} e) f = absurd (true≢false (sym (backslash_escaped (c ∷ [])) ∙ f))
plain_element (hex ds m s) f = absurd (true≢false (sym (backslash_escaped (code "x" ∷ ds ++ codes ";")) ∙ f))
plain_element (unicode ds m s) f = absurd (true≢false (sym (backslash_escaped (code "u" ∷ ds ++ codes ";")) ∙ f))
plain_element (braced ds m s) f = absurd (true≢false (sym (backslash_escaped (codes "u{" ++ (ds ++ codes "}"))) ∙ f))
plain_element (line u w m n h) f = absurd (true≢false (sym (backslash_escaped (u ++ (code "\n" ∷ w))) ∙ f))

-- Where there is no escape the elements stand for what is written, so the part of the source is their text too.
pub unescaped_value : {k : Quotes} {after : List ℕ} {ps : List Part} → Elements k after ps → escaped (bytes_of (written ps)) ≡ false → value ps ≡ bytes_of (written ps)
unfolding written value bytes_of
unescaped_value none f = refl
unescaped_value (more {p = p} {ps = ps} e es) f =
    let split : bytes_of (p.written ++ written ps) ≡ bytes_of p.written ++ bytes_of (written ps) = bytes_append p.written (written ps) in
    let z = escaped_parts (bytes_of p.written) (bytes_of (written ps)) (ap escaped (sym split) ∙ f) in
    ap (λ (l : List ℕ). l ++ value ps) (plain_element e z.0) ∙ ap (λ (l : List ℕ). bytes_of p.written ++ l) (unescaped_value es z.1) ∙ sym split
