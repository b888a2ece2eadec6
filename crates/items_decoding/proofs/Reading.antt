-- The reader passes exactly the elements: before whatever elements it goes on behind them as it would begin there, and an item that it
-- reads without an error is made of elements, up to its closing quote or, in vertical lines, to the end of the text.
use Rattle.std.proofs.Common.{Ok}
use Prim.Native.Nat.{ℕ, ◌-◌}
use mathlib.Core.Path.{◌≡◌, refl, sym, ap, subst, ◌∙◌}
use mathlib.Core.Bool.{Bool, true, false}
use mathlib.Core.List.{List, [], ◌∷◌, ◌++◌, append_assoc, append-nil}
use lib.ListN.{length, drop}
use lib.Seq.{drop_at}
use lib.Dec.{eqb}
use borrow.Author.Tests.{eqb-true}
use Rattle.laws.specs.Quoted.{code, codes, one_of}
use Rattle.laws.proofs.Choice.{by_bool, impossible}
use Rattle.chars.specs.Encode.{utf8, bytes_of}
use Rattle.chars.proofs.Bytes.{bytes_snoc}
use Rattle.digits.specs.Hex.{hex_value}
use Rattle.digits.specs.Hex.{empty as nothing}
use Rattle.items.specs.declared.Quotes.{Quotes}
use Rattle.items.specs.declared.Quotes.TheVariants.{Double, Lines}
use Rattle.items.specs.Classes.{delim_of, in_quotes, after_backslash, in_hex, in_trim, plain, closes}
use Rattle.items.specs.Readers.{SoFar, eat, scalar_of, failing, unclosed, cut, read_quoted, read_escape, read_brace, read_hex, read_trim}
use Rattle.items.specs.Kinds as kind
use Rattle.items.proofs.Cases.{by_quotes, by_backslash, by_hex, by_trim, by_value}
use Rattle.items_r7rs.specs.Repeated.{Many, done}
use Rattle.items_r7rs.specs.Repeated as many
use Rattle.items_r7rs.specs.String.{intraline, Intraline}
use Rattle.items_r7rs.proofs.Quoted.{newline_plain, solid_or_line, quoted_escape, trim_on, line_end_lem, newline_read}
use Rattle.items_r7rs.proofs.Reading.{eats, eats_all, eats_append}
use Rattle.items_decoding.specs.Elements.{Digit, Spells, Solid, Element, itself, escape, hex, unicode, braced, line, Part, written, Elements, none, more}
use Rattle.items_decoding.specs.Elements.{Ends, closing, text_over, Well}
use Rattle.items_decoding.proofs.Letters.{x_is, u_is, blank_is, newline_is, space_is, line_is, solid_is, ends_is, escapes_is, closes_is, no_brace}

-- ---- before elements

module _ (report : Bool) (k : Quotes) where
  hex_on : (closer from n : ℕ) (i : SoFar) (cs : List ℕ) {ds : List ℕ} → Many (Digit k closer) ds
      → read_hex report k closer from n i (ds ++ cs) ≡ read_hex report k closer from n (eats i ds) cs
  unfolding read_quoted
  hex_on closer from n i cs done = refl
  hex_on closer from n i cs (many.more {c = c} h m) = rw (h, read_hex) (hex_on closer from n (eat i c) cs m)

  hex_close : (closer from n : ℕ) (i : SoFar) (cs : List ℕ) {v : ℕ} → in_hex k closer closer ≡ closes → scalar_of (hex_value (drop n i.bytes)) ≡ Ok v
      → read_hex report k closer from n i (closer ∷ cs) ≡ read_quoted report k (eat i closer) cs
  unfolding read_quoted
  hex_close closer from n i cs c e = rw (c, read_hex) (rw e)

  -- the digits that were eaten
  digits_eaten : (i : SoFar) (ds : List ℕ) → drop (length i.bytes) (eats i ds).bytes ≡ bytes_of ds
  digits_eaten i ds = rw (eats_all i ds) (drop_at i.bytes (bytes_of ds) (length i.bytes) refl)

  hex_read : (closer from : ℕ) (i : SoFar) (cs ds : List ℕ) {v : ℕ} → in_hex k closer closer ≡ closes → Many (Digit k closer) ds → Spells ds v
      → read_hex report k closer from (length i.bytes) i (ds ++ (closer ∷ cs)) ≡ read_quoted report k (eat (eats i ds) closer) cs
  hex_read closer from i cs ds {v} c m s =
      hex_on closer from (length i.bytes) i (closer ∷ cs) m
      ∙ hex_close closer from (length i.bytes) (eats i ds) cs {v = v} c (rw (digits_eaten i ds) s)

  -- after `\u`, where no brace follows
  brace_read : (from : ℕ) (i : SoFar) (cs ds : List ℕ) {v : ℕ} → Many (Digit k (code ";")) ds → Spells ds v
      → read_brace report k from i (ds ++ (code ";" ∷ cs)) ≡ read_quoted report k (eat (eats i ds) (code ";")) cs
  unfolding read_quoted hex_value scalar_of bytes_of in_hex
  brace_read from i cs [] done s = impossible cc
  brace_read from i cs (d ∷ ds) {v} (many.more h m) s =
      rw (no_brace d k h, read_brace)
      (rw h
      (hex_on (code ";") from (length i.bytes) (eat i d) (code ";" ∷ cs) m
      ∙ hex_close (code ";") from (length i.bytes) (eats i (d ∷ ds)) cs {v = v} refl (rw (digits_eaten i (d ∷ ds)) s)))

  -- where the next line's text begins, reading is as in quotes
  trim_ends : (i : SoFar) (cs : List ℕ) → Solid cs → read_trim report k true i cs ≡ read_quoted report k i cs
  unfolding read_quoted
  trim_ends i [] h = absurd h
  trim_ends i (c ∷ cs) h =
      by_bool (eqb c (code "\n"))
      (λ e. rw (eqb-true c (code "\n") e) (line_end_lem report k i cs))
      (λ e. rw (solid_or_line c h, e, read_trim))

  -- one element
  passes : {w v : List ℕ} (cs : List ℕ) → Element k cs w v → (i : SoFar) → read_quoted report k i (w ++ cs) ≡ read_quoted report k (eats i w) cs
  unfolding read_quoted after_backslash in_hex
  passes cs (itself h) i = rw (h, read_quoted)
  passes cs (escape {c = c} e) i = quoted_escape report k i (c ∷ cs) ∙ rw (e, read_escape)
  passes cs (hex ds {v = v} m s) i =
      rw (append_assoc ds (codes ";") cs, eats_append (eats i (codes "\\x")) ds (codes ";"))
      (quoted_escape report k i (code "x" ∷ ds ++ (code ";" ∷ cs)) ∙ hex_read (code ";") i.at (eats i (codes "\\x")) cs ds {v = v} refl m s)
  passes cs (unicode ds {v = v} m s) i =
      rw (append_assoc ds (codes ";") cs, eats_append (eats i (codes "\\u")) ds (codes ";"))
      (quoted_escape report k i (code "u" ∷ ds ++ (code ";" ∷ cs)) ∙ brace_read i.at (eats i (codes "\\u")) cs ds {v = v} m s)
  passes cs (braced ds {v = v} m s) i =
      rw (append_assoc ds (codes "}") cs, eats_append (eats i (codes "\\u{")) ds (codes "}"))
      (quoted_escape report k i (codes "u{" ++ (ds ++ (code "}" ∷ cs))) ∙ hex_read (code "}") i.at (eats i (codes "\\u{")) cs ds {v = v} refl m s)
  passes cs (line u w m n h) i =
      let j : SoFar = eat i (code "\\") in
      let l : SoFar = eat (eats j u) (code "\n") in
      rw (append_assoc u (code "\n" ∷ w) cs, eats_append j u (code "\n" ∷ w))
      (quoted_escape report k i (u ++ (code "\n" ∷ w ++ cs))
      ∙ (newline_read report k i.at j (w ++ cs) m
      ∙ (trim_on report k true l cs n ∙ trim_ends (eats l w) cs h)))

  -- THE READER PASSES THE ELEMENTS: whatever elements stand before `after`, it goes on at `after`, with these in the item.
  pub reads_through : {after : List ℕ} {ps : List Part} → Elements k after ps → (i : SoFar)
      → read_quoted report k i (written ps ++ after) ≡ read_quoted report k (eats i (written ps)) after
  unfolding written
  reads_through none i = refl
  reads_through {after} (more {p = p} {ps = ps} e es) i =
      rw (append_assoc p.written (written ps) after, eats_append i p.written (written ps))
      (passes (written ps ++ after) e i ∙ reads_through es (eats i p.written))

-- ---- only elements

-- some characters are elements up to an end
pub record Seen (k : Quotes) (cs : List ℕ) : Type 0 where
  pub parts : List Part
  pub after : List ℕ
  pub elements : Elements k after parts
  pub ends : Ends k after
  pub text : written parts ++ after ≡ cs

module _ (k : Quotes) where
  at_end_case : (after : List ℕ) → Ends k after → Seen k after
  unfolding written
  at_end_case after h = record { parts = []; after = after; elements = none; ends = h; text = refl }

  with_element : {w v cs all : List ℕ} → Element k cs w v → Seen k cs → w ++ cs ≡ all → Seen k all
  unfolding written
  with_element {w} {v} {cs} e s q = record {
    parts = record { written = w; value = v } ∷ s.parts;
    after = s.after;
    elements = more (subst (λ (l : List ℕ). Element k l w v) (sym s.text) e) s.elements;
    ends = s.ends;
    text = append_assoc w (written s.parts) s.after ∙ ap (λ (l : List ℕ). w ++ l) s.text ∙ q;
  }

over : (k : Quotes) (raw : List ℕ) → Well (unclosed k raw) → Seen k []
over Double raw h = absurd h
over Lines raw h = at_end_case Lines [] (text_over refl)

not_cut : (k : Quotes) → Well (cut k) → ⊥
not_cut Double h = h
not_cut Lines h = h

-- hex digits ds and more of them, up to their closer, and what follows
record Closed (k : Quotes) (closer : ℕ) (ds cs : List ℕ) : Type 0 where
  others : List ℕ
  value : ℕ
  digits : Many (Digit k closer) (ds ++ others)
  spells : Spells (ds ++ others) value
  behind : List ℕ
  seen : Seen k behind
  text : others ++ (closer ∷ behind) ≡ cs

-- blanks up to the text of the next line
record Indented (k : Quotes) (cs : List ℕ) : Type 0 where
  indent : List ℕ
  blanks : Many Intraline indent
  behind : List ℕ
  solid : Solid behind
  seen : Seen k behind
  text : indent ++ behind ≡ cs

-- blanks up to the newline, and those of the next line
record Trailing (k : Quotes) (cs : List ℕ) : Type 0 where
  trailing : List ℕ
  blanks : Many Intraline trailing
  behind : List ℕ
  next : Indented k behind
  text : trailing ++ (code "\n" ∷ behind) ≡ cs

abbrev Trimmed : Bool → Quotes → List ℕ → Type 0
Trimmed true k cs = Indented k cs
Trimmed false k cs = Trailing k cs

many_snoc : {T : ℕ → Type 0} {ds : List ℕ} {c : ℕ} → Many T ds → T c → Many T (ds ++ (c ∷ []))
many_snoc done h = many.more h done
many_snoc (many.more g m) h = many.more g (many_snoc m h)

-- one digit more
with_digit : (k : Quotes) (closer : ℕ) (ds : List ℕ) (c : ℕ) (cs : List ℕ) → Closed k closer (ds ++ (c ∷ [])) cs → Closed k closer ds (c ∷ cs)
with_digit k closer ds c cs z = record {
  others = c ∷ z.others;
  value = z.value;
  digits = subst (Many (Digit k closer)) (append_assoc ds (c ∷ []) z.others) z.digits;
  spells = subst (λ (l : List ℕ). Spells l z.value) (append_assoc ds (c ∷ []) z.others) z.spells;
  behind = z.behind;
  seen = z.seen;
  text = ap (λ (l : List ℕ). c ∷ l) z.text;
}

with_blank : (k : Quotes) (seen : Bool) (c : ℕ) (cs : List ℕ) → Intraline c → Trimmed seen k cs → Trimmed seen k (c ∷ cs)
with_blank k true c cs h z = record {
  indent = c ∷ z.indent;
  blanks = many.more h z.blanks;
  behind = z.behind;
  solid = z.solid;
  seen = z.seen;
  text = ap (λ (l : List ℕ). c ∷ l) z.text;
}
with_blank k false c cs h z = record {
  trailing = c ∷ z.trailing;
  blanks = many.more h z.blanks;
  behind = z.behind;
  next = z.next;
  text = ap (λ (l : List ℕ). c ∷ l) z.text;
}

-- a line that goes on, and what follows it
goes_on : (k : Quotes) (trailing cs : List ℕ) {all : List ℕ} → Many Intraline trailing → Indented k cs → trailing ++ (code "\n" ∷ cs) ≡ all → Seen k (code "\\" ∷ all)
goes_on k trailing cs m z q =
    with_element k (line trailing z.indent m z.blanks z.solid) z.seen
    (ap (λ (l : List ℕ). code "\\" ∷ l)
    (append_assoc trailing (code "\n" ∷ z.indent) z.behind ∙ ap (λ (l : List ℕ). trailing ++ (code "\n" ∷ l)) z.text ∙ q))

-- hex digits up to their closer make an element, by what stands before them
of_hex : (k : Quotes) (cs : List ℕ) → Closed k (code ";") [] cs → Seen k (codes "\\x" ++ cs)
of_hex k cs z =
    with_element k (hex z.others z.digits z.spells) z.seen
    (ap (λ (l : List ℕ). codes "\\x" ++ l) (append_assoc z.others (codes ";") z.behind ∙ z.text))

of_brace : (k : Quotes) (cs : List ℕ) → Closed k (code "}") [] cs → Seen k (codes "\\u{" ++ cs)
of_brace k cs z =
    with_element k (braced z.others z.digits z.spells) z.seen
    (ap (λ (l : List ℕ). codes "\\u{" ++ l) (append_assoc z.others (codes "}") z.behind ∙ z.text))

of_unicode : (k : Quotes) (c : ℕ) (cs : List ℕ) → Closed k (code ";") (c ∷ []) cs → Seen k (codes "\\u" ++ (c ∷ cs))
of_unicode k c cs z =
    with_element k (unicode (c ∷ z.others) z.digits z.spells) z.seen
    (ap (λ (l : List ℕ). codes "\\u" ++ (c ∷ l)) (append_assoc z.others (codes ";") z.behind ∙ z.text))

-- the next line's text begins at once
unindented : (k : Quotes) (c : ℕ) (cs : List ℕ) → one_of intraline c ≡ false → Seen k (c ∷ cs) → Indented k (c ∷ cs)
unindented k c cs h z = record { indent = []; blanks = done; behind = c ∷ cs; solid = h; seen = z; text = refl }

newline_itself : (k : Quotes) (c : ℕ) → c ≡ code "\n" → in_quotes k c ≡ plain
newline_itself k c e = ap (in_quotes k) e ∙ newline_plain k

-- a hex escape that fails is an error in both modes
failing_ill : (report : Bool) (e d from to at : ℕ) (rest : List ℕ) → Well (failing report e d from to at rest) → ⊥
failing_ill true e d from to at rest h = h
failing_ill false e d from to at rest h = h

module _ (report : Bool) (k : Quotes) where
  mutual
    unfolding read_quoted bytes_of

    quoted_seen : (i : SoFar) (cs : List ℕ) → Well (read_quoted report k i cs).what → Seen k cs
    quoted_seen i [] h = over k i.bytes h
    quoted_seen i (c ∷ cs) h = by_quotes (in_quotes k c)
        (λ e. rw (ends_is c k e) (at_end_case k (delim_of k ∷ cs) (closing cs)))
        (λ e. subst (λ (x : ℕ). Seen k (x ∷ cs)) (sym (escapes_is c k e)) (escape_seen i.at (eat i c) cs (rw (e, read_quoted) at h)))
        (λ e. with_element k (itself e) (quoted_seen (eat i c) cs (rw (e, read_quoted) at h)) refl)

    escape_seen : (from : ℕ) (i : SoFar) (cs : List ℕ) → Well (read_escape report k from i cs).what → Seen k (code "\\" ∷ cs)
    escape_seen from i [] h = absurd (not_cut k h)
    escape_seen from i (c ∷ cs) h = by_backslash (after_backslash c)
        (λ x e. with_element k (escape e) (quoted_seen (eat i c) cs (rw (e, read_escape) at h)) refl)
        (λ e. subst (λ (x : ℕ). Seen k (code "\\" ∷ x ∷ cs)) (sym (x_is c e))
        (of_hex k cs (hex_seen (code ";") from (eat i c).bytes (eat i c) [] (sym (append-nil (eat i c).bytes)) done cs (rw (e, read_escape) at h))))
        (λ e. subst (λ (x : ℕ). Seen k (code "\\" ∷ x ∷ cs)) (sym (u_is c e)) (brace_seen from (eat i c) cs (rw (e, read_escape) at h)))
        (λ e. let z = trim_seen false (eat i c) cs (rw (e, read_escape) at h) in
        goes_on k (c ∷ z.trailing) z.behind (many.more (blank_is c e) z.blanks) z.next (ap (λ (l : List ℕ). c ∷ l) z.text))
        (λ e. let z = trim_seen true (eat i c) cs (rw (e, read_escape) at h) in
        goes_on k [] cs done z (ap (λ (x : ℕ). x ∷ cs) (sym (newline_is c e))))
        (λ e. absurd (rw (e, read_escape) at h))

    brace_seen : (from : ℕ) (i : SoFar) (cs : List ℕ) → Well (read_brace report k from i cs).what → Seen k (codes "\\u" ++ cs)
    brace_seen from i [] h = absurd (not_cut k h)
    brace_seen from i (c ∷ cs) h = by_bool (eqb c (code "{"))
        (λ e. subst (λ (x : ℕ). Seen k (codes "\\u" ++ (x ∷ cs))) (sym (eqb-true c (code "{") e))
        (of_brace k cs (hex_seen (code "}") from (eat i c).bytes (eat i c) [] (sym (append-nil (eat i c).bytes)) done cs (rw (e, read_brace) at h))))
        (λ e. let g = rw (e, read_brace) at h in
        by_hex (in_hex k (code ";") c)
        (λ f. absurd (failing_ill report kind.InvalidHexEscapeLiteral nothing from (eat i c).at i.at [] (rw f at g)))
        (λ f. absurd (rw f at g))
        (λ f. of_unicode k c cs
        (hex_seen (code ";") from i.bytes (eat i c) (c ∷ []) (ap (λ (l : List ℕ). i.bytes ++ l) (sym (append-nil (utf8 c)))) (many.more f done) cs (rw f at g))))

    hex_seen : (closer from : ℕ) (pre : List ℕ) (i : SoFar) (ds : List ℕ) → i.bytes ≡ pre ++ bytes_of ds → Many (Digit k closer) ds
        → (cs : List ℕ) → Well (read_hex report k closer from (length pre) i cs).what
        → Closed k closer ds cs
    hex_seen closer from pre i ds q m [] h = absurd (not_cut k h)
    hex_seen closer from pre i ds q m (c ∷ cs) h =
        let eaten : drop (length pre) i.bytes ≡ bytes_of ds = ap (drop (length pre)) q ∙ drop_at pre (bytes_of ds) (length pre) refl in
        by_hex (in_hex k closer c)
        (λ e. let g = rw (e, read_hex) at h in
        by_value (scalar_of (hex_value (drop (length pre) i.bytes)))
        (λ v f. record {
          others = [];
          value = v;
          digits = subst (Many (Digit k closer)) (sym (append-nil ds)) m;
          spells = ap (λ (l : List ℕ). scalar_of (hex_value (bytes_of l))) (append-nil ds) ∙ ap (λ (l : List ℕ). scalar_of (hex_value l)) (sym eaten) ∙ f;
          behind = cs;
          seen = quoted_seen (eat i c) cs (rw f at g);
          text = ap (λ (x : ℕ). x ∷ cs) (sym (closes_is c k closer e));
        })
        (λ n d f. absurd (rw f at g))
        (λ n d p f. absurd (failing_ill report n d from (eat i c).at (i.at - length (drop p (drop (length pre) i.bytes))) (drop p (drop (length pre) i.bytes)) (rw f at g))))
        (λ e. absurd (rw (e, read_hex) at h))
        (λ e. with_digit k closer ds c cs
        (hex_seen closer from pre (eat i c) (ds ++ (c ∷ []))
        (ap (λ (l : List ℕ). l ++ utf8 c) q ∙ append_assoc pre (bytes_of ds) (utf8 c) ∙ ap (λ (l : List ℕ). pre ++ l) (sym (bytes_snoc ds c)))
        (many_snoc m e) cs (rw (e, read_hex) at h)))

    trim_seen : (seen : Bool) (i : SoFar) (cs : List ℕ) → Well (read_trim report k seen i cs).what → Trimmed seen k cs
    trim_seen seen i [] h = absurd (not_cut k h)
    trim_seen true i (c ∷ cs) h = by_trim (in_trim c)
        (λ e. with_blank k true c cs (space_is c e) (trim_seen true (eat i c) cs (rw (e, read_trim) at h)))
        (λ e. unindented k c cs (line_is c e).1
        (with_element k (itself (newline_itself k c (line_is c e).0)) (quoted_seen (eat i c) cs (rw (e, read_trim) at h)) refl))
        (λ e. let g = rw (e, read_trim) at h in
        unindented k c cs (solid_is c e)
        (by_quotes (in_quotes k c)
        (λ f. rw (ends_is c k f) (at_end_case k (delim_of k ∷ cs) (closing cs)))
        (λ f. subst (λ (x : ℕ). Seen k (x ∷ cs)) (sym (escapes_is c k f)) (escape_seen i.at (eat i c) cs (rw f at g)))
        (λ f. with_element k (itself f) (quoted_seen (eat i c) cs (rw f at g)) refl)))
    trim_seen false i (c ∷ cs) h = by_trim (in_trim c)
        (λ e. with_blank k false c cs (space_is c e) (trim_seen false (eat i c) cs (rw (e, read_trim) at h)))
        (λ e. record {
          trailing = [];
          blanks = done;
          behind = cs;
          next = trim_seen true (eat i c) cs (rw (e, read_trim) at h);
          text = ap (λ (x : ℕ). x ∷ cs) (sym (line_is c e).0);
        })
        (λ e. absurd (rw (e, read_trim) at h))

  -- ONLY ELEMENTS ARE READ WITHOUT AN ERROR: what such an item has is a list of them, up to an end.
  pub well_read : (i : SoFar) (cs : List ℕ) → Well (read_quoted report k i cs).what → Seen k cs
  well_read = quoted_seen
