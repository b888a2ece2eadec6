-- Every identifier (specs/Names). One that begins with a vertical line has the elements and the text that `Lines` says; of any other the characters are
-- a name's, as `Tame` and `Names` say, and its text is the extent or, where that begins with a plus, a part of it.
use Prim.Native.Nat.{ℕ, ◌+◌, ◌-◌, ◌<◌}
use mathlib.Core.Path.{◌≡◌, refl, sym, ap, subst, ◌∙◌}
use mathlib.Core.Bool.{Bool, true, false, ◌&&◌}
use mathlib.Core.List.{List, [], ◌∷◌, ◌++◌, append_assoc, append-nil}
use lib.ListN.{length, get_or, drop, length-append}
use lib.Seq.{take_all}
use lib.Dec.{eqb, leb, ltb}
use native.Mathlib.Omega.{arith}
use borrow.Author.Tests.{eqb-true, ltb-true, lt-ltb, leb-false}
use Rattle.std.specs.Prelude.{if◌then◌else◌}
use Rattle.laws.specs.Quoted.{codes, code}
use Rattle.laws.proofs.Choice.{by_bool, no_yes, and_true, and_no}
use Rattle.chars.specs.Encode.{utf8, width, bytes_of}
use Rattle.chars.proofs.Bytes.{bytes_append}
use Rattle.items.specs.declared.Outcome.{Outcome}
use Rattle.items.specs.declared.Outcome.TheVariants.{Lined}
use Rattle.items.specs.declared.Quotes.TheVariants.{Lines}
use Rattle.items.specs.Items.{Item, items, byte_count}
use Rattle.items.specs.Kinds as kind
use Rattle.items.specs.Meaning.{Text, source, decoded, Meaning, means, escaped, lined_text, meaning_of}
use Rattle.items.specs.Readers.{Read, so_far, got, first_is, last_is, lined_of, read_item}
use Rattle.items.proofs.Every.{Every}
use Rattle.items.proofs.Splits.{read_at, length_bytes}
use Rattle.items_coverage.proofs.Bytes.{first_char}
use Rattle.items_r7rs.specs.Identifier.{Unsplit, SymbolElements, empty, some, lined}
use Rattle.items_r7rs.specs.Identifier as identifier
use Rattle.items_r7rs.specs.Reading.{bytes, spelling}
use Rattle.items_r7rs.proofs.Back.{last_behind, last_of, same_front}
use Rattle.items_r7rs.proofs.Between.{between, between_unescaped, spells_between}
use Rattle.items_r7rs.proofs.Bytes.{bytes_some, first_differs, spells_whole}
use Rattle.items_r7rs.proofs.Lined.{elements, lined_text_lem, lined_spells, named}
use Rattle.items_r7rs.proofs.Words.{split}
use Rattle.items_r7rs_words.proofs.Readings.{In, every_in, OneRead, of_reads}
use Rattle.items_r7rs_words.proofs.Words.{NameText, known}
use Rattle.items_r7rs_words.proofs.Words as words
use Rattle.items_decoding.specs.Elements.{Ends, closing, text_over, closer, Well, Decoded, written, value}
use Rattle.items_decoding.proofs.Decoding.{same_way}
use Rattle.items_decoding.proofs.Decoding as decoding
use Rattle.items_r7rs_names.specs.Names.{Name, ForeignEscape, NameRead, IdentifierIn}
use Rattle.items_r7rs_names.specs.Names as read
use Rattle.items_r7rs_names.proofs.Lines.{Inside, inside, LineLast, line_last}
use Rattle.items_r7rs_names.proofs.Lines as lines
use Rattle.items_r7rs_names.proofs.Names.{Tame, name_of}
use Rattle.items_r7rs_names.proofs.Tame.{quoted_what, well, tame_item}

-- ---- in vertical lines

-- what follows a foreign escape does not matter
escape_on : {t : List ℕ} (u : List ℕ) → ForeignEscape t → ForeignEscape (t ++ u)
escape_on u read.null = read.null
escape_on u read.unicode = read.unicode
escape_on u read.ForeignEscape.plus = read.ForeignEscape.plus

-- a backslash is an escape
escape_there : (a b : List ℕ) → escaped (a ++ (code "\\" ∷ b)) ≡ true
unfolding escaped
escape_there [] b = refl
escape_there (x ∷ a) b = by_bool (eqb x (code "\\")) (λ e. rw e) (λ e. rw e (escape_there a b))

module _ (rest : List ℕ) (s : ℕ) where
  -- closed by a line: its text, and what that spells
  abbrev Closed : List ℕ → Type 0
  Closed u = NameRead rest (between Lines u) (spelling s (bytes_of (between Lines u)) (lined_text_lem u s))

  remaining : {u : List ℕ} (x : ℕ) {v : List ℕ} → SymbolElements u (x ∷ v) → Closed u
  remaining {u} x {v} h =
      subst (NameRead rest (between Lines u)) (sym (lined_spells u (elements h) (named (some {x = x} {t = u} {v = v})) s)) (read.lined (lined h some))

  nothing : {c : ℕ} {t : List ℕ} → SymbolElements (c ∷ t) [] → Closed (c ∷ t)
  unfolding lined_text bytes_of
  nothing {c} {t} h =
      let u : List ℕ = c ∷ t in
      let raw : List ℕ = bytes_of (between Lines u) in
      let is : lined_text_lem u s ≡ source (s + 1) (s + byte_count (between Lines u) - 1) = rw (between_unescaped Lines (elements h), and_no (escaped raw)) in
      subst (NameRead rest (between Lines u)) (sym (ap (spelling s raw) is ∙ spells_between Lines s u)) (read.nothing_left h)

  closed_name : {u v : List ℕ} → SymbolElements u v → Closed u
  closed_name {u} {v} h = by_name u v h
    where
      by_name : (u v : List ℕ) → SymbolElements u v → Closed u
      by_name u (x ∷ v) h = remaining x h
      by_name (c ∷ t) [] h = nothing h
      by_name [] [] h = subst (NameRead rest (between Lines [])) (sym (lined_spells [] (elements h) (named empty) s)) (read.lined (lined h empty))

  -- closed by the end of the text
  last_name : {u v : List ℕ} → LineLast u v → rest ≡ []
      → NameRead rest (code "|" ∷ u) (spelling s (bytes_of (code "|" ∷ u))
      (if escaped (bytes_of (code "|" ∷ u)) && ltb 0 (length (bytes_of v)) then decoded (bytes_of v) else source (s + 1) (s + byte_count (code "|" ∷ u) - 1)))
  unfolding bytes_of utf8
  last_name (lines.escaped u {v = v} h) e =
      let has : escaped (bytes_of (code "|" ∷ u ++ codes "\\|")) ≡ true = ap (λ (l : List ℕ). escaped (code "|" ∷ l)) (bytes_append u (codes "\\|")) ∙ escape_there (code "|" ∷ bytes_of u) (codes "|") in
      let long : ltb 0 (length (bytes_of (v ++ codes "|"))) ≡ true = lt-ltb 0 (length (bytes_of (v ++ codes "|")))
      (omega (arith, ap length (bytes_append v (codes "|")), length-append (bytes_of v) (codes "|"))) in
      rw (has, long) (read.escaped_line u e h)

-- an end, and what is left behind it
after_split : {after : List ℕ} → Ends Lines after → after ≡ closer after ++ drop 1 after
after_split (closing rest) = refl
after_split (text_over e) = refl

-- a word in lines that is no error is an identifier, has more than its first line, and ends in one
lined_well : (b : List ℕ) → Well (lined_of (code "|" ∷ b)) → (lined_of (code "|" ∷ b) ≡ Lined) × (last_is (code "|") (code "|" ∷ b) ≡ true) × (leb (length (code "|" ∷ b)) 1 ≡ false)
unfolding lined_of
lined_well b w =
    by_bool (leb (length (code "|" ∷ b)) 1)
    (λ e. absurd (rw e at w))
    (λ e. by_bool (last_is (code "|") (code "|" ∷ b)) (λ f. rw (e, f) (refl, refl, refl)) (λ f. absurd (rw (e, f) at w)))

-- the last of more than one
last_there : (u : List ℕ) → last_is (code "|") (bytes_of (code "|" ∷ u)) ≡ true → leb (length (bytes_of (code "|" ∷ u))) 1 ≡ false → (h : List ℕ) × (u ≡ h ++ codes "|")
unfolding bytes_of utf8
last_there [] h l = absurd (omega (arith, leb-false 1 1 l))
last_there (c ∷ u) h l =
    let more : 0 < length (bytes_of (c ∷ u)) = ltb-true 0 (length (bytes_of (c ∷ u))) (bytes_some c u) in
    last_of (code "|") (omega arith) refl (c ∷ u) (sym (last_behind (code "|") (codes "|") (bytes_of (c ∷ u)) more) ∙ h)

module _ (report : Bool) (s e : ℕ) (t rest : List ℕ) (what : Outcome) (m : Meaning) (k : eqb m.kind kind.Identifier ≡ true) where
  module _ (meant : In m (meaning_of report what s e (bytes_of (code "|" ∷ t))))
      (h : read_item report s (code "|") (t ++ rest) ≡ got what (so_far (bytes_of (code "|" ∷ t)) e) rest) where
    abbrev raw : List ℕ
    raw = bytes_of (code "|" ∷ t)

    abbrev cs : List ℕ
    cs = t ++ rest

    abbrev Found : Type 0
    Found = NameRead rest (code "|" ∷ t) (spelling s raw m.text)

    decoded_so : Decoded Lines cs (read_item report s (code "|") cs)
    decoded_so = same_way report Lines s cs (subst (λ (r : Read). Well r.what) (sym h) (well report s e raw rest what m meant k))

    said : what ≡ lined_of raw
    said =
        sym (ap (λ (r : Read). r.what) h) ∙ quoted_what report Lines s cs decoded_so ∙ ap (λ (r : Read). lined_of r.item.bytes) h

    ended : (lined_of raw ≡ Lined) × (last_is (code "|") raw ≡ true) × (leb (length raw) 1 ≡ false)
    unfolding bytes_of utf8
    ended = lined_well (bytes_of t) (subst Well said (well report s e raw rest what m meant k))

    text_is : m.text ≡ lined_text s e raw
    text_is =
        every_in (λ (n : Meaning). n.text ≡ lined_text s e raw) (refl, tt)
        (subst (λ (o : Outcome). In m (meaning_of report o s e raw)) (said ∙ ended.0) meant)

    end_is : e ≡ s + byte_count (code "|" ∷ t)
    end_is =
        sym (ap (λ (r : Read). r.item.at) h) ∙ read_at report s (code "|") cs
        ∙ ap (λ (r : Read). s + length r.item.bytes) h ∙ ap (λ (n : ℕ). s + n) (length_bytes (code "|" ∷ t))

    -- its characters are its elements' and what closes them
    chars_are : t ≡ written decoded_so.parts ++ closer decoded_so.after
    chars_are =
        let d : Decoded Lines cs (read_item report s (code "|") cs) = decoded_so in
        let left : drop 1 d.after ≡ rest = sym d.rest ∙ ap (λ (r : Read). r.rest) h in
        same_front t (written d.parts ++ closer d.after) rest
        (sym d.text ∙ ap (λ (l : List ℕ). written d.parts ++ l) (after_split d.ends ∙ ap (λ (l : List ℕ). closer d.after ++ l) left)
        ∙ sym (append_assoc (written d.parts) (closer d.after) rest))

    -- by its elements and its end
    by_end : {u b after : List ℕ} → Inside u b → Ends Lines after → t ≡ u ++ closer after → drop 1 after ≡ rest
        → lined_text s e raw ≡ (if escaped raw && ltb 0 (length b) then decoded b else source (s + 1) (e - 1)) → Found
    by_end {after = after} (lines.foreign u {t = f} i d) end c l x =
        subst (λ (l : List ℕ). NameRead rest (code "|" ∷ l) (spelling s raw m.text)) (sym (c ∙ append_assoc u f (closer after)))
        (read.foreign_escape u i (escape_on (closer after) d))
    by_end (lines.all {u = u} i) (closing r) c l x =
        let all : code "|" ∷ t ≡ between Lines u = ap (λ (l : List ℕ). code "|" ∷ l) c in
        let text : m.text ≡ lined_text s (s + byte_count (code "|" ∷ t)) raw = text_is ∙ ap (λ (n : ℕ). lined_text s n raw) end_is in
        subst (λ (x : Text). NameRead rest (code "|" ∷ t) (spelling s raw x)) (sym text)
        (subst (λ (l : List ℕ). NameRead rest l (spelling s (bytes_of l) (lined_text s (s + byte_count l) (bytes_of l)))) (sym all) (closed_name rest s i))
    by_end (lines.all {u = u} {v = v} i) (text_over z) c l x =
        let all : t ≡ u = c ∙ append-nil u in
        let there : (h : List ℕ) × (u ≡ h ++ codes "|")
        = subst (λ (l : List ℕ). (h : List ℕ) × (l ≡ h ++ codes "|")) all (last_there t ended.1 ended.2) in
        let text : m.text ≡ (if escaped raw && ltb 0 (length (bytes_of v)) then decoded (bytes_of v) else source (s + 1) (s + byte_count (code "|" ∷ t) - 1))
        = text_is ∙ x ∙ ap (λ (n : ℕ). if escaped raw && ltb 0 (length (bytes_of v)) then decoded (bytes_of v) else source (s + 1) (n - 1)) end_is in
        subst (λ (x : Text). NameRead rest (code "|" ∷ t) (spelling s raw x)) (sym text)
        (subst (λ (w : List ℕ). NameRead rest (code "|" ∷ w) (spelling s (bytes_of (code "|" ∷ w))
        (if escaped (bytes_of (code "|" ∷ w)) && ltb 0 (length (bytes_of v)) then decoded (bytes_of v) else source (s + 1) (s + byte_count (code "|" ∷ w) - 1))))
        (sym all) (last_name rest s (line_last i there.0 there.1) (sym l)))

    lined_item : Found
    lined_item =
        let d : Decoded Lines cs (read_item report s (code "|") cs) = decoded_so in
        let r : Read = read_item report s (code "|") cs in
        let text : lined_text s e raw ≡ (if escaped raw && ltb 0 (length (value d.parts)) then decoded (value d.parts) else source (s + 1) (e - 1))
        = ap (λ (r : Read). lined_text s e r.item.bytes) (sym h) ∙ decoding.lined_text_lem s e r d
        ∙ ap (λ (r : Read). if escaped r.item.bytes && ltb 0 (length (value d.parts)) then decoded (value d.parts) else source (s + 1) (e - 1)) h in
        by_end (inside d.elements) d.ends chars_are (sym d.rest ∙ ap (λ (r : Read). r.rest) h) text

-- ---- all others

-- what a name's text spells
module _ (rest : List ℕ) (s e c : ℕ) (t : List ℕ) (end : e ≡ s + byte_count (c ∷ t)) (n : Name (c ∷ t)) where
  abbrev Spelt : Text → Type 0
  Spelt x = NameRead rest (c ∷ t) (spelling s (bytes_of (c ∷ t)) x)

  whole_name : Unsplit (c ∷ t) → Spelt (source s e)
  whole_name u = subst (NameRead rest (c ∷ t)) (sym (ap (λ (n : ℕ). spelling s (bytes_of (c ∷ t)) (source s n)) end ∙ spells_whole s (c ∷ t))) (read.named n u)

-- a plus, by its byte
plus_first : (c : ℕ) (t : List ℕ) → first_is (code "+") (bytes_of (c ∷ t)) ≡ true → c ≡ code "+"
unfolding bytes_of
plus_first c t h = first_char (code "+") (omega arith) c (bytes_of t) (eqb-true (get_or (utf8 c ++ bytes_of t) 0 0) (code "+") h)

more_behind : (d : ℕ) (t : List ℕ) → split (bytes_of (code "+" ∷ d ∷ t)) ≡ true
unfolding bytes_of utf8
more_behind d t = lt-ltb 1 (length (bytes_of (code "+" ∷ d ∷ t))) (omega (arith, ltb-true 0 (length (bytes_of (d ∷ t))) (bytes_some d t)))

unsplit : (c : ℕ) (t : List ℕ) → split (bytes_of (c ∷ t)) ≡ false → Unsplit (c ∷ t)
unsplit c t g = by_bool (eqb c (code "+")) (λ e. plus_alone t (eqb-true c (code "+") e) g) (λ e. identifier.other e)
  where
    plus_alone : (t : List ℕ) → c ≡ code "+" → split (bytes_of (c ∷ t)) ≡ false → Unsplit (c ∷ t)
    plus_alone [] e g = subst (λ (n : ℕ). Unsplit (n ∷ [])) (sym e) identifier.plus
    plus_alone (d ∷ t) e g = no_yes (sym (subst (λ (n : ℕ). split (bytes_of (n ∷ d ∷ t)) ≡ false) e g) ∙ more_behind d t)

module _ (rest : List ℕ) (s e d : ℕ) (t : List ℕ) (end : e ≡ s + byte_count (code "+" ∷ d ∷ t)) (n : Name (code "+" ∷ d ∷ t)) where
  plus_name : Spelt rest s e (code "+") (d ∷ t) end n (source s (s + 1))
  unfolding bytes_of utf8
  plus_name =
      let one : s + 1 - s ≡ 1 = omega arith in
      let none : s - s ≡ 0 = omega arith in
      rw (one, none) (read.plus n)

  behind_name : Spelt rest s e (code "+") (d ∷ t) end n (source (s + 1) e)
  unfolding bytes_of utf8 width
  behind_name =
      let one : s + 1 - s ≡ 1 = omega arith in
      let long : length (bytes_of (d ∷ t)) ≡ byte_count (d ∷ t) = length_bytes (d ∷ t) in
      rw one (rw (take_all (e - (s + 1)) (bytes_of (d ∷ t)) (omega (arith, long, end))) (read.behind_plus n))

module _ (rest : List ℕ) (s e : ℕ) where
  abbrev Splits : ℕ → List ℕ → Type 0
  Splits c t =
      (end : e ≡ s + byte_count (c ∷ t)) (n : Name (c ∷ t)) → split (bytes_of (c ∷ t)) ≡ true
      → Spelt rest s e c t end n (source s (s + 1)) × Spelt rest s e c t end n (source (s + 1) e)

  two_plus : (t : List ℕ) → Splits (code "+") t
  unfolding bytes_of utf8
  two_plus [] end n g = no_yes g
  two_plus (d ∷ t) end n g = (plus_name rest s e d t end n, behind_name rest s e d t end n)

  two_names : (c : ℕ) (t : List ℕ) → Splits c t
  two_names c t end n g =
      subst (λ (x : ℕ). Splits x t) (sym (plus_first c t (and_true (first_is (code "+") (bytes_of (c ∷ t))) (ltb 1 (length (bytes_of (c ∷ t)))) g).0)) (two_plus t) end n g

  spelt_so : (c : ℕ) (t : List ℕ) (end : e ≡ s + byte_count (c ∷ t)) (n : Name (c ∷ t)) → eqb c (code "|") ≡ false → {x : Text} → NameText s e (bytes_of (c ∷ t)) x
      → Spelt rest s e c t end n x
  spelt_so c t end n b (words.whole g) = whole_name rest s e c t end n (unsplit c t g)
  spelt_so c t end n b (words.plus g) = (two_names c t end n g).0
  spelt_so c t end n b (words.behind_plus g) = (two_names c t end n g).1
  spelt_so c t end n b (words.lined g) = no_yes (sym (first_differs (code "|") c t refl b) ∙ g)

-- ---- every item

-- EVERY IDENTIFIER of every text, in both modes.
pub identifier_items : (report : Bool) (cs : List ℕ) → Every (IdentifierIn (bytes_of cs)) (items report cs)
identifier_items report cs = of_reads report cs (IdentifierIn (bytes_of cs)) (λ i z k. (z.first ∷ z.more, z.rest, z.bytes, z.left, is_name i z k))
  where
    is_name : (i : Item) (z : OneRead report (bytes_of cs) i) → eqb i.kind kind.Identifier ≡ true
        → NameRead z.rest (z.first ∷ z.more) (spelling i.start (bytes_of (z.first ∷ z.more)) i.text)
    is_name i z k = by_bool (eqb z.first (code "|")) (λ e. in_lines z.first (eqb-true z.first (code "|") e) z.meant z.read) no_lines
      where
        m : Meaning
        m = means i.kind i.detail i.text

        in_lines : (c : ℕ) → c ≡ code "|" → In m (meaning_of report z.what i.start i.end (bytes_of (c ∷ z.more)))
            → read_item report i.start c (z.more ++ z.rest) ≡ got z.what (so_far (bytes_of (c ∷ z.more)) i.end) z.rest
            → NameRead z.rest (c ∷ z.more) (spelling i.start (bytes_of (c ∷ z.more)) i.text)
        in_lines c e =
            subst (λ (c : ℕ). In m (meaning_of report z.what i.start i.end (bytes_of (c ∷ z.more)))
            → read_item report i.start c (z.more ++ z.rest) ≡ got z.what (so_far (bytes_of (c ∷ z.more)) i.end) z.rest
            → NameRead z.rest (c ∷ z.more) (spelling i.start (bytes_of (c ∷ z.more)) i.text)) (sym e)
            (λ meant h. lined_item report i.start i.end z.more z.rest z.what m k meant h)

        no_lines : eqb z.first (code "|") ≡ false → NameRead z.rest (z.first ∷ z.more) (spelling i.start (bytes_of (z.first ∷ z.more)) i.text)
        no_lines b =
            let t : List ℕ = z.first ∷ z.more in
            let tame : Tame t = tame_item report i.start i.end (bytes_of t) z.rest z.what m z.meant k z.first z.more z.solid b z.read in
            let told = (known z).name k in
            let n : Name t = name_of tame (omega arith) (λ d. told.0 (ap bytes_of d)) in
            spelt_so z.rest i.start i.end z.first z.more z.ends n b told.1
