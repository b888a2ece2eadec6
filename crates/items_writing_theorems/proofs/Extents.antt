-- The items of an extent of a text may be written back.
use Rattle.std.proofs.Common.{Ok, Err, Result}
use Prim.Native.Nat.{ℕ, suc, ◌+◌, ◌-◌, ◌≤◌, ◌<◌}
use mathlib.Core.Path.{◌≡◌, refl, sym, ap, subst, ◌∙◌}
use mathlib.Core.Bool.{Bool, true, false, ◌&&◌}
use mathlib.Core.List.{List, [], ◌∷◌, ◌++◌}
use lib.ListN.{length, take, drop, length-drop}
use lib.Dec.{eqb, leb, ltb}
use native.Mathlib.Omega.{arith}
use Rattle.laws.specs.Quoted.{code, codes, within}
use Rattle.laws.specs.Texts.{before}
use Rattle.laws.proofs.Choice.{by_bool, and_true, if_is}
use Rattle.chars.specs.Encode.{is_scalar, utf8, bytes_of}
use Rattle.chars.proofs.Good.{Scalars}
use Rattle.numbers.specs.declared.ParseError.TheVariants as parsed
use Rattle.numbers.specs.Grammar.{parse_number, Parsed}
use Rattle.items.specs.declared.Quotes.TheVariants.{Double, Lines}
use Rattle.items.specs.declared.Outcome.{Outcome}
use Rattle.items.specs.declared.Outcome.TheVariants.{Token, Str, HereStr, Word, Run, Lined, Keyword, Character, Error, ErrorAt}
use Rattle.items.specs.declared.CharError.{CharError}
use Rattle.items.specs.declared.CharError.TheVariants.{Wrong, WrongAt}
use Rattle.items.specs.Readers.{first_is, here_ends, here_inside, after_line, line_of}
use Rattle.items.specs.Meaning.{Text, none, source, decoded, means, meaning_of, word_kind, word_means, run_means, escaped, unescape, string_text, lined_text, here_text, character_of, char_inside}
use Rattle.items.specs.Items.{Item, Place, item_of, items_of, byte_count}
use Rattle.items.specs.Kinds as kind
use Rattle.items.proofs.Fine.{Between, Fine}
use Rattle.items_r7rs.specs.Reading.{bytes}
use Rattle.items.proofs.Splits.{length_bytes}
use Rattle.items_r7rs.proofs.Bytes.{bytes_ascii}
use Rattle.items_writing.specs.Written.{part, text_bytes, entry}
use Rattle.items_writing.specs.Shapes.{spells, number_of, shape_of}
use Rattle.items_writing.specs.Records.{has_text}
use Rattle.items_writing_theorems.proofs.Parts.{part_in, part_all}
use Rattle.items_writing_theorems.proofs.Reading.{first_part, second-part}
use Rattle.items_writing.proofs.FirstLine.{first_is_lem}
use Rattle.items_writing.proofs.OutcomeTells.{Known}
use Rattle.items_writing.proofs.ReadsBack.{kind_in}
use Rattle.items_writing_theorems.proofs.Characters.{Texty, quoted_texty}
use Rattle.items_writing_theorems.proofs.Between.{between_texty}
use Rattle.items_writing_theorems.proofs.HereBodies.{here_body_lem, not_shorter}
use Rattle.items_writing_theorems.proofs.Sound.{Sound, name, string}
use Rattle.items_writing_theorems.proofs.Reread.{Other}
use Rattle.items_writing.proofs.WordTable.{word_no_string}

-- ---- an identifier, and a string

abbrev HasText : Text → Type 0
HasText none = ⊥
HasText (source a b) = Unit {0}
HasText (decoded bs) = Unit {0}

spelled_so : (s : List ℕ) (x : Text) → HasText x → spells s x ≡ bytes (text_bytes s x)
spelled_so s none h = absurd h
spelled_so s (source a b) h = refl
spelled_so s (decoded bs) h = refl

-- an item that no refusal meets: a kind of 01's, an extent and a text of whole characters
abbrev pub TextRight : List ℕ → ℕ → Text → Type 0
TextRight s k none = has_text k ≡ false
TextRight s k (source a b) = Texty (part a b s)
TextRight s k (decoded bs) = Texty bs

pub record Right (s : List ℕ) (i : Item) : Type 0 where
  pub kind_right : leb i.kind kind.Dot ≡ true
  pub extent_right : Texty (part i.start i.end s)
  pub text_right_holds : TextRight s i.kind i.text

abbrev pub Fit : Bool → List ℕ → Item → Type 0
Fit last s i = Sound last (entry s i) (shape_of s i) × Right s i

text_fits_lem : (s : List ℕ) (k : ℕ) (x : Text) → HasText x → Texty (text_bytes s x) → TextRight s k x
text_fits_lem s k none h t = absurd h
text_fits_lem s k (source a b) h t = t
text_fits_lem s k (decoded bs) h t = t

module _ (s : List ℕ) (p : Place) (a e : ℕ) (w : Texty (part a e s)) (x : Text) (h : HasText x) (t : Texty (text_bytes s x)) (last : Bool) where
  name_sound : Fit last s (item_of true p a e (means kind.Identifier 0 x))
  unfolding number_of
  name_sound = ((rw (spelled_so s x h) (name t.0 refl t.1.0 t.1.1)), record { kind_right = refl; extent_right = w; text_right_holds = text_fits_lem s kind.Identifier x h t })

  string_sound : Fit last s (item_of true p a e (means kind.StringLiteral 0 x))
  unfolding number_of
  string_sound = ((rw (spelled_so s x h) (string t.0 refl t.1.0 t.1.1)), record { kind_right = refl; extent_right = w; text_right_holds = text_fits_lem s kind.StringLiteral x h t })

plus_texty : Texty (code "+" ∷ [])
unfolding bytes_of utf8 is_scalar within
plus_texty = (code "+" ∷ [], (refl, (refl, tt)))

-- ---- the items of an extent

abbrev pub AllSound : Bool → List ℕ → List Item → Type 0
AllSound last s [] = Unit {0}
AllSound last s (i ∷ []) = Fit last s i
AllSound last s (i ∷ j ∷ is) = Fit false s i × AllSound last s (j ∷ is)

angle_bytes : (u : List ℕ) → bytes_of (codes "#<<" ++ u) ≡ codes "#<<" ++ bytes_of u
unfolding bytes_of utf8
angle_bytes u = refl

module _ (pre : List ℕ) (c : ℕ) (t post : List ℕ) (h : Scalars (c ∷ t)) (p : Place) where
  abbrev at : ℕ
  at = length pre

  abbrev end : ℕ
  end = at + byte_count (c ∷ t)

  abbrev raw : List ℕ
  raw = bytes_of (c ∷ t)

  abbrev full : List ℕ
  full = pre ++ (raw ++ post)

  long : end ≡ at + length raw
  long = rw (length_bytes (c ∷ t))

  -- the text of a part, in terms of the extent's bytes
  in_extent : (a b : ℕ) → at ≤ a → a ≤ b → b ≤ end → Texty (take (b - a) (drop (a - at) raw)) → Texty (text_bytes full (source a b))
  in_extent a b x y z q = subst Texty (sym (part_in pre raw post a b x y (omega (arith, long)))) q

  whole_texty : Texty (text_bytes full (source at end))
  whole_texty = (c ∷ t, (ap (λ (n : ℕ). part at n full) long ∙ part_all pre raw post, h))

  -- the first character
  head_is : (b : ℕ) (u : List ℕ) → c ∷ t ≡ b ∷ u → c ≡ b
  head_is b u e = cc

  -- ---- words

  module _ (last : Bool) where
    pair_sound : first_is (code "+") raw ≡ true → AllSound last full (items_of true p at end (means kind.Identifier 0 (source at (at + 1)) ∷ means kind.Identifier 0 (source (at + 1) end) ∷ []))
    pair_sound f =
        let q : c ≡ code "+" = first_is_lem (code "+") c t refl f in
        let a : part at (at + 1) full ≡ code "+" ∷ [] = ap (λ (x : ℕ). part at (at + 1) (pre ++ (bytes_of (x ∷ t) ++ post))) q ∙ first_part pre t post in
        let b : part (at + 1) end full ≡ bytes_of t
        = ap (λ (x : ℕ). part (at + 1) (at + byte_count (x ∷ t)) (pre ++ (bytes_of (x ∷ t) ++ post))) q ∙ second-part pre t post in (
          name_sound full p at end whole_texty (source at (at + 1)) tt (subst Texty (sym a) plus_texty) false,
          name_sound full p at end whole_texty (source (at + 1) end) tt (t, (b, h.1)) last,
        )

    word_sounds : (Other Word raw → AllSound last full (items_of true p at end (word_means at end raw))) → kind_in (word_means at end raw) < kind.first_error
        → AllSound last full (items_of true p at end (word_means at end raw))
    unfolding word_means
    word_sounds other good = by_bool (eqb (word_kind raw) kind.Identifier)
        (λ e. by_bool (first_is (code "+") raw && ltb 1 (length raw))
        (λ f. rw (e, f) (pair_sound (and_true (first_is (code "+") raw) (ltb 1 (length raw)) f).0))
        (λ f. rw (e, f) (name_sound full p at end whole_texty (source at end) tt whole_texty last)))
        (λ e. other (λ s x. rw e ((rw e at good), (e, word_no_string raw))))

    run_sounds : (q : Parsed) → parse_number raw ≡ q → (Other Run raw → AllSound last full (items_of true p at end (meaning_of true Run at end raw)))
        → kind_in (meaning_of true Run at end raw) < kind.first_error → AllSound last full (items_of true p at end (meaning_of true Run at end raw))
    unfolding run_means
    run_sounds (Ok x) e other good = other (λ s y. rw e (omega arith, (refl, refl)))
    run_sounds (Err parsed.NoNumber) e other good =
        rw e (word_sounds (λ f. (rw e at (other (λ s y. rw e (f s y))))) (rw e at good))
    run_sounds (Err parsed.ZeroDenominator) e other good = let z = rw e at good in absurd (omega arith)

    -- ---- quotes

    between_raw : (b : ℕ) → ltb b 0x80 ≡ true → c ≡ b → raw ≡ b ∷ bytes_of t
    between_raw b l q = ap (λ (x : ℕ). bytes_of (x ∷ t)) q ∙ bytes_ascii b t l

    -- the text as it stands between them
    plain_texty : (b : ℕ) → ltb b 0x80 ≡ true → c ≡ b → Between b raw → Texty (text_bytes full (source (at + 1) (end - 1)))
    plain_texty b l q m =
        let r : raw ≡ b ∷ bytes_of t = between_raw b l q in
        let w : Between b (b ∷ bytes_of t) = subst (Between b) r m in
        let two : 2 ≤ length raw = m.0 in
        let n : length raw ≡ suc (length (bytes_of t)) = ap length r in
        let x : at + 1 - at ≡ 1 = omega arith in
        let y : end - 1 - (at + 1) ≡ length (bytes_of t) - 1 = omega (arith, long) in
        in_extent (at + 1) (end - 1) (omega arith) (omega (arith, long)) (omega arith)
        (rw (x, y) (subst (λ (k : List ℕ). Texty (take (length (bytes_of t) - 1) (drop 1 k))) (sym r) (between_texty b t l h.1 w)))

    decoded_texty : (b : ℕ) → ltb b 0x80 ≡ true → c ≡ b → (bs : List ℕ) → bs ≡ drop 1 raw → bs ≡ bytes_of t
    decoded_texty b l q bs e = e ∙ ap (drop 1) (between_raw b l q)

    string_texty : c ≡ code "\"" → Between (code "\"") raw → HasText (string_text at end raw) × Texty (text_bytes full (string_text at end raw))
    unfolding string_text
    string_texty q m = if_is (λ (x : Text). HasText x × Texty (text_bytes full x)) (escaped raw)
        (λ e. (tt, rw (decoded_texty (code "\"") refl q (drop 1 raw) refl) (quoted_texty Double t h.1)))
        (λ e. (tt, plain_texty (code "\"") refl q m))

    lined_texty : c ≡ code "|" → Between (code "|") raw → HasText (lined_text at end raw) × Texty (text_bytes full (lined_text at end raw))
    unfolding lined_text
    lined_texty q m = if_is (λ (x : Text). HasText x × Texty (text_bytes full x)) (escaped raw && ltb 0 (length (unescape Lines (drop 1 raw))))
        (λ e. (tt, rw (decoded_texty (code "|") refl q (drop 1 raw) refl) (quoted_texty Lines t h.1)))
        (λ e. (tt, plain_texty (code "|") refl q m))

    here_texty : (u : List ℕ) → c ∷ t ≡ codes "#<<" ++ u → here_ends raw ≡ true → HasText (here_text at end raw) × Texty (text_bytes full (here_text at end raw))
    unfolding here_text here_ends
    here_texty u q g =
        let a : List ℕ = after_line (here_inside raw) in
        let d : List ℕ = line_of (here_inside raw) in
        let s : Scalars (codes "#<<" ++ u) = subst Scalars q h in
        let r : raw ≡ codes "#<<" ++ bytes_of u = ap bytes_of q ∙ angle_bytes u in
        let x : length a ≤ length raw = omega (arith, length-drop (before (code "\n") (here_inside raw) + 1) (here_inside raw), length-drop 3 raw) in
        let y : length d ≤ length a = not_shorter d a g in
        let e : end - length d - (end - length a) ≡ length a - length d = omega (arith, long) in
        let f : end - length a - at ≡ length raw - length a = omega (arith, long) in (
          tt,
          in_extent (end - length a) (end - length d) (omega (arith, long)) (omega arith) (omega arith)
              (rw (e, f) (here_body_lem u raw s.1.1.1 r g)),
        )

    -- ---- every outcome

    character_sounds : (w : Result ℕ CharError) → character_of true (char_inside raw) ≡ w → (Other Character raw → AllSound last full (items_of true p at end (meaning_of true Character at end raw)))
        → kind_in (meaning_of true Character at end raw) < kind.first_error → AllSound last full (items_of true p at end (meaning_of true Character at end raw))
    character_sounds (Ok x) e other good = other (λ s y. rw e (omega arith, (refl, refl)))
    character_sounds (Err (Wrong n d)) e other good = let z = rw e at good in absurd (omega arith)
    character_sounds (Err (WrongAt n d q)) e other good = let z = rw e at good in absurd (omega arith)

    pub extent_sounds : (o : Outcome) (n : ℕ) → Known (c ∷ t) o → Fine (λ (x : ℕ). Unit {0}) n raw o
        → (Other o raw → AllSound last full (items_of true p at end (meaning_of true o at end raw)))
        → kind_in (meaning_of true o at end raw) < kind.first_error → AllSound last full (items_of true p at end (meaning_of true o at end raw))
    extent_sounds (Token k d) n known fine other good = other (λ s e. (good, known.0.0))
    extent_sounds Str n known fine other good =
        let x = string_texty (head_is (code "\"") known.0 known.1) fine in
        string_sound full p at end whole_texty (string_text at end raw) x.0 x.1 last
    extent_sounds HereStr n known fine other good =
        let x = here_texty known.0 known.1 fine in
        string_sound full p at end whole_texty (here_text at end raw) x.0 x.1 last
    extent_sounds Word n known fine other good = word_sounds other good
    extent_sounds Run n known fine other good = run_sounds (parse_number raw) refl other good
    extent_sounds Lined n known fine other good =
        let x = lined_texty (first_is_lem (code "|") c t refl known) fine in
        name_sound full p at end whole_texty (lined_text at end raw) x.0 x.1 last
    extent_sounds Keyword n known fine other good = other (λ s e. (omega arith, (refl, refl)))
    extent_sounds Character n known fine other good = character_sounds (character_of true (char_inside raw)) refl other good
    extent_sounds (Error k d) n known fine other good = absurd (omega arith)
    extent_sounds (ErrorAt k d a b) n known fine other good = absurd (omega arith)
