-- One extent: it takes its characters from the front of the text, at least the first one, and gives one item, or the two identifiers of a word
-- that starts with a plus. `read_splits` of crate `items` says of its bytes that they come from the front of the text's; `scan_chars` says it of
-- whole characters.
use Rattle.std.proofs.Common.{Ok, Err, Result}
use Rattle.items.specs.declared.CharError.{CharError}
use Rattle.items.specs.declared.CharError.TheVariants.{Wrong, WrongAt}
use Rattle.items.specs.declared.Outcome.{Outcome}
use Rattle.items.specs.declared.Outcome.TheVariants.{Token, Str, HereStr, Word, Run, Lined, Keyword, Character, Error, ErrorAt}
use Rattle.items.specs.declared.Phase.{Phase}
use Rattle.items.specs.Classes.{first_of}
use Rattle.items.specs.Items.{Place, items_of, extent_items}
use Rattle.items.specs.Kinds as kind
use Rattle.items.specs.Machine.{step_of, on_first, scan_of}
use Rattle.items.specs.Meaning.{Meaning, word_kind, word_means, run_means, character_of, char_inside, character_means, meaning_of}
use Rattle.items.specs.Readers.{SoFar, so_far, eat, first_is, read_item}
use Rattle.items.proofs.Cases.{by_next}
use Rattle.items.proofs.Same.{item_same}
use Rattle.items.proofs.Splits.{read_at}
use Rattle.numbers.specs.declared.ParseError.TheVariants as parsed
use Rattle.numbers.specs.Grammar.{parse_number, Parsed}
use Rattle.laws.specs.Quoted.{code}
use Rattle.laws.proofs.Choice.{if_all, if_is, and_true}
use Rattle.chars.specs.Encode.{utf8, bytes_of}
use Rattle.chars.proofs.Width.{utf8-one}
use Rattle.items_coverage.specs.Covered.{Seen, seen, past, Covers, one, pair}
use Rattle.items_coverage.specs.Records.{item_seen}
use Rattle.items_coverage.proofs.Bytes.{first_char}
use Prim.Native.Nat.{ℕ, ◌+◌, ◌<◌}
use mathlib.Core.Path.{◌≡◌, refl, sym, ap, ◌∙◌}
use mathlib.Core.Bool.{Bool, ◌&&◌}
use mathlib.Core.List.{List, [], ◌∷◌, ◌++◌, map, append_assoc, append-nil}
use lib.ListN.{length, get_or, length-append}
use lib.Dec.{eqb, ltb}
use native.Mathlib.Omega.{arith}
use borrow.Author.Tests.{ltb-true, eqb-true}

-- ---- which characters it takes

module _ (report : Bool) where
  scan_chars : (p : Phase) (i : SoFar) (cs : List ℕ)
      → (t : List ℕ) × (cs ≡ t ++ (scan_of report p i cs).rest) × ((scan_of report p i cs).item.bytes ≡ i.bytes ++ bytes_of t)
  unfolding scan_of bytes_of
  scan_chars p i [] = ([], refl, sym (append-nil i.bytes))
  scan_chars p i (c ∷ cs) = by_next (step_of report p i c)
      (λ q e. rw (e, scan_of) (let h = scan_chars q (eat i c) cs in
      (c ∷ h.0, ap (λ (l : List ℕ). c ∷ l) h.1, h.2 ∙ append_assoc i.bytes (utf8 c) (bytes_of h.0))))
      (λ o e. rw (e, scan_of) ([], refl, sym (append-nil i.bytes)))

  -- the characters of the item that starts with c, after c
  pub record Taken (at c : ℕ) (cs : List ℕ) : Type 0 where
    pub more : List ℕ
    pub whole : cs ≡ more ++ (read_item report at c cs).rest
    pub bytes : (read_item report at c cs).item.bytes ≡ bytes_of (c ∷ more)
    pub end : (read_item report at c cs).item.at ≡ past at (c ∷ more)

  pub taken : (at c : ℕ) (cs : List ℕ) → Taken at c cs
  unfolding bytes_of
  taken at c cs =
      let h : (t : List ℕ) × (cs ≡ t ++ (read_item report at c cs).rest) × ((read_item report at c cs).item.bytes ≡ utf8 c ++ bytes_of t)
      = rw (item_same report at c cs) at (scan_chars (on_first (first_of c)) (eat (so_far [] at) c) cs) in
      record { more = h.0; whole = h.1; bytes = h.2; end = read_at report at c cs ∙ ap (λ (l : List ℕ). at + length l) h.2 }

-- ---- which items it gives

data Shape (raw : List ℕ) : List Meaning → Type 0 where
  alone : (m : Meaning) → Shape raw (m ∷ [])
  two : (m n : Meaning) → m.kind ≡ kind.Identifier → n.kind ≡ kind.Identifier → get_or raw 0 0 ≡ code "+" → 1 < length raw → Shape raw (m ∷ n ∷ [])

module _ (s e : ℕ) (raw : List ℕ) where
  word_shape : Shape raw (word_means s e raw)
  unfolding word_means
  word_shape =
      let P : List Meaning → Type 0 = Shape raw in
      if_all P (eqb (word_kind raw) kind.Identifier)
      (if_is P (first_is (code "+") raw && ltb 1 (length raw))
      (λ f. let h = and_true (first_is (code "+") raw) (ltb 1 (length raw)) f in
      two _ _ refl refl (eqb-true (get_or raw 0 0) (code "+") h.0) (ltb-true 1 (length raw) h.1))
      (λ f. alone _))
      (alone _)

  run_shape : (p : Parsed) → Shape raw (run_means p s e raw)
  unfolding run_means
  run_shape (Ok p) = alone _
  run_shape (Err parsed.NoNumber) = word_shape
  run_shape (Err parsed.ZeroDenominator) = alone _

  character_shape : (v : Result ℕ CharError) → Shape raw (character_means v)
  character_shape (Ok c) = alone _
  character_shape (Err (Wrong n d)) = alone _
  character_shape (Err (WrongAt n d p)) = alone _

  shape : (report : Bool) (o : Outcome) → Shape raw (meaning_of report o s e raw)
  shape report (Token k d) = alone _
  shape report Str = alone _
  shape report HereStr = alone _
  shape report Word = word_shape
  shape report Run = run_shape (parse_number raw)
  shape report Lined = alone _
  shape report Keyword = alone _
  shape report Character = character_shape (character_of report (char_inside raw))
  shape report (Error n d) = alone _
  shape report (ErrorAt n d a b) = alone _

-- ---- so it covers its characters

pair_covers : {s : ℕ} (c : ℕ) (t : List ℕ) {bs : List ℕ} {rs : List Seen} → get_or (bytes_of (c ∷ t)) 0 0 ≡ code "+" → 1 < length (bytes_of (c ∷ t))
    → Covers (past s (c ∷ t)) bs rs
    → Covers s (bytes_of (c ∷ t) ++ bs) (seen kind.Identifier s (past s (c ∷ t)) ∷ seen kind.Identifier s (past s (c ∷ t)) ∷ rs)
unfolding bytes_of
pair_covers c [] f g h =
    let e : c ≡ code "+" = first_char (code "+") (omega arith) c [] f in
    let u : utf8 c ≡ c ∷ [] = utf8-one c (omega arith) in
    absurd (omega (arith, length-append (utf8 c) [], ap length u))
pair_covers c (d ∷ t) f g h =
    let e : c ≡ code "+" = first_char (code "+") (omega arith) c (bytes_of (d ∷ t)) f in
    rw e (pair d t (rw e at h))

pub extent_covers : (report : Bool) (last : Place) (s : ℕ) (o : Outcome) (i : SoFar) (c : ℕ) (t : List ℕ) {bs : List ℕ} {rs : List Seen}
    → i.bytes ≡ bytes_of (c ∷ t)
    → i.at ≡ past s (c ∷ t)
    → Covers (past s (c ∷ t)) bs rs
    → Covers s (bytes_of (c ∷ t) ++ bs) (map item_seen (extent_items report last s o i) ++ rs)
unfolding extent_items
extent_covers report last s o i c t {bs} {rs} b e h = go _ (meaning_of report o s i.at i.bytes) (shape s i.at i.bytes report o)
  where
    -- whatever the error range is
    go : (set : Place) (ms : List Meaning) → Shape i.bytes ms → Covers s (bytes_of (c ∷ t) ++ bs) (map item_seen (items_of report set s i.at ms) ++ rs)
    go set ms (alone m) = rw e (one m.kind c t h)
    go set ms (two m n p q f g) = rw (p, q, e) (pair_covers c t (rw b at f) (rw b at g) h)
