-- Errors 13 and 10 of records in report mode (specs/Delimited), and that plain mode has no 13: only a character has either error, and which
-- of them, and where it points, is known from the bytes after `#\` (`Names`).
use Rattle.std.proofs.Common.{Ok, Err, Result}
use Prim.Native.Nat.{ℕ, ◌+◌, ◌-◌, ◌<◌}
use mathlib.Core.Path.{◌≡◌, refl, sym, ap, subst, ◌∙◌}
use mathlib.Core.Bool.{Bool, true, false, ◌&&◌}
use mathlib.Core.List.{List, [], ◌∷◌, ◌++◌}
use mathlib.Core.Logic.{inl, inr}
use lib.ListN.{length, drop, take}
use lib.Seq.{take_at}
use lib.Dec.{T, eqb, ltb}
use native.Mathlib.Omega.{arith}
use borrow.Author.Tests.{ltb-true}
use Rattle.laws.specs.Quoted.{code, codes, one_of}
use Rattle.laws.specs.Texts.{begins}
use Rattle.laws.proofs.Choice.{by_bool, if_all}
use Rattle.chars.specs.Encode.{utf8, bytes_of, spelled}
use Rattle.chars.specs.Utf8.{chars}
use Rattle.chars.proofs.Bytes.{bytes_append}
use Rattle.chars.proofs.Good.{good_bytes_lem}
use Rattle.numbers.specs.Grammar.{parse_number, Parsed}
use Rattle.numbers.specs.declared.ParseError.TheVariants as parsed
use Rattle.items.specs.Kinds as kind
use Rattle.items.specs.declared.Outcome.{Outcome}
use Rattle.items.specs.declared.Outcome.TheVariants.{Token, Str, HereStr, Word, Run, Lined, Keyword, Character, Error, ErrorAt}
use Rattle.items.specs.declared.CharError.{CharError}
use Rattle.items.specs.declared.CharError.TheVariants.{Wrong, WrongAt}
use Rattle.items.specs.Items.{Place, range, unset, place_of, Item, character_sets, range_after, item_of, items_of, extent_items, items, record_of}
use Rattle.items.specs.Meaning.{Text, none, source, Meaning, means, one, word_kind, word_means, run_means, string_text, lined_text, here_text}
use Rattle.items.specs.Meaning.{character_of, char_inside, character_means, meaning_of}
use Rattle.items.specs.Readers.{SoFar, Read, first_is, past_failing, read_item}
use Rattle.items.specs.Whole.{served, read_of}
use Rattle.items.proofs.Every.{Every}
use Rattle.items.proofs.Meanings.{word_le}
use Rattle.items.proofs.Own.{Fails, character_fails}
use Rattle.items.proofs.Pointed.{set_place}
use Rattle.items.proofs.Splits.{read_at}
use Rattle.items_coverage.specs.Records.{rows_in, row_kind}
use Rattle.items_coverage.proofs.Extents.{Taken, taken}
use Rattle.items_coverage.proofs.Located.{items_there, every_item}
use Rattle.items_errors.specs.Delimited.{Delimited, Undelimited, PointsAtDelimiter, NameError}
use Rattle.items_errors.proofs.Phases.{Told}
use Rattle.items_errors.proofs.Steps.{read_told}
use Rattle.items_errors.proofs.Names.{delimited_there, undelimited_there, numbers, Numbers, plain_never}
use Rattle.items_errors.proofs.Outcomes.{nameless, Outcomes, outcomes}
use Rattle.items_errors.proofs.Rows.{read_every_row}

abbrev pub ten : ℕ
ten = kind.first_error + kind.InvalidCharName

abbrev pub thirteen : ℕ
thirteen = kind.first_error + kind.InvalidCharDelimiter

-- ---- no other kind is one of the two

abbrev Neither : ℕ → Type 0
Neither k = (k ≡ ten → ⊥) × (k ≡ thirteen → ⊥)

-- a kind below 100, and an error that has no name
good_kind : (k : ℕ) → k < kind.first_error → Neither k
good_kind k h = ((λ e. omega arith), (λ e. omega arith))

other_error : (n : ℕ) → T (one_of nameless n) → Neither (kind.first_error + n)
other_error n h = (
  (λ e. let z : n ≡ kind.InvalidCharName = omega arith in subst (λ (m : ℕ). T (one_of nameless m)) z h),
  (λ e. let z : n ≡ kind.InvalidCharDelimiter = omega arith in subst (λ (m : ℕ). T (one_of nameless m)) z h),
)

-- ---- the items of one extent, whose kinds are neither but for a character

module _ (P : Item → Type 0) (neither : (i : Item) → Neither i.kind → P i) (report : Bool) (s : ℕ) (i : SoFar) where
  abbrev There : Place → List Meaning → Type 0
  There set ms = Every P (items_of report set s i.at ms)

  other : (set : Place) (k d : ℕ) (x : Text) → Neither k → There set (one k d x)
  other set k d x h = (neither _ h, tt)

  word_there : (set : Place) → There set (word_means s i.at i.bytes)
  unfolding word_means
  word_there set =
      if_all (There set) (eqb (word_kind i.bytes) kind.Identifier)
      (if_all (There set) (first_is (code "+") i.bytes && ltb 1 (length i.bytes))
      (neither _ (good_kind kind.Identifier (omega arith)), (neither _ (good_kind kind.Identifier (omega arith)), tt))
      (other set kind.Identifier 0 (source s i.at) (good_kind _ (omega arith))))
      (other set (word_kind i.bytes) 0 none (good_kind _ (omega (arith, word_le i.bytes))))

  run_there : (set : Place) (p : Parsed) → There set (run_means p s i.at i.bytes)
  unfolding run_means
  run_there set (Ok p) = other set kind.Number 0 none (good_kind _ (omega arith))
  run_there set (Err parsed.NoNumber) = word_there set
  run_there set (Err parsed.ZeroDenominator) = other set (kind.first_error + kind.ZeroDenominator) 0 none ((λ e. omega arith), (λ e. omega arith))

  pub there : (set : Place) (o : Outcome) → Outcomes o
      → (o ≡ Character → There set (character_means (character_of report (char_inside i.bytes))))
      → There set (meaning_of report o s i.at i.bytes)
  there set (Token k d) h f = other set k d none (good_kind k (below k h))
    where
      below : (k : ℕ) → T (ltb k kind.first_error) → k < kind.first_error
      below k h = by_bool (ltb k kind.first_error) (λ e. ltb-true k kind.first_error e) (λ e. absurd (rw e at h))
  there set Str h f = other set kind.StringLiteral 0 (string_text s i.at i.bytes) (good_kind _ (omega arith))
  there set HereStr h f = other set kind.StringLiteral 0 (here_text s i.at i.bytes) (good_kind _ (omega arith))
  there set Word h f = word_there set
  there set Run h f = run_there set (parse_number i.bytes)
  there set Lined h f = other set kind.Identifier 0 (lined_text s i.at i.bytes) (good_kind _ (omega arith))
  there set Keyword h f = other set kind.Keyword 0 (source s i.at) (good_kind _ (omega arith))
  there set Character h f = f refl
  there set (Error n d) h f = other set (kind.first_error + n) d none (other_error n h)
  there set (ErrorAt n d a b) h f = other set (kind.first_error + n) d none (other_error n h)

-- ---- plain mode

abbrev pub NotThirteen : Item → Type 0
NotThirteen i = (i.kind ≡ thirteen → ⊥)

plain_character : (set : Place) (s e : ℕ) (t : List ℕ) (v : Result ℕ CharError) → character_of false t ≡ v → Numbers v → Every NotThirteen (items_of false set s e (character_means v))
plain_character set s e t (Ok c) f g = ((λ z. omega arith), tt)
plain_character set s e t (Err (Wrong n d)) f g = ((λ z. g (omega arith)), tt)
plain_character set s e t (Err (WrongAt n d p)) f g =
    ((λ z. plain_never t d p (f ∙ ap (λ (m : ℕ). Err (WrongAt m d p)) (let y : n ≡ kind.InvalidCharDelimiter = omega arith in y))), tt)

-- in plain mode no item is error 13
pub plain_thirteen : (cs : List ℕ) → Every NotThirteen (items false cs)
unfolding extent_items
plain_thirteen cs = every_item false (bytes_of cs) (λ c. Unit {0}) NotThirteen extent cs refl (all cs)
  where
    all : (l : List ℕ) → Every (λ (c : ℕ). Unit {0}) l
    all [] = tt
    all (c ∷ l) = (tt, all l)

    extent : (last : Place) (at c : ℕ) (ds : List ℕ) → drop at (bytes_of cs) ≡ bytes_of (c ∷ ds) → Every (λ (c : ℕ). Unit {0}) (c ∷ ds)
        → Every NotThirteen (items_there false last at c ds)
    extent last at c ds e h =
        let r : Read = read_item false at c ds in
        there NotThirteen (λ i n. n.1) false at r.item (range_after false last at r.what r.item) r.what (outcomes false at c ds)
        (λ f. plain_character _ at r.item.at (char_inside r.item.bytes) (character_of false (char_inside r.item.bytes)) refl
        (numbers false (char_inside r.item.bytes)))

-- ---- report mode

-- of an item's record, wherever it is written
abbrev Named : List ℕ → Item → Type 0
Named whole i = (free depth : ℕ) → NameError whole (record_of free depth i)

neither_named : (whole : List ℕ) (i : Item) → Neither i.kind → Named whole i
neither_named whole i h free depth = record { thirteen = λ e. absurd (h.1 e); ten = λ e. absurd (h.0 e) }

module _ (whole : List ℕ) (s : ℕ) (i : SoFar) (raw : take (i.at - s) (drop s whole) ≡ i.bytes) (name : begins (spelled "#\\") i.bytes ≡ true) where
  abbrev t : List ℕ
  t = char_inside i.bytes

  named : begins (codes "#\\") (take (i.at - s) (drop s whole)) ≡ true
  unfolding bytes_of utf8
  named = ap (begins (codes "#\\")) raw ∙ name

  inside : drop 2 (take (i.at - s) (drop s whole)) ≡ t
  inside = ap (drop 2) raw

  report_character : (v : Result ℕ CharError) → character_of true t ≡ v → Numbers v → Fails t v
      → Every (Named whole) (items_of true (character_sets true v unset s i) s i.at (character_means v))
  report_character (Ok c) f g h =
      (neither_named whole (item_of true unset s i.at (means kind.CharacterLiteral c none)) (good_kind kind.CharacterLiteral (omega arith)), tt)
  report_character (Err (Wrong n d)) f g h = (
    (λ free depth. record {
      thirteen = λ e. absurd (g (omega arith));
      ten = λ e. (named, subst Undelimited (sym inside) (undelimited_there t d (f ∙ ap (λ (m : ℕ). Err (Wrong m d)) (ten_is n e))));
    }),
    tt,
  )
    where
      ten_is : (n : ℕ) → kind.first_error + n ≡ ten → n ≡ kind.InvalidCharName
      ten_is n e = omega arith
  report_character (Err (WrongAt n d p)) f g h = (
    (λ free depth. record { thirteen = λ e. pointed free depth (thirteen_is n e) h; ten = λ e. absurd (g (omega arith)) }),
    tt,
  )
    where
      thirteen_is : (n : ℕ) → kind.first_error + n ≡ thirteen → n ≡ kind.InvalidCharDelimiter
      thirteen_is n e = omega arith

      a : ℕ
      a = s + 2 + p

      b : ℕ
      b = past_failing d (s + 2 + p) (drop p t)

      pointed : (free depth : ℕ) → n ≡ kind.InvalidCharDelimiter → Fails t (Err (WrongAt n d p))
          → PointsAtDelimiter whole (record_of free depth (item_of true (range a b) s i.at (means (kind.first_error + n) d none)))
      pointed free depth z (inl w) = absurd (omega arith)
      pointed free depth z (inr w) =
          let one : b ≡ a + 1 = w.3 a in
          let at : place_of true (kind.first_error + n) (range a b) (range s i.at) ≡ range a b = set_place n a b (range s i.at) (omega arith) in
          record {
            name = named;
            p = p;
            delimited = subst (λ (l : List ℕ). Delimited l p) (sym inside) (delimited_there t d p (f ∙ ap (λ (m : ℕ). Err (WrongAt m d p)) z));
            from = ap (λ (q : Place). q.from) at;
            to = ap (λ (q : Place). q.to) at ∙ one ∙ ap (λ (q : Place). q.from + 1) (sym at);
          }

report_names : (whole : List ℕ) (cs : List ℕ) → bytes_of cs ≡ whole → Every (Named whole) (items true cs)
unfolding extent_items
report_names whole cs w = every_item true whole (λ c. Unit {0}) (Named whole) extent cs (sym w) (all cs)
  where
    all : (l : List ℕ) → Every (λ (c : ℕ). Unit {0}) l
    all [] = tt
    all (c ∷ l) = (tt, all l)

    extent : (last : Place) (at c : ℕ) (ds : List ℕ) → drop at whole ≡ bytes_of (c ∷ ds) → Every (λ (c : ℕ). Unit {0}) (c ∷ ds)
        → Every (Named whole) (items_there true last at c ds)
    extent last at c ds e h =
        let r : Read = read_item true at c ds in
        let k : Taken true at c ds = taken true at c ds in
        let stands : drop at whole ≡ r.item.bytes ++ bytes_of r.rest
        = e ∙ ap (λ (l : List ℕ). bytes_of (c ∷ l)) k.whole ∙ bytes_append (c ∷ k.more) r.rest
        ∙ ap (λ (l : List ℕ). l ++ bytes_of r.rest) (sym k.bytes) in
        let raw : take (r.item.at - at) (drop at whole) ≡ r.item.bytes
        = ap (take (r.item.at - at)) stands ∙ take_at r.item.bytes (bytes_of r.rest) (r.item.at - at) (omega (arith, read_at true at c ds)) in
        there (Named whole) (neither_named whole) true at r.item (range_after true unset at r.what r.item) r.what (outcomes true at c ds)
        (λ f. subst (λ (o : Outcome). Every (Named whole) (items_of true (range_after true unset at o r.item) at r.item.at
        (character_means (character_of true (char_inside r.item.bytes))))) (sym f)
        (report_character whole at r.item raw (subst (Told at r.item.bytes) f (read_told at c ds)) (character_of true (char_inside r.item.bytes)) refl
        (numbers true (char_inside r.item.bytes)) (character_fails (char_inside r.item.bytes))))

-- WHATEVER `read` SERVED IN REPORT MODE: error 13 exactly where a delimiter stands after a name's first character, 10 where none does
pub read_name_errors : (src : List ℕ) (skip : Bool) (recs text : List ℕ) (n m : ℕ) → (read_of src 1 skip recs text).answer ≡ served n m
    → Every (NameError src) (rows_in n (read_of src 1 skip recs text).records)
read_name_errors src skip recs text n m e =
    read_every_row src 1 skip recs text n m e (Named src) (NameError src) (λ free depth i h. h free depth)
    (λ good. report_names src (chars src) (good_bytes_lem src good))

-- in plain mode no record is error 13
pub read_never_thirteen : (src : List ℕ) (skip : Bool) (recs text : List ℕ) (n m : ℕ) → (read_of src 0 skip recs text).answer ≡ served n m
    → Every (λ (row : List ℕ). row_kind row ≡ thirteen → ⊥) (rows_in n (read_of src 0 skip recs text).records)
read_never_thirteen src skip recs text n m e =
    read_every_row src 0 skip recs text n m e NotThirteen (λ (row : List ℕ). row_kind row ≡ thirteen → ⊥) (λ free depth i h. h)
    (λ good. plain_thirteen (chars src))
