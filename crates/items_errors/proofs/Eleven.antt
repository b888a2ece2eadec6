-- What is told of an error 11 where its digits stand is told of every item of error 11 of a text in report mode: no other outcome, and no
-- other character, has that error.
use Rattle.std.proofs.Common.{Ok, Err, Result}
use Rattle.digits.specs.Hex.{Hex}
use Prim.Native.Nat.{ℕ, ◌+◌, ◌≤◌, ◌<◌}
use mathlib.Core.Path.{◌≡◌, refl, sym, ap, subst, ◌∙◌}
use mathlib.Core.Bool.{true, false, ◌&&◌}
use mathlib.Core.List.{List, [], ◌∷◌, ◌++◌, append_assoc}
use lib.ListN.{length, drop, take, length-append, take-append-drop, length-drop}
use lib.Seq.{drop-append_seam, length-take-le, drop-append-le, drop-drop}
use lib.Dec.{eqb, ltb}
use native.Mathlib.Omega.{arith}
use Rattle.laws.specs.Quoted.{code, codes}
use Rattle.laws.specs.Texts.{begins}
use Rattle.laws.proofs.Choice.{if_all}
use Rattle.chars.specs.Encode.{bytes_of, is_scalar, spelled}
use Rattle.chars.proofs.Bytes.{bytes_append}
use Rattle.numbers.specs.Grammar.{parse_number, Parsed}
use Rattle.numbers.specs.declared.ParseError.TheVariants as parsed
use Rattle.items.specs.Kinds as kind
use Rattle.items.specs.declared.Outcome.{Outcome}
use Rattle.items.specs.declared.Outcome.TheVariants.{Token, Str, HereStr, Word, Run, Lined, Keyword, Character, Error, ErrorAt}
use Rattle.items.specs.declared.CharError.{CharError}
use Rattle.items.specs.declared.CharError.TheVariants.{Wrong, WrongAt}
use Rattle.items.specs.Items.{Place, range, unset, Item, character_sets, range_after, items_of, extent_items, items}
use Rattle.items.specs.Meaning.{Text, none, source, Meaning, one, word_kind, word_means, run_means, string_text, lined_text, here_text}
use Rattle.items.specs.Meaning.{character_of, char_inside, character_means, meaning_of}
use Rattle.items.specs.Readers.{SoFar, Read, first_is, scalar_of, past_failing, read_item}
use Rattle.items.proofs.Every.{Every}
use Rattle.items.proofs.Failing.{past_within, Inside, hex_inside}
use Rattle.items.proofs.Meanings.{word_le}
use Rattle.items.proofs.Pointed.{set_place}
use Rattle.items.proofs.Splits.{read_at}
use Rattle.items_coverage.proofs.Extents.{Taken, taken}
use Rattle.items_coverage.proofs.Located.{items_there, every_item}
use Rattle.items_errors.specs.First.{Stand, escape}
use Rattle.items_errors.proofs.Phases.{Quoted, Digits, Told}
use Rattle.items_errors.proofs.Steps.{read_told}
use Rattle.items_errors.proofs.Characters.{Named, Of, of_character, begins_is}
use Rattle.items_errors.proofs.Marked.{not_marked}

abbrev pub IsChar : ℕ → Type 0
IsChar c = is_scalar c ≡ true

pub every_left : (P : ℕ → Type 0) (xs ys : List ℕ) → Every P (xs ++ ys) → Every P xs
every_left P [] ys h = tt
every_left P (x ∷ xs) ys h = (h.0, every_left P xs ys h.1)

-- an item of error 11, of which F says something: extent, detail, place
abbrev pub Eleven : (ℕ → ℕ → ℕ → ℕ → ℕ → Type 0) → Item → Type 0
Eleven F i = i.kind ≡ kind.first_error + kind.InvalidHexEscapeLiteral → F i.start i.end i.detail i.place.from i.place.to

-- digits that fail in an extent whose bytes are raw, and where they stand there
abbrev pub FailingDigits : ℕ → List ℕ → ℕ → ℕ → ℕ → Type 0
FailingDigits s raw d a b = (g : Digits s raw d a b) × Stand raw g.ds (length g.x + 1)

stand_quoted : (raw ds : List ℕ) (n : ℕ) → begins (codes "#\\") raw ≡ false → Quoted raw ds n → Stand raw ds n
stand_quoted raw ds n h q = subst (Stand raw ds) (sym q.count) (escape h q.before q.opening q.closer q.of q.is q.inner)

module _ (F : ℕ → ℕ → ℕ → ℕ → ℕ → Type 0) (s : ℕ) (i : SoFar) (tell : (d a b : ℕ) → FailingDigits s i.bytes d a b → F s i.at d a b) where
  abbrev There : Place → List Meaning → Type 0
  There set ms = Every (Eleven F) (items_of true set s i.at ms)

  other : (set : Place) (k d : ℕ) (x : Text) → (k ≡ kind.first_error + kind.InvalidHexEscapeLiteral → ⊥) → There set (one k d x)
  other set k d x h = ((λ e. absurd (h e)), tt)

  word_there : (set : Place) → There set (word_means s i.at i.bytes)
  unfolding word_means
  word_there set =
      let P : List Meaning → Type 0 = There set in
      if_all P (eqb (word_kind i.bytes) kind.Identifier)
      (if_all P (first_is (code "+") i.bytes && ltb 1 (length i.bytes))
      ((λ e. absurd (omega arith)), ((λ e. absurd (omega arith)), tt))
      (other set kind.Identifier 0 (source s i.at) (λ e. omega arith)))
      (other set (word_kind i.bytes) 0 none (λ e. omega (arith, word_le i.bytes)))

  run_there : (set : Place) (p : Parsed) → There set (run_means p s i.at i.bytes)
  unfolding run_means
  run_there set (Ok p) = other set kind.Number 0 none (λ e. omega arith)
  run_there set (Err parsed.NoNumber) = word_there set
  run_there set (Err parsed.ZeroDenominator) = other set (kind.first_error + kind.ZeroDenominator) 0 none (λ e. omega arith)

  -- an error that sets a range of its own
  failing_there : (n d a b : ℕ) → (n ≡ kind.InvalidHexEscapeLiteral → FailingDigits s i.bytes d a b) → There (range a b) (one (kind.first_error + n) d none)
  failing_there n d a b h = (
    (λ e. let m : n ≡ kind.InvalidHexEscapeLiteral = omega arith in
        let g : Digits s i.bytes d a b = (h m).0 in
        let past = past_within d a (drop g.p g.ds ++ g.zs) in
        let some : 0 < b = omega (arith, g.from, g.to, past.0) in
        rw (set_place n a b (range s i.at) some) (tell d a b (h m))),
    tt,
  )

  -- the digits of a character's name, in its extent
  named_digits : (d q : ℕ) → begins (spelled "#\\") i.bytes ≡ true → Named (char_inside i.bytes) d q
      → FailingDigits s i.bytes d (s + 2 + q) (past_failing d (s + 2 + q) (drop q (char_inside i.bytes)))
  unfolding scalar_of
  named_digits d q named g =
      let raw : List ℕ = i.bytes in
      let t : List ℕ = char_inside raw in
      let two : length (take 2 raw) ≡ 2 = length-take-le 2 raw (omega (arith, ap length g.is, length-append g.x (g.k ∷ (g.ds ++ g.ys)), length-drop 2 raw)) in
      let inside : g.p ≤ length g.ds = subst (λ (h : Hex). Inside (length g.ds) (scalar_of h)) g.fails (hex_inside g.ds) in
      let front : List ℕ = g.x ++ (g.k ∷ []) in
      let cut : t ≡ front ++ (g.ds ++ g.ys) = g.is ∙ sym (append_assoc g.x (g.k ∷ []) (g.ds ++ g.ys)) in
      let at : q ≡ length front + g.p = omega (arith, g.place, length-append g.x (g.k ∷ [])) in
      let left : drop q t ≡ drop g.p g.ds ++ g.ys
      = ap (λ (n : ℕ). drop n t) at
      ∙ sym (drop-drop g.p (length front) t) ∙ ap (drop g.p) (ap (drop (length front)) cut ∙ drop-append_seam front (g.ds ++ g.ys))
      ∙ drop-append-le g.p g.ds g.ys inside in
      let front_length : length (take 2 raw ++ g.x) ≡ 2 + length g.x = omega (arith, length-append (take 2 raw) g.x) in (
        record {
          x = take 2 raw ++ g.x;
          k = g.k;
          ds = g.ds;
          ys = g.ys;
          zs = g.ys;
          p = g.p;
          ascii = g.ascii;
          stop = g.stop;
          is = sym (take-append-drop 2 raw) ∙ ap (λ (l : List ℕ). take 2 raw ++ l) g.is ∙ sym (append_assoc (take 2 raw) g.x (g.k ∷ (g.ds ++ g.ys)));
          fails = g.fails;
          from = omega (arith, g.place);
          to = ap (past_failing d (s + 2 + q)) left;
        },
        subst (Stand raw g.ds) (omega arith) (g.anchor raw (begins_is raw named)),
      )

  character_there : (v : Result ℕ CharError) → begins (spelled "#\\") i.bytes ≡ true → Of (char_inside i.bytes) v
      → There (character_sets true v unset s i) (character_means v)
  character_there (Ok c) b h = other unset kind.CharacterLiteral c none (λ e. omega arith)
  character_there (Err (Wrong n d)) b h = other (range s i.at) (kind.first_error + n) d none (λ e. h (omega arith))
  character_there (Err (WrongAt n d q)) b h = failing_there n d (s + 2 + q) _ (λ m. named_digits d q b (h m))

  there : (o : Outcome) → Told s i.bytes o → ((n d a b : ℕ) → o ≡ ErrorAt n d a b → begins (codes "#\\") i.bytes ≡ false)
      → There (range_after true unset s o i) (meaning_of true o s i.at i.bytes)
  there (Token k d) h z = other unset k d none (λ e. omega arith)
  there Str h z = other unset kind.StringLiteral 0 (string_text s i.at i.bytes) (λ e. omega arith)
  there HereStr h z = other unset kind.StringLiteral 0 (here_text s i.at i.bytes) (λ e. omega arith)
  there Word h z = word_there unset
  there Run h z = run_there unset (parse_number i.bytes)
  there Lined h z = other unset kind.Identifier 0 (lined_text s i.at i.bytes) (λ e. omega arith)
  there Keyword h z = other unset kind.Keyword 0 (source s i.at) (λ e. omega arith)
  there Character h z = character_there (character_of true (char_inside i.bytes)) h (of_character (char_inside i.bytes))
  there (Error n d) h z = other unset (kind.first_error + n) d none (λ e. omega arith)
  there (ErrorAt n d a b) h z = failing_there n d a b (λ m. let g = h m in (g.0, stand_quoted i.bytes g.0.ds (length g.0.x + 1) (z n d a b refl) g.1))

-- of every item of a text: F is what digits that fail in an extent, which are whole characters of it, tell
module _ (F : ℕ → ℕ → ℕ → ℕ → ℕ → Type 0) (whole : List ℕ)
    (tell : (s : ℕ) (i : SoFar) (rest cs : List ℕ) → drop s whole ≡ i.bytes ++ rest → i.at ≡ s + length i.bytes → i.bytes ≡ bytes_of cs → Every IsChar cs
    → (d a b : ℕ) → FailingDigits s i.bytes d a b
    → F s i.at d a b) where
  pub extent_eleven : (last : Place) (at c : ℕ) (cs : List ℕ) → drop at whole ≡ bytes_of (c ∷ cs) → Every IsChar (c ∷ cs) → Every (Eleven F) (items_there true last at c cs)
  unfolding extent_items
  extent_eleven last at c cs e good =
      let r : Read = read_item true at c cs in
      let k : Taken true at c cs = taken true at c cs in
      let stands : drop at whole ≡ r.item.bytes ++ bytes_of r.rest
      = e ∙ ap (λ (l : List ℕ). bytes_of (c ∷ l)) k.whole ∙ bytes_append (c ∷ k.more) r.rest ∙ ap (λ (l : List ℕ). l ++ bytes_of r.rest) (sym k.bytes) in
      let chars : Every IsChar (c ∷ k.more) = every_left IsChar (c ∷ k.more) r.rest (subst (λ (l : List ℕ). Every IsChar (c ∷ l)) k.whole good) in
      there F at r.item (tell at r.item (bytes_of r.rest) (c ∷ k.more) stands (read_at true at c cs) k.bytes chars) r.what (read_told at c cs)
      (λ n d a b f. not_marked at c cs n d a b f)

  pub eleven_items : (cs : List ℕ) → bytes_of cs ≡ whole → Every IsChar cs → Every (Eleven F) (items true cs)
  eleven_items cs e good = every_item true whole IsChar (Eleven F) (λ last at c ds f h. extent_eleven last at c ds f h) cs (sym e) good
