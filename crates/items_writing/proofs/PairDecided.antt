-- The code's decision on a pair is the definition's `splits`.
use Rattle.std.proofs.Common.{None, Option, Some, Ok, Err, Result}
use Prim.Native.Nat.{ℕ, suc, ◌+◌, ◌≤◌, ◌<◌}
use mathlib.Core.Path.{◌≡◌, refl, sym, ap, subst, ◌∙◌}
use mathlib.Core.Bool.{Bool, true, false, not, ◌&&◌}
use mathlib.Core.List.{List, [], ◌∷◌, ◌++◌, append-nil, append_assoc}
use lib.ListN.{length, take, drop, length-drop}
use lib.Dec.{eqb, ltb}
use native.Mathlib.Omega.{arith}
use borrow.Author.Tests.{eq-eqb, eqb-true, lt-ltb, le-ltb, ltb-true, ltb-false}
use Rattle.laws.specs.Quoted.{code, codes}
use Rattle.laws.specs.Texts.{span, starts, same}
use Rattle.laws.proofs.Runs.{span_le}
use Rattle.laws.proofs.Choice.{by_bool, and_true, and_yes, and_no, no_yes}
use Rattle.chars.specs.Blank.{is_blank}
use Rattle.chars.specs.Encode.{utf8, width, bytes_of}
use Rattle.chars.specs.Utf8.{chars, first_bad}
use Rattle.chars.proofs.Good.{Scalars, good_bytes_lem, good_scalars}
use Rattle.chars.proofs.Chars.{chars-char}
use Rattle.chars.proofs.Round.{one_read}
use Rattle.chars.proofs.Width.{width-utf8}
use Rattle.numbers.specs.declared.ParseError.TheVariants as parsed
use Rattle.numbers.specs.Grammar.{parse_number, numeric, Parsed}
use Rattle.items.specs.declared.Outcome.{Outcome}
use Rattle.items.specs.declared.Outcome.TheVariants.{Token, Str, HereStr, Word, Run, Lined, Keyword, Character, Error, ErrorAt}
use Rattle.items.specs.declared.CharError.{CharError}
use Rattle.items.specs.declared.CharError.TheVariants.{Wrong, WrongAt}
use Rattle.items.specs.declared.Quotes.TheVariants.{Lines}
use Rattle.items.specs.declared.Phase.TheVariants as ph
use Rattle.items.specs.Classes.{first_of, starts_run, in_word, in_run, stays_run, ends_run}
use Rattle.items.specs.Readers.{SoFar, so_far, eat, Read, read_item}
use Rattle.items.specs.Meaning.{Meaning, meaning_of, lookup, words, word_kind, word_means, run_means, character_of, char_inside, character_means}
use Rattle.items.specs.Items.{Item, Place, unset, range_after, item_of, items_of, extent_items, items_from, items, byte_count}
use Rattle.items.specs.Kinds as kind
use Rattle.items.proofs.Cases.{by_word}
use Rattle.items.proofs.OneOrTwo.{OneOrTwo, few_items}
use Rattle.items.proofs.Order.{items_length}
use Rattle.items.proofs.Splits.{length_bytes}
use Rattle.steps.specs.Runs.{of_run}
use Rattle.steps.proofs.Kept.{kept_stays}
use Rattle.items_r7rs.proofs.Reading.{whole}
use Rattle.items_r7rs.proofs.Bytes.{utf8_low, bytes_ascii}
use Rattle.items_r7rs.proofs.Written.{stays_ascii}
use Rattle.items_writing.specs.Written.{gap, is_part, named, is_pair, splits}
use Rattle.items_writing.specs.Decide.{stand_from, is_pair_of, pairs_as, lines_as}
use Rattle.items_writing.proofs.Places.{tested, plus_spelled, plus_scalars}
use Rattle.items_writing.proofs.BareDecided.{Scanned, scanned, after_gap}
use Rattle.items_writing.proofs.PlusLines.{in_lines}

-- ---- after a plus, the machine does not look at what was read

-- in a word, and after a backslash in one
mutual
  unfolding stand_from

  in_word_lem : (i j : SoFar) (cs : List ℕ) → stand_from false ph.InWord i cs ≡ stand_from false ph.InWord j cs
  in_word_lem i j [] = refl
  in_word_lem i j (c ∷ cs) = by_word (in_word c)
      (λ e. rw (e, stand_from))
      (λ e. rw (e, stand_from) (after_backslash_lem (eat i c) (eat j c) cs))
      (λ e. rw (e, stand_from) (in_word_lem (eat i c) (eat j c) cs))

  after_backslash_lem : (i j : SoFar) (cs : List ℕ) → stand_from false ph.WordEscape i cs ≡ stand_from false ph.WordEscape j cs
  after_backslash_lem i j [] = refl
  after_backslash_lem i j (c ∷ cs) = in_word_lem (eat i c) (eat j c) cs

-- a character that ends the run, but for a vertical line
past_run : (i j : SoFar) (c : ℕ) (cs : List ℕ) → stays_run c ≡ false → eqb c (code "|") ≡ false → stand_from false ph.InRun i (c ∷ cs) ≡ stand_from false ph.InRun j (c ∷ cs)
unfolding stand_from in_run
past_run i j c cs e f = by_bool (ends_run true c)
    (λ g. rw (e, g, stand_from))
    (λ g. by_word (in_word c)
    (λ h. rw (e, g, f, stand_from) (rw (f, h, stand_from)))
    (λ h. rw (e, g, f, stand_from) (rw (f, h, stand_from) (after_backslash_lem (eat i c) (eat j c) cs)))
    (λ h. rw (e, g, f, stand_from) (rw (f, h, stand_from) (in_word_lem (eat i c) (eat j c) cs))))

-- the end of the word, before a space
run_closes : (i j : SoFar) → stand_from false ph.InRun i [] ≡ stand_from false ph.InRun j []
unfolding stand_from in_run stays_run ends_run is_blank
run_closes i j = refl

-- ---- what an extent's items say

module _ (p : Place) (t : List ℕ) where
  abbrev raw : List ℕ
  raw = code "+" ∷ t

  abbrev n : ℕ
  n = length raw

  -- no word with a kind begins with a plus
  plain_kind_lem : eqb (word_kind raw) kind.Identifier ≡ true
  unfolding word_kind lookup words same bytes_of utf8
  plain_kind_lem = refl

  word_pair : is_pair n (items_of true p 0 n (word_means 0 n raw)) ≡ ltb 0 (length t)
  unfolding word_means
  word_pair = by_bool (ltb 0 (length t))
      (λ e. let f : ltb 1 n ≡ true = lt-ltb 1 n (omega (arith, ltb-true 0 (length t) e)) in rw (plain_kind_lem, e) (rw f (rw (eq-eqb n n refl))))
      (λ e. let f : ltb 1 n ≡ false = le-ltb 1 n (omega (arith, ltb-false 0 (length t) e)) in rw (plain_kind_lem, e) (rw f))

  run_pair : (q : Parsed) → is_pair n (items_of true p 0 n (run_means q 0 n raw)) ≡ (ltb 0 (length t) && not (numeric q))
  unfolding run_means
  run_pair (Ok x) = sym (and_no (ltb 0 (length t)))
  run_pair (Err parsed.NoNumber) = word_pair ∙ sym (and_yes (ltb 0 (length t)))
  run_pair (Err parsed.ZeroDenominator) = sym (and_no (ltb 0 (length t)))

  character_pair : (v : Result ℕ CharError) → is_pair n (items_of true p 0 n (character_means v)) ≡ false
  character_pair (Ok c) = refl
  character_pair (Err (Wrong e d)) = refl
  character_pair (Err (WrongAt e d q)) = refl

  meant_pair : (o : Outcome) → is_pair n (items_of true p 0 n (meaning_of true o 0 n raw)) ≡ is_pair_of o t
  unfolding is_pair_of
  meant_pair (Token k d) = refl
  meant_pair Str = refl
  meant_pair HereStr = refl
  meant_pair Word = word_pair
  meant_pair Run = run_pair (parse_number raw)
  meant_pair Lined = refl
  meant_pair Keyword = refl
  meant_pair Character = character_pair (character_of true (char_inside raw))
  meant_pair (Error e d) = refl
  meant_pair (ErrorAt e d x y) = refl

-- an extent that ends elsewhere is not that pair
not_named : (p : Place) (b e : ℕ) (m : Meaning) (x y : ℕ) → eqb e b ≡ false → named 0 b x y (item_of true p 0 e m) ≡ false
not_named p b e m x y f = rw f (and_mid (eqb m.kind kind.Identifier && eqb m.detail 0 && eqb 0 0) (is_part x y m.text))
  where
    and_mid : (x y : Bool) → (x && false && y) ≡ false
    and_mid true y = refl
    and_mid false y = refl

elsewhere : (p : Place) (b e : ℕ) (ms : List Meaning) (is : List Item) → 1 ≤ length ms → eqb e b ≡ false → is_pair b (items_of true p 0 e ms ++ is) ≡ false
elsewhere p b e [] is h f = absurd (omega arith)
elsewhere p b e (m ∷ []) [] h f = refl
elsewhere p b e (m ∷ []) (i ∷ []) h f = rw (not_named p b e m 0 1 f)
elsewhere p b e (m ∷ []) (i ∷ j ∷ is) h f = refl
elsewhere p b e (m ∷ o ∷ []) [] h f = rw (not_named p b e m 0 1 f)
elsewhere p b e (m ∷ o ∷ []) (i ∷ is) h f = refl
elsewhere p b e (m ∷ o ∷ l ∷ ms) is h f = refl

-- ---- a plus and t

module _ (v : List ℕ) where
  abbrev stand : Option Outcome
  stand = stand_from false ph.InRun (eat (so_far [] 0) (code "+")) v

  abbrev r : Read
  r = read_item true 0 (code "+") (v ++ gap false)

  stands : Scanned stand false (whole 0 (code "+" ∷ v)) r
  unfolding first_of starts_run is_blank
  stands = scanned (code "+") v false 0 0 refl

  spelled : bytes_of (code "+" ∷ v) ≡ code "+" ∷ bytes_of v
  spelled = plus_spelled v

  ends_is : (p : Place) (o : Outcome) (b e : ℕ) (raw : List ℕ) → b ≡ length (code "+" ∷ bytes_of v) → e ≡ b → raw ≡ code "+" ∷ bytes_of v
      → is_pair b (items_of true p 0 e (meaning_of true o 0 e raw)) ≡ is_pair_of o (bytes_of v)
  ends_is p o b e raw f g h = rw (g, f, h) (meant_pair p (bytes_of v) o)

  by_stand : (turns : ℕ) (s : Option Outcome) → Scanned s false (whole 0 (code "+" ∷ v)) r
      → is_pair (byte_count (code "+" ∷ v)) (extent_items true unset 0 r.what r.item ++ items_from true turns (range_after true unset 0 r.what r.item) r.item.at r.rest)
      ≡ pairs_as s (bytes_of v)
  unfolding extent_items
  by_stand turns (Some o) q =
      let e : ℕ = 0 + byte_count (code "+" ∷ v) in
      let z : e ≡ byte_count (code "+" ∷ v) = omega arith in
      let l : byte_count (code "+" ∷ v) ≡ length (code "+" ∷ bytes_of v) = sym (length_bytes (code "+" ∷ v)) ∙ ap length spelled in
      let p : Place = range_after true unset 0 o (whole 0 (code "+" ∷ v)) in
      rw q (rw (after_gap false turns p e, append-nil (items_of true p 0 e (meaning_of true o 0 e (bytes_of (code "+" ∷ v)))))
      (ends_is p o (byte_count (code "+" ∷ v)) e (bytes_of (code "+" ∷ v)) l z spelled))
  by_stand turns None q =
      let z : 0 + byte_count (code "+" ∷ v) ≡ byte_count (code "+" ∷ v) = omega arith in
      let p : Place = range_after true unset 0 r.what r.item in
      let ms : List Meaning = meaning_of true r.what 0 r.item.at r.item.bytes in
      let f : OneOrTwo (extent_items true unset 0 r.what r.item) = few_items true unset 0 r.what r.item in
      let l : length (items_of true p 0 r.item.at ms) ≡ length ms = items_length true 0 r.item.at p ms in
      elsewhere p (byte_count (code "+" ∷ v)) r.item.at ms (items_from true turns p r.item.at r.rest) (omega (arith, f.0)) (rw z at q)

  pair_is : is_pair (byte_count (code "+" ∷ v)) (items true (code "+" ∷ v ++ gap false)) ≡ pairs_as stand (bytes_of v)
  unfolding items items_from is_blank
  pair_is = by_stand (length (v ++ gap false)) stand stands

splits_decided : (v : List ℕ) → Scalars v → splits (code "+" ∷ bytes_of v) ≡ pairs_as (stand v) (bytes_of v)
unfolding splits
splits_decided v h =
    let u : is_pair (length (bytes_of (code "+" ∷ v))) (items true (chars (bytes_of (code "+" ∷ v) ++ gap false))) ≡ pairs_as (stand v) (bytes_of v)
    = rw (tested true false (code "+" ∷ v) (plus_scalars v h), length_bytes (code "+" ∷ v)) (pair_is v) in
    rw (plus_spelled v) at u

-- ---- the run that follows the plus

-- a byte of it is a character, with which the machine goes on
module _ (b : ℕ) (s : List ℕ) (e : of_run b ≡ true) where
  low : ltb b 0x80 ≡ true
  low = (and_true (ltb b 0x80) (stays_run b) e).0

  first_char : chars (b ∷ s) ≡ b ∷ chars s
  first_char = chars-char (b ∷ s) b 1 (one_read b s (ltb-true b 0x80 low))

  first_byte : (i : SoFar) → eat i b ≡ so_far (i.bytes ++ (b ∷ [])) (i.at + 1)
  first_byte i =
      let u : utf8 b ≡ b ∷ [] = utf8_low b low in
      let w : width b ≡ 1 = sym (width-utf8 b) ∙ ap length u in
      rw (u, w)

  goes_on : (i : SoFar) → stand_from false ph.InRun i (chars (b ∷ s)) ≡ stand_from false ph.InRun (so_far (i.bytes ++ (b ∷ [])) (i.at + 1)) (chars s)
  unfolding stand_from
  goes_on i = rw first_char (rw (kept_stays true ph.InRun i b e, stand_from) (rw (first_byte i)))

run_on : (s : List ℕ) (i : SoFar) → stand_from false ph.InRun i (chars s) ≡ stand_from false ph.InRun
    (so_far (i.bytes ++ take (span of_run s) s) (i.at + span of_run s)) (chars (drop (span of_run s) s))
unfolding span
run_on [] i = let z : i.at + 0 ≡ i.at = omega arith in rw (append-nil i.bytes, z)
run_on (b ∷ s) i = by_bool (of_run b)
    (λ e. let z : i.at + 1 + span of_run s ≡ i.at + suc (span of_run s) = omega arith in
    rw e (goes_on b s e i ∙ (run_on s (so_far (i.bytes ++ (b ∷ [])) (i.at + 1)) ∙ rw (append_assoc i.bytes (b ∷ []) (take (span of_run s) s), z))))
    (λ e. let z : i.at + 0 ≡ i.at = omega arith in rw e (rw (append-nil i.bytes, z)))

-- what follows it is whole characters too, and does not go on with it
rest_whole : (s : List ℕ) → bytes_of (chars s) ≡ s → bytes_of (chars (drop (span of_run s) s)) ≡ drop (span of_run s) s
unfolding span
rest_whole [] h = h
rest_whole (b ∷ s) h = by_bool (of_run b)
    (λ e. rw e (rest_whole s (ap (drop 1) (sym (bytes_ascii b (chars s) (low b s e)) ∙ (ap bytes_of (sym (first_char b s e)) ∙ h)))))
    (λ e. rw e h)

rest_ends : (s : List ℕ) → span of_run (drop (span of_run s) s) ≡ 0
unfolding span
rest_ends [] = refl
rest_ends (b ∷ s) = by_bool (of_run b) (λ e. rw e (rest_ends s)) (λ e. rw (e, span) (rw e))

-- past it the machine does not look at what was read, unless a vertical line stands there
module _ (i j : SoFar) where
  none_left : (v : List ℕ) → span of_run (bytes_of v) ≡ 0 → starts (code "|") (bytes_of v) ≡ false → stand_from false ph.InRun i v ≡ stand_from false ph.InRun j v
  unfolding stand_from span starts
  none_left [] h g = run_closes i j
  none_left (c ∷ v) h g = past_run i j c v
      (by_bool (stays_run c) (λ e. let l = stays_ascii c e in let z : suc (span of_run (bytes_of v)) ≡ 0 = sym (rw (bytes_ascii c v l, l, e)) ∙ h in absurd (omega arith)) (λ e. e))
      (by_bool (eqb c (code "|")) (λ e. no_yes (sym g ∙ rw (eqb-true c (code "|") e) (rw (bytes_ascii (code "|") v refl)))) (λ e. e))

-- ---- by bytes, where the run ends at k: what each branch of the code says

module _ (s : List ℕ) (good : first_bad s ≡ None) (k : ℕ) (ends : k ≡ 0 + span of_run s) where
  is_run : span of_run s ≡ k
  is_run = omega (arith, ends)

  pub run_inside : k ≤ length s
  run_inside = omega (arith, span_le of_run s, is_run)

  abbrev rest : List ℕ
  rest = drop k s

  past_plus : splits (code "+" ∷ s) ≡ pairs_as (stand_from false ph.InRun (so_far (code "+" ∷ take k s) (1 + k)) (chars rest)) s
  unfolding stand_from utf8 width
  past_plus =
      subst (λ (x : List ℕ). splits (code "+" ∷ x) ≡ pairs_as (stand (chars s)) x) (good_bytes_lem s good) (splits_decided (chars s) (good_scalars s good))
      ∙ (ap (λ (w : Option Outcome). pairs_as w s) (run_on s (so_far (code "+" ∷ []) 1)) ∙ rw is_run)

  -- no vertical line
  module _ {w : Option Outcome} (e : w ≡ stand_from false ph.InRun (so_far (take k s) k) (chars rest)) (no : false ≡ starts (code "|") rest) where
    without_plus : splits (code "+" ∷ s) ≡ pairs_as w s
    without_plus =
        let u : bytes_of (chars rest) ≡ rest = rw is_run at (rest_whole s (good_bytes_lem s good)) in
        let z : span of_run rest ≡ 0 = rw is_run at (rest_ends s) in
        past_plus ∙ ap (λ (x : Option Outcome). pairs_as x s) (none_left (so_far (code "+" ∷ take k s) (1 + k)) (so_far (take k s) k) (chars rest) (rw u z) (rw u (sym no)) ∙ sym e)

    pub pair_ends : {o : Outcome} {r : Bool} → w ≡ Some o → r ≡ is_pair_of o s → r ≡ splits (code "+" ∷ s)
    pair_ends f g = g ∙ sym (without_plus ∙ rw f)

    pub pair_apart : w ≡ None → false ≡ splits (code "+" ∷ s)
    pair_apart f = sym (without_plus ∙ rw f)

  -- a vertical line
  module _ (line : true ≡ starts (code "|") rest) where
    rest_is : rest ≡ code "|" ∷ drop 1 rest
    unfolding starts
    rest_is = go rest (sym line)
      where
        go : (l : List ℕ) → starts (code "|") l ≡ true → l ≡ code "|" ∷ drop 1 l
        go [] h = no_yes h
        go (b ∷ l) h = rw (eqb-true b (code "|") h)

    pub line_there : 1 ≤ length rest
    line_there = let l : length rest ≡ suc (length (drop 1 rest)) = ap length rest_is in omega arith

    line_char : chars rest ≡ code "|" ∷ chars (drop 1 rest)
    line_char = ap chars rest_is ∙ chars-char (code "|" ∷ drop 1 rest) (code "|") 1 (one_read (code "|") (drop 1 rest) (omega arith))

    pub pair_number : true ≡ numeric (parse_number (code "+" ∷ take k s)) → false ≡ splits (code "+" ∷ s)
    unfolding stand_from in_run stays_run ends_run is_blank
    pair_number h = sym (past_plus ∙ rw line_char (rw (← h, stand_from)))

    pub pair_lined : {r : Bool} {l : List ℕ} → false ≡ numeric (parse_number (code "+" ∷ take k s)) → l ≡ rest
        → r ≡ lines_as (stand_from false (ph.Quoted Lines) (so_far (take 1 l) 1) (chars (drop 1 l))) → r ≡ splits (code "+" ∷ s)
    unfolding stand_from in_run stays_run ends_run is_blank utf8 width
    pair_lined h e g =
        let one : take 1 rest ≡ code "|" ∷ [] = ap (take 1) rest_is in
        let some : 0 < length s = omega (arith, line_there, length-drop k s) in
        rw e at g ∙ sym (past_plus ∙ rw line_char
        (rw (← h, stand_from) (in_lines (take k s) s some (so_far (code "+" ∷ take k s ++ codes "|") (1 + k + 1)) (so_far (take 1 rest) 1) (chars (drop 1 rest))
        (record { inside = []; alone = one; after = refl }))))
