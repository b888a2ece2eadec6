-- Where an error of report mode points to: up to a place in the text. What is not closed is pointed at from its opening characters on, and has
-- them in the text.
use Rattle.std.proofs.Common.{Ok, Err, Result}
use Prim.Native.Nat.{ℕ, ◌+◌, ◌≤◌, ◌<◌}
use mathlib.Core.Path.{◌≡◌, refl, sym, subst}
use mathlib.Core.Bool.{Bool, true, false, ◌&&◌}
use mathlib.Core.List.{List, [], ◌∷◌}
use mathlib.Core.Logic.{inl, inr}
use lib.ListN.{length, drop, length-drop}
use lib.Dec.{eqb, leb, ltb}
use native.Mathlib.Omega.{arith}
use borrow.Author.Tests.{eqb-true, ltb-true}
use Rattle.laws.specs.Quoted.{code, one_of}
use Rattle.laws.proofs.Choice.{by_bool, and_true, no_yes, if_all}
use Rattle.chars.specs.Utf8.{chars}
use Rattle.chars.specs.Encode.{width}
use Rattle.chars.specs.Blank.{is_blank}
use Rattle.numbers.specs.Grammar.{parse_number, Parsed}
use Rattle.numbers.specs.declared.ParseError.TheVariants as parsed
use Rattle.items.specs.Kinds as kind
use Rattle.items.specs.Points.{PointsAt, escape_errors}
use Rattle.items.specs.declared.Outcome.{Outcome}
use Rattle.items.specs.declared.Outcome.TheVariants.{Token, Str, HereStr, Word, Run, Lined, Keyword, Character, Error, ErrorAt}
use Rattle.items.specs.declared.CharError.{CharError}
use Rattle.items.specs.declared.CharError.TheVariants.{Wrong, WrongAt}
use Rattle.items.specs.Readers.{Read, SoFar, first_is, read_item}
use Rattle.items.specs.Meaning.{Meaning, word_kind, word_means, run_means, character_of, character_means, char_inside, meaning_of}
use Rattle.items.specs.Items.{Place, Item, range, unset, is_set, place_of, character_sets, items_of, extent_items, range_after, byte_count}
use Rattle.items.proofs.Every.{Every, every_any}
use Rattle.items.proofs.Failing.{Named, character_inside, past_within}
use Rattle.items.proofs.Fine.{Fine}
use Rattle.items.proofs.Outcomes.{read_fine}
use Rattle.items.proofs.Meanings.{word_le}
use Rattle.items.proofs.Own.{Own, Fails, holds, character_fails}
use Rattle.items.proofs.OwnSteps.{read_own}
use Rattle.items.proofs.Splits.{read_at, read_forward, read_end}
use Rattle.meaning.specs.Places.{place_in}
use Rattle.lexer.specs.Reading.{moved, pick, turn_at, turn_from, turn}
use Rattle.lexer.specs.declared.Spot.{Spot}
use Rattle.lexer.proofs.CharacterAt.{room}
use Rattle.lines_theorems.proofs.Along.{along}
use Rattle.lines_theorems.proofs.Outcomes.{Second, Known, read_known}
use Rattle.findings_theorems.proofs.Turns.{Given}

-- the law that says nothing
abbrev Any : ℕ → Type 0
Any _ = Unit {0}

-- the kind of error 4
abbrev pub four : ℕ
four = kind.first_error + kind.IncompleteComment

-- the place of an item of kind k that starts at s, in a text of n bytes; with no error, or one of 1 to 4, it starts there too, and a comment that
-- is not closed has two bytes or more
abbrev pub Spans : ℕ → ℕ → ℕ → Place → Type 0
Spans n s k l = (l.from ≤ l.to) × (l.to ≤ n) × (k ≤ four → l.from ≡ s) × (k ≡ four → s + 2 ≤ n)

abbrev pub Spanned : ℕ → Item → Type 0
Spanned n i = Spans n i.start i.kind i.place

-- an error that points at an escape is none of 1 to 4
escape_large : (m : ℕ) → one_of escape_errors m ≡ true → kind.UnclosedHexEscape ≤ m
escape_large m h = by_bool (eqb m kind.UnclosedHexEscape)
    (λ b. omega (arith, eqb-true m kind.UnclosedHexEscape b))
    (λ b. by_bool (eqb m kind.InvalidHexCodePoint)
    (λ c. omega (arith, eqb-true m kind.InvalidHexCodePoint c))
    (λ c. no_yes (rw (b, c) at h)))

module _ (n : ℕ) where
  -- ---- the range that an extent from s to e sets

  module _ (s e : ℕ) (some : s < e) (ends : e ≤ n) where
    points_span : (m a b : ℕ) → (m ≡ kind.IncompleteComment → s + 2 ≤ e) → b ≤ n → PointsAt s e m a b → Spans n s (kind.first_error + m) (range a b)
    points_span m a b two k (PointsAt.extent o f g) =
        (omega arith, omega arith, (λ q. f), (λ q. let z : s + 2 ≤ e = two (omega arith) in omega arith))
    points_span m a b two k (PointsAt.escape o f g h) =
        let z : kind.UnclosedHexEscape ≤ m = escape_large m o in (omega arith, omega arith, (λ q. absurd (omega arith)), (λ q. absurd (omega arith)))
    points_span m a b two k (PointsAt.failing o f g h) = (g, omega arith, (λ q. absurd (omega arith)), (λ q. absurd (omega arith)))
    points_span m a b two k (PointsAt.delimiter o f g h) = (omega arith, omega arith, (λ q. absurd (omega arith)), (λ q. absurd (omega arith)))
    points_span m a b two k (PointsAt.stopped o f g h) =
        (omega arith, k, (λ q. absurd (omega arith)), (λ q. absurd (omega arith)))
    points_span m a b two k (PointsAt.backslash o f g h j) =
        (omega arith, k, (λ q. absurd (omega arith)), (λ q. absurd (omega arith)))

    -- of a meaning: its range, if it is set, and the extent
    abbrev KindSets : Place → ℕ → Type 0
    KindSets l k = (is_set true l ≡ true → Spans n s k l) × (k ≡ four → s + 2 ≤ e)

    abbrev Sets : Place → Meaning → Type 0
    Sets l m = KindSets l m.kind

    place_span : (m : Meaning) (l : Place) → Sets l m → Spans n s m.kind (place_of true m.kind l (range s e))
    place_span m l r = by_bool (leb kind.first_error m.kind && is_set true l)
        (λ b. rw b (r.0 (and_true (leb kind.first_error m.kind) (is_set true l) b).1))
        (λ b. rw b (omega arith, ends, (λ q. refl), (λ q. let z : s + 2 ≤ e = r.1 q in omega arith)))

    items_span : (l : Place) (ms : List Meaning) → Every (Sets l) ms → Every (Spanned n) (items_of true l s e ms)
    items_span l [] h = tt
    items_span l (m ∷ ms) h = (place_span m l h.0, items_span l ms h.1)

    -- ---- what sets no range

    unset_fine : (k : ℕ) → k < kind.first_error → KindSets unset k
    unset_fine k h = ((λ x. no_yes x), (λ q. absurd (omega arith)))

    word_sets : (raw : List ℕ) → Every (Sets unset) (word_means s e raw)
    unfolding word_means
    word_sets raw =
        let E : List Meaning → Type 0 = Every (Sets unset) in
        if_all E (eqb (word_kind raw) kind.Identifier)
        (if_all E (first_is (code "+") raw && ltb 1 (length raw)) (unset_fine _ (omega arith), (unset_fine _ (omega arith), tt)) (unset_fine _ (omega arith), tt))
        (unset_fine _ (omega (arith, word_le raw)), tt)

    run_sets : (p : Parsed) (raw : List ℕ) → Every (Sets unset) (run_means p s e raw)
    unfolding run_means
    run_sets (Ok p) raw = (unset_fine _ (omega arith), tt)
    run_sets (Err parsed.NoNumber) raw = word_sets raw
    run_sets (Err parsed.ZeroDenominator) raw = (((λ x. no_yes x), (λ q. absurd (omega arith))), tt)

  module _ (s : ℕ) (i : SoFar) (some : s < i.at) (ends : i.at ≤ n) (long : i.at ≡ s + length i.bytes) where
    abbrev S : Place → List Meaning → Type 0
    S l ms = Every (Sets s i.at some ends l) ms

    fine : (k : ℕ) → k < kind.first_error → KindSets s i.at some ends unset k
    fine = unset_fine s i.at some ends

    character_sets_lem : (v : Result ℕ CharError) → 1 < length i.bytes → Named (length (char_inside i.bytes)) v → Fails (char_inside i.bytes) v
        → S (character_sets true v unset s i) (character_means v)
    character_sets_lem (Ok c) two h f = (fine _ (omega arith), tt)
    character_sets_lem (Err (Wrong e d)) two h f =
        (((λ x. (omega arith, ends, (λ q. refl), (λ q. omega arith))), (λ q. omega arith)), tt)
    character_sets_lem (Err (WrongAt e d p)) two h f =
        let w = past_within d (s + 2 + p) (drop p (char_inside i.bytes)) in
        let big : kind.InvalidHexEscapeLiteral ≤ e = large f in (
          (
            (λ x. (
              w.0,
              omega (arith, w.1, h.0, h.1, length-drop 2 i.bytes, length-drop p (char_inside i.bytes)),
              (λ q. absurd (omega arith)),
              (λ q. absurd (omega arith)),
            )),
            (λ q. omega arith),
          ),
          tt,
        )
      where
        large : Fails (char_inside i.bytes) (Err (WrongAt e d p)) → kind.InvalidHexEscapeLiteral ≤ e
        large (inl k) = omega arith
        large (inr k) = let z : e ≡ kind.InvalidCharDelimiter = k.0 in omega arith

    error_two : (e : ℕ) → (e ≡ kind.IncompleteComment → Second i.bytes) → e ≡ kind.IncompleteComment → s + 2 ≤ i.at
    error_two e l k = omega (arith, (l k).0)

    outcome_sets : (o : Outcome) → Own s i.at o → Fine Any n i.bytes o → Known Any true i.bytes o
        → S (range_after true unset s o i) (meaning_of true o s i.at i.bytes)
    outcome_sets (Token k d) w g l = (fine _ (ltb-true k kind.first_error (holds (ltb k kind.first_error) w)), tt)
    outcome_sets Str w g l = (fine _ (omega arith), tt)
    outcome_sets HereStr w g l = (fine _ (omega arith), tt)
    outcome_sets Word w g l = word_sets s i.at some ends i.bytes
    outcome_sets Run w g l = run_sets s i.at some ends (parse_number i.bytes) i.bytes
    outcome_sets Lined w g l = (fine _ (omega arith), tt)
    outcome_sets Keyword w g l = (fine _ (omega arith), tt)
    outcome_sets Character w g l = character_sets_lem (character_of true (char_inside i.bytes)) l.0
        (character_inside true (char_inside i.bytes)) (character_fails (char_inside i.bytes))
    outcome_sets (Error e d) w g l = (((λ x. no_yes x), (λ q. error_two e l (omega arith))), tt)
    outcome_sets (ErrorAt e d a b) w g l =
        (((λ x. points_span s i.at some ends e a b (error_two e l.0) g.1.1 w.1), (λ q. error_two e l.0 (omega arith))), tt)

  extent_span : (last : Place) (at c : ℕ) (cs : List ℕ) → at + byte_count (c ∷ cs) ≤ n
      → Every (Spanned n) (extent_items true last at (read_item true at c cs).what (read_item true at c cs).item)
  unfolding extent_items
  extent_span last at c cs h =
      let r : Read = read_item true at c cs in
      let f : at < r.item.at = read_forward true at c cs in
      let g : r.item.at ≤ n = omega (arith, h, read_end true at c cs) in
      items_span at r.item.at f g (range_after true unset at r.what r.item) (meaning_of true r.what at r.item.at r.item.bytes)
      (outcome_sets at r.item f g (read_at true at c cs) r.what (read_own at c cs) (read_fine Any (λ _ _. tt) n true at c cs h (every_any Any (λ _. tt) (c ∷ cs)))
      (read_known Any true at c cs (along Any at (c ∷ cs) (λ _. tt))))

  -- ---- a turn in report mode

  pick_span : (second : Bool) (stay past : Spot) (is : List Item) → Every (Spanned n) is → Given (Spanned n) (pick second stay past is)
  pick_span second stay past [] h = tt
  pick_span second stay past (i ∷ []) h = h.0
  pick_span true stay past (i ∷ (j ∷ is)) h = h.1.0
  pick_span false stay past (i ∷ (j ∷ is)) h = h.0

  at_span : (p : Spot) → p.report ≡ true → (at c : ℕ) (cs : List ℕ) → at + byte_count (c ∷ cs) ≤ n → Given (Spanned n) (turn_at p at c cs)
  at_span p e at c cs h =
      let r : Read = read_item p.report at c cs in
      pick_span p.second (moved p at (place_in p.last) true)
      (moved p r.item.at (range_after p.report (place_in p.last) at r.what r.item) false)
      (extent_items p.report (place_in p.last) at r.what r.item)
      (subst (λ (b : Bool). Every (Spanned n) (extent_items b (place_in p.last) at (read_item b at c cs).what (read_item b at c cs).item)) (sym e)
      (extent_span (place_in p.last) at c cs h))

  from_span : (p : Spot) → p.report ≡ true → (at : ℕ) (cs : List ℕ) → at + byte_count cs ≤ n → Given (Spanned n) (turn_from p at cs)
  unfolding turn_from
  from_span p e at [] h = tt
  from_span p e at (c ∷ cs) h = by_bool (is_blank c)
      (λ b. rw (b, turn_from) (from_span p e (at + width c) cs (omega arith)))
      (λ b. rw (b, turn_from) (at_span p e at c cs h))

pub turn_span : (s : List ℕ) (p : Spot) → p.report ≡ true → p.at ≤ length s → Given (Spanned (length s)) (turn s p)
unfolding turn
turn_span s p e h = from_span (length s) p e p.at (chars (drop p.at s)) (room s (chars (drop p.at s)) p.at h refl)
