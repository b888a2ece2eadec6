-- The places of an item's record are places that the question about lines answers, and never with 34 (`record_answered`): its extent, its
-- place and its text in the source each start and end between two characters. That is one induction over the items with a law M of the
-- places between characters (`halves`); what an error's own range is does not matter, as long as M holds at both its ends (Outcomes).
-- Of error 11 in report mode that is shown apart, from what it points at (`marked`, Failing).
use Rattle.std.proofs.Common.{Err, Ok, Result}
use Prim.Native.Nat.{ℕ, zero, suc, ◌+◌, ◌<◌}
use mathlib.Core.Path.{◌≡◌, refl, sym, ap, subst, ◌∙◌}
use mathlib.Core.Bool.{Bool, true, false, ◌&&◌}
use mathlib.Core.List.{List, [], ◌∷◌}
use mathlib.Core.Logic.{◌⊎◌, inl, inr}
use lib.Dec.{eqb, leb}
use lib.ListN.{length, get_or, take, drop, length-drop}
use lib.Seq.{take-append_seam, get_or-drop}
use native.Mathlib.Omega.{arith}
use native.Mathlib.Nat.{le_refl}
use borrow.Author.Tests.{eqb-true}
use Rattle.laws.specs.Quoted.{code}
use Rattle.laws.proofs.Choice.{by_bool, no_yes, yes_no, if_all, if_is, impossible}
use Rattle.chars.specs.Utf8.{chars}
use Rattle.chars.specs.Encode.{width, bytes_of}
use Rattle.chars.specs.Blank.{is_blank}
use Rattle.items.specs.declared.Outcome.{Outcome}
use Rattle.items.specs.declared.Outcome.TheVariants.{Token, Str, HereStr, Word, Run, Lined, Keyword, Character, Error, ErrorAt}
use Rattle.items.specs.declared.CharError.{CharError}
use Rattle.items.specs.declared.CharError.TheVariants.{Wrong, WrongAt}
use Rattle.items.specs.Kinds as kind
use Rattle.items.specs.Meaning.{Meaning, meaning_of, character_of, character_means, char_inside}
use Rattle.items.specs.Readers.{SoFar, Read, past_failing, read_item}
use Rattle.items.specs.Items.{Place, range, unset, failing_at, character_sets, range_after, standing, is_set, place_of, Item, items_of, extent_items, items_from}
use Rattle.items.specs.Items.{past_line, after_pound, items, byte_count}
use Rattle.items.specs.Whole.{items_in, in_report}
use Rattle.items.proofs.Every.{Every, every_append, every_any, every_then}
use Rattle.items.proofs.Outcomes.{read_fine}
use Rattle.items.proofs.Own.{Fails, character_fails, delimiter_small}
use Rattle.items.proofs.Skipped.{kept_every}
use Rattle.items.proofs.Splits.{read_splits, read_at}
use Rattle.items_coverage.proofs.Located.{items_there}
use Rattle.items_errors.specs.Failing.{Pointed}
use Rattle.items_errors.specs.Delimited.{Delimited}
use Rattle.items_errors.proofs.Names.{delimited_there}
use Rattle.items_errors.proofs.Rows.{every_scalar}
use Rattle.items_errors.proofs.Places.{extent_points, points_at_what_fails}
use Rattle.lines.specs.Place.{is_index, locate_of}
use Rattle.lines.specs.Place.{At}
use Rattle.lines.proofs.Between.{answered_between}
use Rattle.lines.proofs.Index.{index_is}
use Rattle.lines_theorems.proofs.Along.{Along, along, at_start, read_along}
use Rattle.lines_theorems.proofs.Bytes.{Placed, Tidy, placed, tidy, placed_take, tidy_take}
use Rattle.lines_theorems.proofs.First.{first_byte}
use Rattle.lines_theorems.proofs.Outcomes.{Aside, Known, read_known}
use Rattle.lines_theorems.proofs.Failing.{IsChar, fails_marked}
use Rattle.lines_theorems.proofs.Texts.{InSource, at_byte, past_byte, meaning_texts}

-- M holds at both ends of an item's extent, of its place and of its text in the source
pub record Marked (M : ℕ → Type 0) (i : Item) : Type 0 where
  pub start : M i.start
  pub end : M i.end
  pub from : M i.place.from
  pub to : M i.place.to
  pub text : InSource M i.text

-- the kind of error 11
abbrev eleven : ℕ
eleven = kind.first_error + kind.InvalidHexEscapeLiteral

module _ (M : ℕ → Type 0) (report : Bool) where
  abbrev Ranged : Place → Type 0
  Ranged p = M p.from × M p.to

  -- the same as `Marked`, but of the place of error 11 in report mode nothing
  pub record Half (i : Item) : Type 0 where
    pub start : M i.start
    pub end : M i.end
    pub place : ((report ≡ true) × (i.kind ≡ eleven)) ⊎ Ranged i.place
    pub text : InSource M i.text

  -- ---- one extent

  -- of the range that an extent finds set: its meanings are error 11 in report mode, or M holds at both its ends
  abbrev Sets : List Meaning → Place → Type 0
  Sets ms p = ((report ≡ true) × Every (λ (m : Meaning). m.kind ≡ eleven) ms) ⊎ Ranged p

  module _ (last : Place) (s e : ℕ) (starts : M s) (ends : M e) where
    place_half : (m : Meaning) (ms : List Meaning) → Sets (m ∷ ms) last
        → ((report ≡ true) × (m.kind ≡ eleven)) ⊎ Ranged (place_of report m.kind last (range s e))
    place_half m ms (inl h) = inl (h.0, h.1.0)
    place_half m ms (inr h) = inr (if_all Ranged (leb kind.first_error m.kind && is_set report last) h (starts, ends))

    sets_rest : (m : Meaning) (ms : List Meaning) → Sets (m ∷ ms) last → Sets ms last
    sets_rest m ms (inl h) = inl (h.0, h.1.1)
    sets_rest m ms (inr h) = inr h

    extent_half : (ms : List Meaning) → Sets ms last → Every (λ (m : Meaning). InSource M m.text) ms → Every Half (items_of report last s e ms)
    extent_half [] set h = tt
    extent_half (m ∷ ms) set h =
        (record { start = starts; end = ends; place = place_half m ms set; text = h.0 }, extent_half ms (sets_rest m ms set) h.1)

  module _ (last : Place) (s : ℕ) (i : SoFar) (long : i.at ≡ s + length i.bytes) (starts : M s) (ends : M i.at)
      (placed : Placed M s i.bytes) (tidy : Tidy i.bytes) (set : Ranged last) where
    abbrev name : List ℕ
    name = char_inside i.bytes

    -- the byte of a delimiter in a character's name
    delimiter_ranged : (d p : ℕ) → Delimited name p → past_failing d (s + 2 + p) (drop p name) ≡ s + 2 + p + 1 → Ranged (failing_at s d p i.bytes)
    delimiter_ranged d p h past =
        let l : 2 + p < length i.bytes = omega (arith, h.inside, length-drop 2 i.bytes) in
        let small : get_or i.bytes (2 + p) 0 < 0x80 = subst (λ (b : ℕ). b < 0x80) (get_or-drop 2 i.bytes p 0) (delimiter_small (get_or name p 0) h.one) in
        let from : s + (2 + p) ≡ s + 2 + p = omega arith in
        let to : s + suc (2 + p) ≡ past_failing d (s + 2 + p) (drop p name) = omega (arith, past) in (
          subst M from (at_byte M s i.at i.bytes long starts ends placed tidy (2 + p) l (inl small)),
          subst M to (past_byte M s i.at i.bytes long starts ends placed tidy (2 + p) l small),
        )

    failing_sets : (n d p : ℕ) → report ≡ true → character_of true name ≡ Err (WrongAt n d p) → Fails name (Err (WrongAt n d p))
        → Sets (character_means (Err (WrongAt n d p))) (failing_at s d p i.bytes)
    failing_sets n d p r e (inl f) = inl (r, (ap (λ (k : ℕ). kind.first_error + k) f, tt))
    failing_sets n d p r e (inr f) =
        inr (delimiter_ranged d p (delimited_there name d p (e ∙ ap (λ (k : ℕ). Err (WrongAt k d p)) f.0)) (f.3 (s + 2 + p)))

    character_sets_lem : (v : Result ℕ CharError) → character_of report name ≡ v → Sets (character_means v) (character_sets report v last s i)
    character_sets_lem (Ok c) e = inr set
    character_sets_lem (Err (Wrong n d)) e = inr (starts, ends)
    character_sets_lem (Err (WrongAt n d p)) e =
        if_is (Sets (character_means (Err (WrongAt n d p)))) report
        (λ r. let f : character_of true name ≡ Err (WrongAt n d p) = ap (λ (b : Bool). character_of b name) (sym r) ∙ e in
        failing_sets n d p r f (subst (Fails name) f (character_fails name)))
        (λ r. inr (starts, ends))

    error_sets : (n d a b : ℕ) → Known M report i.bytes (ErrorAt n d a b) → Sets (meaning_of report (ErrorAt n d a b) s i.at i.bytes) (range a b)
    error_sets n d a b h = go h.1
      where
        go : Aside M report n ⊎ Ranged (range a b) → Sets (meaning_of report (ErrorAt n d a b) s i.at i.bytes) (range a b)
        go (inl k) = inl (k.0, (ap (λ (k : ℕ). kind.first_error + k) k.1, tt))
        go (inr k) = inr k

    -- the range that stands after an item: one set before, its extent, or its own
    after_sets : (o : Outcome) → Known M report i.bytes o → Sets (meaning_of report o s i.at i.bytes) (range_after report last s o i)
    after_sets (Token k d) g = inr set
    after_sets Str g = inr set
    after_sets HereStr g = inr set
    after_sets Word g = inr set
    after_sets Run g = inr set
    after_sets Lined g = inr set
    after_sets Keyword g = inr set
    after_sets Character g = character_sets_lem (character_of report name) refl
    after_sets (Error n d) g = inr set
    after_sets (ErrorAt n d x y) g = error_sets n d x y g

  -- ---- all items

  plain_sets : (ms : List Meaning) (p : Place) → report ≡ false → Sets ms p → Ranged p
  plain_sets ms p r (inl h) = let z : true ≡ false = sym h.0 ∙ r in impossible cc
  plain_sets ms p r (inr h) = h

  -- the range that stands matters in plain mode alone
  abbrev Stands : Place → Type 0
  Stands last = report ≡ false → Ranged last

  module _ (first : M 0) where
    standing_ranged : (last : Place) → Stands last → Ranged (standing report last)
    standing_ranged last h = go report h
      where
        go : (r : Bool) → (r ≡ false → Ranged last) → Ranged (standing r last)
        go true h = (first, first)
        go false h = h refl

    module _ (last : Place) (set : Stands last) (at c : ℕ) (cs : List ℕ) (h : Along M at (c ∷ cs)) where
      abbrev it : Read
      it = read_item report at c cs

      ends : M it.item.at
      ends = at_start M it.item.at it.rest (read_along M report at c cs h)

      known : Known M report it.item.bytes it.what
      known = read_known M report at c cs h

      -- the item's bytes are the first bytes of the text
      front : take (length it.item.bytes) (bytes_of (c ∷ cs)) ≡ it.item.bytes
      front = ap (take (length it.item.bytes)) (sym (read_splits report at c cs)) ∙ take-append_seam it.item.bytes (bytes_of it.rest)

      bytes_placed : Placed M at it.item.bytes
      bytes_placed = rw front at (placed_take M (length it.item.bytes) at (bytes_of (c ∷ cs)) (placed M at (c ∷ cs) h))

      bytes_tidy : Tidy it.item.bytes
      bytes_tidy = rw front at (tidy_take (length it.item.bytes) (bytes_of (c ∷ cs)) (tidy (c ∷ cs)))

      sets : (p : Place) → Ranged p → Sets (meaning_of report it.what at it.item.at it.item.bytes) (range_after report p at it.what it.item)
      sets p r = after_sets p at it.item (read_at report at c cs) h.0 ends bytes_placed bytes_tidy r it.what known

      next_stands : Stands (range_after report last at it.what it.item)
      next_stands r = plain_sets (meaning_of report it.what at it.item.at it.item.bytes) _ r (sets last (set r))

      item_half : Every Half (extent_items report last at it.what it.item)
      unfolding extent_items
      item_half =
          let n = at + byte_count (c ∷ cs) in
          extent_half (range_after report (standing report last) at it.what it.item) at it.item.at h.0 ends
          (meaning_of report it.what at it.item.at it.item.bytes)
          (sets (standing report last) (standing_ranged last set))
          (meaning_texts M at it.item.at it.item.bytes (read_at report at c cs) h.0 ends bytes_placed bytes_tidy
          report n it.what (first_byte report at c cs)
          (read_fine (λ _. Unit {0}) (λ _ _. tt) n report at c cs (le_refl n) (every_any (λ _. Unit {0}) (λ _. tt) (c ∷ cs))) known)

    half_from : (turns : ℕ) (last : Place) (at : ℕ) (cs : List ℕ) → Stands last → Along M at cs → Every Half (items_from report turns last at cs)
    unfolding items_from
    half_from zero last at cs set h = tt
    half_from (suc turns) last at [] set h = tt
    half_from (suc turns) last at (c ∷ cs) set h =
        by_bool (is_blank c)
        (λ b. rw (b, items_from) (half_from turns last (at + width c) cs set h.1))
        (λ b.
        let r : Read = read_item report at c cs in
        rw (b, items_from)
        (every_append Half (extent_items report last at r.what r.item) _
        (item_half last set at c cs h)
        (half_from turns (range_after report last at r.what r.item) r.item.at r.rest (next_stands last set at c cs h) (read_along M report at c cs h))))

    half_at : (at : ℕ) (cs : List ℕ) → Along M at cs → Every Half (items_from report (length cs) unset at cs)
    half_at at cs h = half_from (length cs) unset at cs (λ _. (first, first)) h

    half_line : (at : ℕ) (cs : List ℕ) → Along M at cs → Every Half (past_line report at cs)
    unfolding past_line
    half_line at [] h = tt
    half_line at (c ∷ cs) h =
        by_bool (eqb c (code "\n"))
        (λ e. rw (e, past_line) (half_at at (c ∷ cs) h))
        (λ e. rw (e, past_line) (half_line (at + width c) cs h.1))

    half_pound : (cs : List ℕ) → Along M 0 (code "#" ∷ cs) → Every Half (after_pound report cs)
    unfolding after_pound width
    half_pound [] h = half_at 0 (code "#" ∷ []) h
    half_pound (c ∷ cs) h =
        by_bool (eqb c (code "!"))
        (λ e. rw (e, after_pound) (half_line 2 cs (rw (eqb-true c (code "!") e) at h.1.1)))
        (λ e. rw (e, after_pound) (half_at 0 (code "#" ∷ c ∷ cs) h))

  halves : (cs : List ℕ) → Along M 0 cs → Every Half (items report cs)
  unfolding items
  halves [] h = tt
  halves (c ∷ cs) h =
      by_bool (eqb c (code "#"))
      (λ e. rw (e, items) (half_pound h.0 cs (rw (eqb-true c (code "#") e) at h)))
      (λ e. rw (e, items) (half_at h.0 0 (c ∷ cs) h))

-- two facts of every item make one
pub every_both : (P Q R : Item → Type 0) → ((i : Item) → P i → Q i → R i) → (is : List Item) → Every P is → Every Q is → Every R is
every_both P Q R f [] h g = tt
every_both P Q R f (i ∷ is) h g = (f i h.0 g.0, every_both P Q R f is h.1 g.1)

module _ (M : ℕ → Type 0) where
  -- with what error 11 points at, a half is the whole
  filled : (report : Bool) (i : Item) → (report ≡ true → i.kind ≡ eleven → Ranged M report i.place) → Half M report i → Marked M i
  filled report i f h = go h.place
    where
      with : Ranged M report i.place → Marked M i
      with r = record { start = h.start; end = h.end; from = r.0; to = r.1; text = h.text }

      go : ((report ≡ true) × (i.kind ≡ eleven)) ⊎ Ranged M report i.place → Marked M i
      go (inl k) = with (f k.0 k.1)
      go (inr r) = with r

  module _ (cs : List ℕ) (good : Every IsChar cs) (h : Along M 0 cs) where
    pointed_marked : (i : Item) → Half M true i → Pointed (bytes_of cs) i → Marked M i
    pointed_marked i k p = filled true i (λ _ e. fails_marked M cs good h i.place.from i.place.to i.detail (p e)) k

    -- a law of the places between the characters of a text holds at every place of an extent's items in report mode, wherever it starts
    pub extent_marked : (last : Place) (at c : ℕ) (ds : List ℕ) → Along M at (c ∷ ds) → drop at (bytes_of cs) ≡ bytes_of (c ∷ ds) → Every IsChar (c ∷ ds)
        → Every (Marked M) (items_there true last at c ds)
    extent_marked last at c ds along stands chars =
        every_both (Half M true) (Pointed (bytes_of cs)) (Marked M) pointed_marked (items_there true last at c ds)
        (item_half M true (at_start M 0 cs h) last (λ z. yes_no z) at c ds along) (extent_points (bytes_of cs) last at c ds stands chars)

  -- and of all its items
  pub marked : (report : Bool) (cs : List ℕ) → Every IsChar cs → Along M 0 cs → Every (Marked M) (items report cs)
  marked false cs good h =
      every_then (Half M false) (Marked M)
      (λ i k. filled false i (λ z. no_yes z) k) (items false cs) (halves M false cs h)
  marked true cs good h =
      every_both (Half M true) (Pointed (bytes_of cs)) (Marked M) (pointed_marked cs good h) (items true cs) (halves M true cs h) (points_at_what_fails cs good)

-- ---- the question

abbrev pub Answered : List ℕ → List ℕ → ℕ → Type 0
Answered s index p = (line : ℕ) × (col : ℕ) × (locate_of s index p ≡ At line col)

answered_along : (s index : List ℕ) → is_index s index ≡ true → Along (Answered s index) 0 (chars s)
answered_along s index e = along (Answered s index) 0 (chars s) (λ k. answered_between s index _ e (k, omega arith))

-- of every item of a text, in both modes
pub items_answered : (report : Bool) (s index : List ℕ) → is_index s index ≡ true → Every (Marked (Answered s index)) (items report (chars s))
items_answered report s index e =
    marked (Answered s index) report (chars s) (every_scalar s (index_is s index e).1) (answered_along s index e)

-- of every record that a whole-text call gives, comments kept or skipped
pub record_answered : (s index : List ℕ) (mode : ℕ) (skip : Bool) → is_index s index ≡ true → Every (Marked (Answered s index)) (items_in s mode skip)
record_answered s index mode skip e =
    kept_every (Marked (Answered s index)) skip (items (in_report mode) (chars s)) (items_answered (in_report mode) s index e)

-- the extents alone
pub extents_answered : (report : Bool) (s index : List ℕ) → is_index s index ≡ true
    → Every (λ (i : Item). Answered s index i.start × Answered s index i.end) (items report (chars s))
extents_answered report s index e =
    every_then (Marked (Answered s index)) (λ (i : Item). Answered s index i.start × Answered s index i.end) (λ i m. (m.start, m.end))
    (items report (chars s)) (items_answered report s index e)
