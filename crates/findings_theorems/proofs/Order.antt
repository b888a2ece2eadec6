-- The rows of a plan come in the order of their extents: each starts where the one before it ends, or later; but the two items of `+foo`
-- share one extent.
use Rattle.std.proofs.Common.{None, Option, Some}
use Prim.Native.Nat.{ℕ, zero, suc, ◌≤◌}
use mathlib.Core.Path.{◌≡◌, refl, sym, ap, ◌∙◌, subst}
use mathlib.Core.Bool.{Bool, false, ◌&&◌}
use mathlib.Core.List.{List, [], ◌∷◌}
use mathlib.Core.Logic.{◌⊎◌, inl, inr, ⊎_elim}
use lib.ListN.{length, drop}
use lib.Dec.{eqb, ltb}
use native.Mathlib.Omega.{arith}
use Rattle.std.specs.Prelude.{None, Option, Some, Ok, Err, Result}
use Rattle.laws.specs.Quoted.{code}
use Rattle.laws.proofs.Choice.{by_bool, and_no, if_all, impossible}
use Rattle.chars.specs.Utf8.{chars}
use Rattle.numbers.specs.Grammar.{parse_number, Parsed}
use Rattle.numbers.specs.declared.ParseError.TheVariants as parsed
use Rattle.items.specs.Kinds as kind
use Rattle.items.specs.declared.Outcome.{Outcome}
use Rattle.items.specs.declared.Outcome.TheVariants.{Token, Str, HereStr, Word, Run, Lined, Keyword, Character, Error, ErrorAt}
use Rattle.items.specs.declared.CharError.{CharError}
use Rattle.items.specs.declared.CharError.TheVariants.{Wrong, WrongAt}
use Rattle.items.specs.Readers.{Read, SoFar, first_is, read_item}
use Rattle.items.specs.Meaning.{Meaning, word_kind, word_means, run_means, character_of, character_means, char_inside, meaning_of}
use Rattle.items.specs.Items.{Place, Item, items_of, extent_items, range_after, standing}
use Rattle.items.specs.Whole.{limit}
use Rattle.items.proofs.Every.{Every}
use Rattle.meaning.specs.Places.{place_in}
use Rattle.lexer.specs.Reading.{Turn, gives, ends, turn_of, turn, start_from, next_from, next_at, size_of}
use Rattle.lexer.specs.declared.Spot.{Spot}
use Rattle.lexer.specs.declared.FirstChar.{FirstChar}
use Rattle.lexer.proofs.Cases.{past, halfway, both, by_turn, turn_here}
use Rattle.lexer.proofs.Turns.{Started, started, turn_started, turn_nothing}
use Rattle.lexer.proofs.Moves.{Moved, turn_moved, extent_ends}
use Rattle.lexer.proofs.Nexts.{next_at_gives}
use Rattle.findings_rows.specs.Mended.{slips, quote_of, closing_of, spot_at, ended_at, unclosed_at, slip_turn, mend_turn, mended_at, mended_from, mended_of, opening_spot}
use Rattle.findings_rows.proofs.Mends.{mend_slip, mend_fine}
use Rattle.findings_rows.proofs.Lays.{from_gives, from_ends}
use Rattle.findings_theorems.proofs.Unmended.{fine_unslipped}
use Rattle.findings_theorems.proofs.Turns.{Given}

-- ---- two items of one extent are names

abbrev Pair : List ℕ → Type 0
Pair [] = Unit {0}
Pair (j ∷ []) = Unit {0}
Pair (j ∷ (k ∷ l)) = (j ≡ kind.Identifier) × (k ≡ kind.Identifier)

abbrev kinds_of : List Meaning → List ℕ
kinds_of [] = []
kinds_of (m ∷ ms) = m.kind ∷ kinds_of ms

pair_word : (s e : ℕ) (raw : List ℕ) → Pair (kinds_of (word_means s e raw))
unfolding word_means
pair_word s e raw =
    let P : List Meaning → Type 0 = λ ms. Pair (kinds_of ms) in
    if_all P (eqb (word_kind raw) kind.Identifier) (if_all P (first_is (code "+") raw && ltb 1 (length raw)) (refl, refl) tt) tt

pair_run : (p : Parsed) (s e : ℕ) (raw : List ℕ) → Pair (kinds_of (run_means p s e raw))
unfolding run_means
pair_run (Ok p) s e raw = tt
pair_run (Err parsed.NoNumber) s e raw = pair_word s e raw
pair_run (Err parsed.ZeroDenominator) s e raw = tt

pair_character : (v : Result ℕ CharError) → Pair (kinds_of (character_means v))
pair_character (Ok c) = tt
pair_character (Err (Wrong e d)) = tt
pair_character (Err (WrongAt e d p)) = tt

pair_means : (report : Bool) (o : Outcome) (s e : ℕ) (raw : List ℕ) → Pair (kinds_of (meaning_of report o s e raw))
pair_means report (Token k d) s e raw = tt
pair_means report Str s e raw = tt
pair_means report HereStr s e raw = tt
pair_means report Word s e raw = pair_word s e raw
pair_means report Run s e raw = pair_run (parse_number raw) s e raw
pair_means report Lined s e raw = tt
pair_means report Keyword s e raw = tt
pair_means report Character s e raw = pair_character (character_of report (char_inside raw))
pair_means report (Error n d) s e raw = tt
pair_means report (ErrorAt n d a b) s e raw = tt

abbrev item_kinds : List Item → List ℕ
item_kinds [] = []
item_kinds (i ∷ is) = i.kind ∷ item_kinds is

kinds_same : (report : Bool) (last : Place) (s e : ℕ) (ms : List Meaning) → item_kinds (items_of report last s e ms) ≡ kinds_of ms
kinds_same report last s e [] = refl
kinds_same report last s e (m ∷ ms) = ap (λ (l : List ℕ). m.kind ∷ l) (kinds_same report last s e ms)

pair_extent : (report : Bool) (last : Place) (s : ℕ) (o : Outcome) (i : SoFar) → Pair (item_kinds (extent_items report last s o i))
unfolding extent_items
pair_extent report last s o i =
    subst Pair (sym (kinds_same report (range_after report (standing report last) s o i) s i.at (meaning_of report o s i.at i.bytes)))
    (pair_means report o s i.at i.bytes)

-- ---- a turn: it starts at its spot or later; after it the spot is past the extent, or the second of two names comes

pub record Went (s : List ℕ) (p : Spot) (i : Item) (q : Spot) : Type 0 where
  pub ahead : p.at ≤ i.start
  pub after : (q.at ≡ i.end) ⊎ ((j : Item) × ((u : Spot) × ((turn s q ≡ gives j u) × (j.start ≡ i.start) × (j.kind ≡ kind.Identifier) × (i.kind ≡ kind.Identifier))))

module _ (s : List ℕ) (p : Spot) (c a n : ℕ) (S : Started s p.at (chars (drop p.at s)) c a n) where
  abbrev it : Read
  it = read_item p.report a c (chars (drop n s))

  abbrev gone : Spot
  gone = past p a it.what it.item

  abbrev stay : Spot
  stay = halfway p a it.what it.item

  all_end : Every (λ (x : Item). (x.start ≡ a) × (x.end ≡ it.item.at)) (both p a it.what it.item)
  all_end = extent_ends p.report (place_in p.last) a it.what it.item

  names : Pair (item_kinds (both p a it.what it.item))
  names = pair_extent p.report (place_in p.last) a it.what it.item

  abbrev Ends : Item → Type 0
  Ends x = (x.start ≡ a) × (x.end ≡ it.item.at)

  second : (x y : Item) → both p a it.what it.item ≡ x ∷ y ∷ [] → turn s stay ≡ gives y gone
  second x y e = turn_here s stay c (chars (drop n s)) S.first S.solid ∙ rw e

  went : (i : Item) (q : Spot) → turn_of p a it.what it.item ≡ gives i q → Went s p i q
  went i q e = by_turn p a it.what it.item
      (λ x f g. same x gone (sym g ∙ e) (record { ahead = omega (arith, S.ahead, (subst (Every Ends) f all_end).0.0); after = inl (sym (subst (Every Ends) f all_end).0.1) }))
      (λ x y f b g. same x stay (sym g ∙ e) (record {
        ahead = omega (arith, S.ahead, (subst (Every Ends) f all_end).0.0);
        after = inr (
          y,
          (
            gone,
            (
              second x y f,
              ((subst (Every Ends) f all_end).1.0.0 ∙ sym (subst (Every Ends) f all_end).0.0),
              (subst (λ (l : List Item). Pair (item_kinds l)) f names).1,
              (subst (λ (l : List Item). Pair (item_kinds l)) f names).0,
            ),
          ),
        );
      }))
      (λ x y f b g. same y gone (sym g ∙ e) (record { ahead = omega (arith, S.ahead, (subst (Every Ends) f all_end).1.0.0); after = inl (sym (subst (Every Ends) f all_end).1.0.1) }))
    where
      same : (x : Item) (t : Spot) → gives x t ≡ gives i q → Went s p x t → Went s p i q
      same x t z m =
          let o : x ≡ i = cc in
          let u : t ≡ q = cc in
          subst (λ (y : Spot). Went s p i y) u (subst (λ (y : Item). Went s p y t) o m)

pub turn_went : (s : List ℕ) (p : Spot) (i : Item) (q : Spot) → turn s p ≡ gives i q → Went s p i q
turn_went s p i q e = go (start_from p.at (chars (drop p.at s))) refl
  where
    go : (x : Option FirstChar) → start_from p.at (chars (drop p.at s)) ≡ x → Went s p i q
    go (Some x) f =
        let S : Started s p.at (chars (drop p.at s)) x.code x.at x.past = started s (chars (drop p.at s)) p.at refl x.code x.at x.past f in
        went s p x.code x.at x.past S i q (sym (turn_started s p x.code x.at x.past S) ∙ e)
    go None f = let z : gives i q ≡ ends = sym e ∙ turn_nothing s p f in impossible cc

-- ---- the next item, comments passed over

module _ (s : List ℕ) where
  -- the turn that gave it
  pub record Came (p : Spot) (i : Item) (q : Spot) : Type 0 where
    pub from : Spot
    pub behind : p.at ≤ from.at
    pub skips_too : from.skip ≡ p.skip
    pub reports_too : from.report ≡ p.report
    pub gave : turn s from ≡ gives i q

  next_came : (n : ℕ) (p : Spot) (i : Item) (q : Spot) → next_from n s p ≡ gives i q → Came p i q
  unfolding next_from
  next_came zero p i q e = impossible cc
  next_came (suc n) p i q e = go (turn s p) refl (λ t f. next_came n t i q f)
    where
      go : (t : Turn) → turn s p ≡ t → ((t : Spot) → next_from n s t ≡ gives i q → Came t i q) → Came p i q
      go ends f rec = let z : ends ≡ gives i q = rw f at e in impossible cc
      go (gives x t) f rec = by_bool (p.skip && eqb x.kind kind.Comment)
          (λ b. let m : Moved s p x t = turn_moved s p x t f in
          let k : Came t i q = rec t (rw (f, b) at e) in
          record { from = k.from; behind = omega (arith, k.behind, m.memory); skips_too = k.skips_too ∙ m.skip; reports_too = k.reports_too ∙ m.report; gave = k.gave })
          (λ b. let z : gives x t ≡ gives i q = rw (f, b) at e in record { from = p; behind = omega arith; skips_too = refl; reports_too = refl; gave = f ∙ z })

  pub came : (p : Spot) (i : Item) (q : Spot) → next_at s p ≡ gives i q → Came p i q
  unfolding next_at
  came p i q e = next_came (suc (size_of s p)) p i q e

  -- no earlier than its spot
  next_ahead : (p : Spot) (i : Item) (q : Spot) → next_at s p ≡ gives i q → p.at ≤ i.start
  next_ahead p i q e = let k : Came p i q = came p i q e in omega (arith, k.behind, (turn_went s k.from i q k.gave).ahead)

  abbrev Ahead : Spot → Item → Type 0
  Ahead p i = p.at ≤ i.start

  slip_ahead : (p : Spot) (i : Item) (q : Spot) (c : Option ℕ) → p.at ≤ i.start → Given (Ahead p) (slip_turn s i q c)
  slip_ahead p i q (Some e) h = h
  slip_ahead p i q None h = h

  mend_ahead : (p : Spot) (t : Turn) → next_at s p ≡ t → Given (Ahead p) (mend_turn s t)
  mend_ahead p ends e = tt
  mend_ahead p (gives i q) e = by_bool (slips s i.kind i.start)
      (λ b. rw b (slip_ahead p i q (closing_of s i.kind i.start q.at) (next_ahead p i q e)))
      (λ b. rw b (next_ahead p i q e))

  mended_ahead : (p : Spot) → Given (Ahead p) (mended_at s p)
  unfolding mended_at
  mended_ahead p = mend_ahead p (next_at s p) refl

  -- ---- one row after the other

  -- behind the extent of the one before; or the second of two names with one extent
  abbrev pub Next : Item → Item → Type 0
  Next i j = (i.end ≤ j.start) ⊎ ((j.start ≡ i.start) × (j.kind ≡ kind.Identifier) × (i.kind ≡ kind.Identifier))

  abbrev pub Chained : (Item → Type 0) → List Item → Type 0
  Chained P [] = Unit {0}
  Chained P (i ∷ is) = P i × Chained (Next i) is

  given_then : (P Q : Item → Type 0) → ((i : Item) → P i → Q i) → (t : Turn) → Given P t → Given Q t
  given_then P Q f ends h = tt
  given_then P Q f (gives i q) h = f i h

  -- what is given from the place where an extent ends stands behind it
  behind_next : (i : Item) (q : Spot) → q.at ≡ i.end → Given (Next i) (mended_at s q)
  behind_next i q e = given_then (Ahead q) (Next i) (λ j h. inl (omega arith)) (mended_at s q) (mended_ahead q)

  -- the second name comes at once
  second_next : (i : Item) (q : Spot) (j : Item) (u : Spot) → turn s q ≡ gives j u → j.start ≡ i.start → j.kind ≡ kind.Identifier → i.kind ≡ kind.Identifier → Given (Next i) (mended_at s q)
  unfolding mended_at
  second_next i q j u e h k g =
      let kept : (q.skip && eqb j.kind kind.Comment) ≡ false = ap (λ (n : ℕ). q.skip && eqb n kind.Comment) k ∙ and_no q.skip in
      let fine : slips s j.kind j.start ≡ false = fine_unslipped s j (omega arith) in
      subst (Given (Next i)) (sym (ap (mend_turn s) (next_at_gives s q u j e kept) ∙ mend_fine s j u fine)) (inr (h, k, g))

  -- a slip's extent ends where reading goes on
  slip_end : (x : Item) (t : Spot) (c : Option ℕ) (i : Item) (q : Spot) → slip_turn s x t c ≡ gives i q → q.at ≡ i.end
  slip_end x t (Some e) i q f = let o : ended_at e x ≡ i = cc in let u : spot_at t e ≡ q = cc in ap (λ (y : Spot). y.at) (sym u) ∙ ap (λ (y : Item). y.end) o
  slip_end x t None i q f =
      let o : unclosed_at (quote_of s x.start) x.start (length s) ≡ i = cc in
      let u : spot_at t (length s) ≡ q = cc in
      ap (λ (y : Spot). y.at) (sym u) ∙ ap (λ (y : Item). y.end) o

  step_next : (p : Spot) (t : Turn) → next_at s p ≡ t → (i : Item) (q : Spot) → mend_turn s t ≡ gives i q → Given (Next i) (mended_at s q)
  step_next p ends e i q h = impossible cc
  step_next p (gives x t) e i q h = by_bool (slips s x.kind x.start)
      (λ b. slip (closing_of s x.kind x.start t.at) (sym (mend_slip s x t b) ∙ h))
      (λ b. let z : gives x t ≡ gives i q = sym (mend_fine s x t b) ∙ h in
      let o : x ≡ i = cc in
      let u : t ≡ q = cc in
      let k : Came p x t = came p x t e in
      fine (subst (λ (y : Spot). Went s k.from i y) u (subst (λ (y : Item). Went s k.from y t) o (turn_went s k.from x t k.gave))))
    where
      slip : (c : Option ℕ) → slip_turn s x t c ≡ gives i q → Given (Next i) (mended_at s q)
      slip c f = behind_next i q (slip_end x t c i q f)

      fine : {f : Spot} → Went s f i q → Given (Next i) (mended_at s q)
      fine w = ⊎_elim (λ a. behind_next i q a) (λ r. second_next i q r.0 r.1.0 r.1.1.0 r.1.1.1 r.1.1.2 r.1.1.3) w.after

  next_of : (p : Spot) (i : Item) (q : Spot) → mended_at s p ≡ gives i q → Given (Next i) (mended_at s q)
  unfolding mended_at
  next_of p i q e = step_next p (next_at s p) refl i q e

  chained : (n : ℕ) (p : Spot) (P : Item → Type 0) → Given P (mended_at s p) → Chained P (mended_from n s p)
  unfolding mended_from
  chained zero p P h = tt
  chained (suc n) p P h = go (mended_at s p) refl (λ q Q k. chained n q Q k)
    where
      go : (t : Turn) → mended_at s p ≡ t → ((q : Spot) (Q : Item → Type 0) → Given Q (mended_at s q) → Chained Q (mended_from n s q)) → Chained P (mended_from (suc n) s p)
      go ends e rec = subst (Chained P) (sym (from_ends s n p e)) tt
      go (gives i q) e rec = subst (Chained P) (sym (from_gives s n p q i e)) (subst (Given P) e h, rec q (Next i) (next_of p i q e))

  -- the items of the mended reading come one after the other
  pub rows_in_order : Chained (λ i. 0 ≤ i.start) (mended_of s)
  unfolding mended_of
  rows_in_order = by_bool (ltb limit (length s)) (λ b. rw b tt)
      (λ b. rw b (chained (suc (size_of s (opening_spot s))) (opening_spot s) (λ i. 0 ≤ i.start)
      (given_then (Ahead (opening_spot s)) (λ i. 0 ≤ i.start) (λ i h. omega arith) (mended_at s (opening_spot s)) (mended_ahead (opening_spot s)))))
