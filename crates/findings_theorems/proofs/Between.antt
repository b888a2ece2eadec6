-- The items of the mended reading of a UTF-8 text: both ends of the extent and of the place stand between two characters, and so do the places
-- behind an error's opening characters. A turn starts between characters, since reading goes on where an extent ends, behind a closing
-- quote, or at the end.
use Prim.Native.Nat.{ℕ, zero, suc, ◌+◌, ◌≤◌, ◌<◌}
use mathlib.Core.Path.{◌≡◌, refl, sym, ap, subst, ◌∙◌}
use mathlib.Core.Bool.{Bool, true, false, ◌&&◌}
use mathlib.Core.List.{List, [], ◌∷◌, ◌++◌}
use lib.ListN.{length, get_or, drop, length-append, length-drop, get_or-append}
use lib.Seq.{get_or-drop}
use lib.Dec.{eqb, ltb}
use native.Mathlib.Omega.{arith}
use native.Mathlib.Numerals.{add-one}
use borrow.Author.Tests.{eqb-true}
use Rattle.std.specs.Prelude.{None, Option, Some}
use Rattle.laws.specs.Quoted.{code}
use Rattle.laws.specs.Texts.{starts}
use Rattle.laws.proofs.Choice.{by_bool, if_all, impossible}
use Rattle.chars.specs.Utf8.{first_bad, chars}
use Rattle.chars.specs.Encode.{width, bytes_of}
use Rattle.chars.specs.Blank.{is_blank}
use Rattle.chars.proofs.Width.{wide}
use Rattle.items.specs.Kinds as kind
use Rattle.items.specs.Readers.{Read, read_item}
use Rattle.items.specs.Items.{Place, Item, range_after}
use Rattle.items.specs.Whole.{limit}
use Rattle.items.proofs.Every.{Every}
use Rattle.items.proofs.Splits.{read_splits, read_longer}
use Rattle.meaning.specs.Places.{place_in}
use Rattle.lexer.specs.Opening.{line_end, after_hash, start_of}
use Rattle.lexer.specs.Reading.{Turn, gives, ends, moved, pick, turn_at, turn_from, turn, keep, next_from, next_at, size_of}
use Rattle.lexer.specs.declared.Spot.{Spot}
use Rattle.lexer.proofs.CharacterAt.{Here, char_here}
use Rattle.lexer.proofs.Moves.{extent_ends}
use Rattle.items_coverage.proofs.Bytes.{passed}
use Rattle.items_coverage.proofs.Located.{items_there}
use Rattle.lines.proofs.Between.{Between}
use Rattle.lines_theorems.proofs.Along.{Along, at_start, read_along}
use Rattle.lines_theorems.proofs.Failing.{stands_at}
use Rattle.lines_theorems.proofs.Records.{Marked, extent_marked, every_both}
use Rattle.findings_rows.specs.Mended.{slips, quote_of, closing, rest_from, closing_of, unclosed_kind, unclosed_at, slip_turn, mend_turn, mended_at, mended_from, mended_of, opening_spot}
use Rattle.findings_rows.proofs.Lays.{from_gives, from_ends}
use Rattle.findings_theorems.proofs.Unmended.{slip_wrong}
use Rattle.findings_theorems.proofs.Spans.{four}
use Rattle.findings_theorems.proofs.Characters.{whole, every_char, along_all, start_between, end_between, byte_between, From, from_between}
use Rattle.findings_theorems.proofs.Openers.{OpenedItem, extent_opened}

module _ (s : List ℕ) (good : first_bad s ≡ None) where
  abbrev B : ℕ → Type 0
  B = Between s

  pub record BetweenItem (i : Item) : Type 0 where
    pub marked : Marked B i
    pub opens : kind.first_error ≤ i.kind → B (i.start + 1)
    pub nests : i.kind ≡ four → B (i.start + 2)

  -- ---- an extent that starts at a place with the character c

  module _ (last : Place) (at c : ℕ) (cs : List ℕ) (f : From s good at (c ∷ cs)) where
    abbrev it : Read
    it = read_item true at c cs

    raw_stands : drop at s ≡ it.item.bytes ++ bytes_of it.rest
    raw_stands = f.stands ∙ sym (read_splits true at c cs)

    -- behind a byte of it that is ASCII
    past_raw : (n : ℕ) → n < length it.item.bytes → get_or it.item.bytes n 0 < 0x80 → B (at + (n + 1))
    past_raw n l h =
        let raw : List ℕ = it.item.bytes in
        let same : get_or s (at + n) 0 ≡ get_or raw n 0 =
        sym (get_or-drop at s n 0) ∙ ap (λ (x : List ℕ). get_or x n 0) raw_stands ∙ get_or-append raw (bytes_of it.rest) 0 n l in
        let inside : at + n < length s = omega (arith, length-drop at s, ap length raw_stands, length-append raw (bytes_of it.rest)) in
        let z : suc (at + n) ≡ at + (n + 1) = omega arith in
        subst B z (byte_between s good (at + n) inside (omega (arith, same))).1

    abbrev Ends : Item → Type 0
    Ends x = (x.start ≡ at) × (x.end ≡ it.item.at)

    stands_there : (i : Item) → Marked B i → Ends i × OpenedItem it.item.bytes i → BetweenItem i
    stands_there i m o = record {
      marked = m;
      opens = λ k. subst (λ (a : ℕ). B (a + 1)) (sym o.0.0) (past_raw 0 some (o.1.0 k));
      nests = λ k. subst (λ (a : ℕ). B (a + 2)) (sym o.0.0) (past_raw 1 (o.1.1 k).0 (o.1.1 k).1);
    }
      where
        some : 0 < length it.item.bytes
        some = omega (arith, read_longer true at c cs, wide c)

    extent_stands : Every BetweenItem (items_there true last at c cs)
    extent_stands =
        let is : List Item = items_there true last at c cs in
        every_both (Marked B) (λ i. Ends i × OpenedItem it.item.bytes i) BetweenItem stands_there is
        (extent_marked B (chars s) (every_char s good) (along_all s good) last at c cs f.along (ap (drop at) (whole s good) ∙ f.stands) f.every)
        (every_both Ends (OpenedItem it.item.bytes) (λ i. Ends i × OpenedItem it.item.bytes i) (λ i a b. (a, b)) is
        (extent_ends true last at it.what it.item) (extent_opened B last at c cs f.along))

    extent_end : B it.item.at
    extent_end = at_start B it.item.at it.rest (read_along B true at c cs f.along)

  -- ---- a turn of a spot in report mode

  abbrev Ready : Spot → Type 0
  Ready p = B p.at × (p.report ≡ true)

  abbrev Goes : Turn → Type 0
  Goes (gives i q) = BetweenItem i × Ready q
  Goes ends = Unit {0}

  pick_goes : (second : Bool) (stay past : Spot) (is : List Item) → Every BetweenItem is → Ready stay → Ready past → Goes (pick second stay past is)
  pick_goes second stay past [] h r q = tt
  pick_goes second stay past (i ∷ []) h r q = (h.0, q)
  pick_goes true stay past (i ∷ (j ∷ is)) h r q = (h.1.0, q)
  pick_goes false stay past (i ∷ (j ∷ is)) h r q = (h.0, r)

  at_goes : (p : Spot) → p.report ≡ true → (at c : ℕ) (cs : List ℕ) → From s good at (c ∷ cs) → Goes (turn_at p at c cs)
  at_goes p e at c cs f =
      let r : Read = read_item p.report at c cs in
      pick_goes p.second (moved p at (place_in p.last) true)
      (moved p r.item.at (range_after p.report (place_in p.last) at r.what r.item) false)
      (items_there p.report (place_in p.last) at c cs)
      (subst (λ (b : Bool). Every BetweenItem (items_there b (place_in p.last) at c cs)) (sym e) (extent_stands (place_in p.last) at c cs f))
      (at_start B at (c ∷ cs) f.along, e)
      (subst (λ (b : Bool). B (read_item b at c cs).item.at) (sym e) (extent_end (place_in p.last) at c cs f), e)

  from_goes : (p : Spot) → p.report ≡ true → (at : ℕ) (cs : List ℕ) → B at → cs ≡ chars (drop at s) → Goes (turn_from p at cs)
  unfolding turn_from
  from_goes p e at [] b f = tt
  from_goes p e at (c ∷ cs) b f =
      let k : From s good at (c ∷ cs) = subst (From s good at) (sym f) (from_between s good at b) in
      by_bool (is_blank c)
      (λ x. let h : Here s at c cs = char_here s at c cs (sym f) in
      rw (x, turn_from) (from_goes p e (at + width c) cs (at_start B (at + width c) cs k.along.1) h.rest))
      (λ x. rw (x, turn_from) (at_goes p e at c cs k))

  turn_goes : (p : Spot) → Ready p → Goes (turn s p)
  unfolding turn
  turn_goes p r = from_goes p r.1 p.at (chars (drop p.at s)) r.0 refl

  keep_goes : (skip : Bool) (t : Turn) (more : Spot → Turn) → Goes t → ((q : Spot) → Ready q → Goes (more q)) → Goes (keep skip t more)
  keep_goes skip ends more h k = tt
  keep_goes skip (gives i q) more h k = by_bool (skip && eqb i.kind kind.Comment) (λ b. rw b (k q h.1)) (λ b. rw b h)

  next_from_goes : (n : ℕ) (p : Spot) → Ready p → Goes (next_from n s p)
  unfolding next_from
  next_from_goes zero p r = tt
  next_from_goes (suc n) p r = keep_goes p.skip (turn s p) _ (turn_goes p r) (λ q h. next_from_goes n q h)

  next_goes : (p : Spot) → Ready p → Goes (next_at s p)
  unfolding next_at
  next_goes p r = next_from_goes (suc (size_of s p)) p r

  -- ---- a slip mended

  -- behind a closing quote
  closing_between : (quote : ℕ) → quote < 0x80 → (escaped : Bool) (at : ℕ) (bs : List ℕ) → drop at s ≡ bs → (e : ℕ) → closing quote escaped at bs ≡ Some e
      → B e
  unfolding closing
  closing_between quote low escaped at [] f e h = impossible cc
  closing_between quote low true at (b ∷ bs) f e h = closing_between quote low false (at + 1) bs (passed s at (b ∷ []) bs f) e h
  closing_between quote low false at (b ∷ bs) f e h = by_bool (eqb b quote)
      (λ t. let z : Some (at + 1) ≡ Some e = rw t at h in
      let y : at + 1 ≡ e = cc in
      let k = stands_at at s b bs f in
      let x : suc at ≡ e = sym (add-one at) ∙ y in
      subst B x (byte_between s good at k.0 (omega (arith, k.1, eqb-true b quote t))).1)
      (λ t. closing_between quote low (eqb b (code "\\")) (at + 1) bs (passed s at (b ∷ []) bs f) e (rw t at h))

  quote_low : (start : ℕ) → quote_of s start < 0x80
  quote_low start = if_all (λ (q : ℕ). q < 0x80) (starts (code "\"") (drop start s)) (omega arith) (omega arith)

  unclosed_stands : (quote : ℕ) (i : Item) → kind.first_error ≤ i.kind → BetweenItem i → BetweenItem (unclosed_at quote i.start (length s))
  unclosed_stands quote i wrong h = record {
    marked = record { start = h.marked.start; end = end_between s good; from = h.marked.start; to = end_between s good; text = tt };
    opens = λ _. h.opens wrong;
    nests = λ k. absurd (other k);
  }
    where
      other : unclosed_kind quote ≡ four → ⊥
      other = if_all (λ (n : ℕ). kind.first_error + n ≡ four → ⊥) (eqb quote (code "\"")) (λ k. omega arith) (λ k. omega arith)

  slip_goes : (i : Item) (q : Spot) → kind.first_error ≤ i.kind → Goes (gives i q) → (c : Option ℕ) → closing_of s i.kind i.start q.at ≡ c
      → Goes (slip_turn s i q c)
  slip_goes i q wrong h (Some e) f =
      let end : B e = closing_between (quote_of s i.start) (quote_low i.start) false (rest_from i.kind q.at) _ refl e f in
      let m : Marked B i = h.0.marked in (
        record {
          marked = record { start = m.start; end = end; from = m.from; to = m.to; text = m.text };
          opens = h.0.opens;
          nests = h.0.nests;
        },
        (end, h.1.1),
      )
  slip_goes i q wrong h None f = (unclosed_stands (quote_of s i.start) i wrong h.0, (end_between s good, h.1.1))

  mend_goes : (t : Turn) → Goes t → Goes (mend_turn s t)
  mend_goes ends h = tt
  mend_goes (gives i q) h = by_bool (slips s i.kind i.start)
      (λ b. rw b (slip_goes i q (slip_wrong s i.kind i.start b) h (closing_of s i.kind i.start q.at) refl))
      (λ b. rw b h)

  mended_goes : (p : Spot) → Ready p → Goes (mended_at s p)
  unfolding mended_at
  mended_goes p r = mend_goes (next_at s p) (next_goes p r)

  -- ---- all of them

  from_stand : (n : ℕ) (p : Spot) → Ready p → Every BetweenItem (mended_from n s p)
  unfolding mended_from
  from_stand zero p r = tt
  from_stand (suc n) p r = go (mended_at s p) refl (λ q h. from_stand n q h)
    where
      go : (t : Turn) → mended_at s p ≡ t → ((q : Spot) → Ready q → Every BetweenItem (mended_from n s q)) → Every BetweenItem (mended_from (suc n) s p)
      go ends e rec = subst (Every BetweenItem) (sym (from_ends s n p e)) tt
      go (gives i q) e rec = let g : Goes (gives i q) = subst Goes e (mended_goes p r) in subst (Every BetweenItem) (sym (from_gives s n p q i e)) (g.0, rec q g.1)

  -- a first line that is passed over ends between characters
  line_between : (at : ℕ) (cs : List ℕ) → Along B at cs → B (line_end at cs)
  unfolding line_end
  line_between at [] h = h
  line_between at (c ∷ cs) h = if_all B (eqb c (code "\n")) h.0 (line_between (at + width c) cs h.1)

  hash_between : (cs : List ℕ) → Along B 0 (code "#" ∷ cs) → B (after_hash cs)
  unfolding after_hash width
  hash_between [] h = start_between s
  hash_between (c ∷ cs) h = by_bool (eqb c (code "!"))
      (λ e. rw e (line_between 2 cs (rw (eqb-true c (code "!") e) at h.1.1)))
      (λ e. rw e (start_between s))

  opening_between : (cs : List ℕ) → Along B 0 cs → B (start_of cs)
  unfolding start_of
  opening_between [] h = start_between s
  opening_between (c ∷ cs) h = by_bool (eqb c (code "#"))
      (λ e. rw e (hash_between cs (rw (eqb-true c (code "#") e) at h)))
      (λ e. rw e (start_between s))

  pub mended_between : Every BetweenItem (mended_of s)
  unfolding mended_of
  mended_between = by_bool (ltb limit (length s)) (λ b. rw b tt)
      (λ b. rw b (from_stand (suc (size_of s (opening_spot s))) (opening_spot s) (opening_between (chars s) (along_all s good), refl)))
