-- What holds of the items of every extent holds of the item that a turn gives, and of all items of the mended reading.
use Prim.Native.Nat.{ℕ, zero, suc, ◌+◌}
use mathlib.Core.Path.{◌≡◌, refl, sym, subst}
use mathlib.Core.Bool.{Bool, true, false, ◌&&◌}
use mathlib.Core.List.{List, [], ◌∷◌}
use lib.ListN.{length, drop}
use lib.Dec.{eqb, ltb}
use Rattle.std.specs.Prelude.{None, Option, Some}
use Rattle.laws.proofs.Choice.{by_bool}
use Rattle.chars.specs.Utf8.{chars}
use Rattle.chars.specs.Encode.{width}
use Rattle.chars.specs.Blank.{is_blank}
use Rattle.items.specs.Kinds as kind
use Rattle.items.specs.Readers.{Read, read_item}
use Rattle.items.specs.Items.{Place, Item, extent_items, range_after}
use Rattle.items.specs.Whole.{limit}
use Rattle.items.proofs.Every.{Every}
use Rattle.meaning.specs.Places.{place_in}
use Rattle.lexer.specs.Reading.{Turn, gives, ends, moved, pick, turn_at, turn_from, turn, keep, next_from, next_at, size_of}
use Rattle.lexer.specs.declared.Spot.{Spot}
use Rattle.findings_rows.specs.Mended.{slips, quote_of, closing_of, ended_at, unclosed_at, slip_turn, mend_turn, mended_at, mended_from, mended_of, opening_spot}
use Rattle.findings_rows.proofs.Lays.{from_gives, from_ends}

abbrev pub Given : (Item → Type 0) → Turn → Type 0
Given P (gives i q) = P i
Given P ends = Unit {0}

module _ (P : Item → Type 0)
    (extent : (report : Bool) (last : Place) (at c : ℕ) (cs : List ℕ) → Every P (extent_items report last at (read_item report at c cs).what (read_item report at c cs).item)) where
  pick_given : (second : Bool) (stay past : Spot) (is : List Item) → Every P is → Given P (pick second stay past is)
  pick_given second stay past [] h = tt
  pick_given second stay past (i ∷ []) h = h.0
  pick_given true stay past (i ∷ (j ∷ is)) h = h.1.0
  pick_given false stay past (i ∷ (j ∷ is)) h = h.0

  at_given : (p : Spot) (at c : ℕ) (cs : List ℕ) → Given P (turn_at p at c cs)
  at_given p at c cs =
      let r : Read = read_item p.report at c cs in
      pick_given p.second (moved p at (place_in p.last) true)
      (moved p r.item.at (range_after p.report (place_in p.last) at r.what r.item) false)
      (extent_items p.report (place_in p.last) at r.what r.item)
      (extent p.report (place_in p.last) at c cs)

  from_given : (p : Spot) (at : ℕ) (cs : List ℕ) → Given P (turn_from p at cs)
  unfolding turn_from
  from_given p at [] = tt
  from_given p at (c ∷ cs) = by_bool (is_blank c)
      (λ b. rw (b, turn_from) (from_given p (at + width c) cs))
      (λ b. rw (b, turn_from) (at_given p at c cs))

  turn_given : (s : List ℕ) (p : Spot) → Given P (turn s p)
  unfolding turn
  turn_given s p = from_given p p.at (chars (drop p.at s))

  keep_given : (skip : Bool) (t : Turn) (more : Spot → Turn) → Given P t → ((q : Spot) → Given P (more q)) → Given P (keep skip t more)
  keep_given skip ends more h k = tt
  keep_given skip (gives i q) more h k = by_bool (skip && eqb i.kind kind.Comment) (λ b. rw b (k q)) (λ b. rw b h)

  next_from_given : (n : ℕ) (s : List ℕ) (p : Spot) → Given P (next_from n s p)
  unfolding next_from
  next_from_given zero s p = tt
  next_from_given (suc n) s p = keep_given p.skip (turn s p) _ (turn_given s p) (λ q. next_from_given n s q)

  pub next_given : (s : List ℕ) (p : Spot) → Given P (next_at s p)
  unfolding next_at
  next_given s p = next_from_given (suc (size_of s p)) s p

  -- ---- the mended reading

  module _ (s : List ℕ) (ended : (e : ℕ) (i : Item) → P i → P (ended_at e i)) (unclosed : (quote start e : ℕ) → P (unclosed_at quote start e)) where
    slip_given : (i : Item) (q : Spot) (c : Option ℕ) → P i → Given P (slip_turn s i q c)
    slip_given i q (Some e) h = ended e i h
    slip_given i q None h = unclosed (quote_of s i.start) i.start (length s)

    mend_given : (t : Turn) → Given P t → Given P (mend_turn s t)
    mend_given ends h = tt
    mend_given (gives i q) h = by_bool (slips s i.kind i.start) (λ b. rw b (slip_given i q (closing_of s i.kind i.start q.at) h)) (λ b. rw b h)

    mended_given : (p : Spot) → Given P (mended_at s p)
    unfolding mended_at
    mended_given p = mend_given (next_at s p) (next_given s p)

    mended_from_lem : (n : ℕ) (p : Spot) → Every P (mended_from n s p)
    unfolding mended_from
    mended_from_lem zero p = tt
    mended_from_lem (suc n) p = go (mended_at s p) refl (λ q. mended_from_lem n q)
      where
        go : (t : Turn) → mended_at s p ≡ t → ((q : Spot) → Every P (mended_from n s q)) → Every P (mended_from (suc n) s p)
        go ends e rec = subst (Every P) (sym (from_ends s n p e)) tt
        go (gives i q) e rec = subst (Every P) (sym (from_gives s n p q i e)) (subst (Given P) e (mended_given p), rec q)

    pub mended_every : Every P (mended_of s)
    unfolding mended_of
    mended_every = by_bool (ltb limit (length s)) (λ b. rw b tt) (λ b. rw b (mended_from_lem _ (opening_spot s)))
