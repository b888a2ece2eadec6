-- The tables that the opening call and later calls make: what holds of them, and that it stays.
use Prim.Native.Nat.{ℕ, zero, suc, ◌+◌, ◌-◌, ◌*◌, ◌≤◌, ◌<◌}
use native.Mathlib.Omega.{arith}
use borrow.Author.Tests.{le-leb, eqb-true, eqb-false}
use mathlib.Core.Path.{◌≡◌, refl, sym, ap, ◌∙◌}
use mathlib.Core.Logic.{◌⊎◌, inl, inr, ⊎_elim}
use mathlib.Core.Bool.{true}
use mathlib.Core.List.{List}
use lib.Dec.{eqb}
use lib.ListN.{length, take, drop}
use Rattle.laws.specs.Texts.{same}
use Rattle.laws.proofs.Choice.{by_bool, if_yes}
use Rattle.names.specs.Layout.{count, bound, used, slot, name_at, bears, half_bounds, is_in_bounds, half_names, half_bytes, first_slot, index_slots, half_words, table_words}
use Rattle.names.specs.Call.{slot_of, tag_of, slot_word, entry_in, tag_in, proposes, new_words, laid, probe_of, free_of, looks}
use Rattle.names.proofs.Laws.{name_part, Bounds, bounds, length-laid, bears_in, bears-same, proposes_as, proposes_is, slot_small}
use Rattle.names.proofs.Gives.{by_proposal}
use Rattle.names.proofs.Index.{Reached, entry_free, full_free, free_empty, stays_reached, comes_reached}
use Rattle.names.proofs.Parts.{part_before, part_behind, part_new, apart, length_new, new_count, new_bound, new_slot, old_slot, old_bound, other_word, other_count, other_bound, same_refl}

-- in bounds; bounds start at 0 and do not fall; no name stands twice, in one half or in both; no name of a half is answered by an empty slot of its index
pub record Sound (w b : List ℕ) : Type 0 where
  pub inside : is_in_bounds w b ≡ true
  pub first : (p : ℕ) → p < 2 → bound w p 0 ≡ 0
  pub rising : (p k : ℕ) → p < 2 → k < count w p → bound w p k ≤ bound w p (k + 1)
  pub single : (p j q k : ℕ) → p < 2 → q < 2 → j < count w p → k < count w q → name_at w b p j ≡ name_at w b q k → (p ≡ q) × (j ≡ k)
  pub indexed : (p k : ℕ) → p < 2 → k < count w p → Reached (probe_of w b p (name_at w b p k))

half_true : (w : List ℕ) (p : ℕ) → count w p ≤ half_names → used w p ≤ half_bytes → true ≡ half_bounds w p
unfolding half_bounds
half_true w p h g = if_yes _ _ _ (le-leb _ _ h) (sym (le-leb _ _ g))

pub in_bounds : (w b : List ℕ) → Bounds w b → is_in_bounds w b ≡ true
unfolding is_in_bounds
in_bounds w b r =
    sym (if_yes _ _ _ (le-leb _ _ r.words) (if_yes _ _ _ (le-leb _ _ r.bytes)
    (if_yes _ _ _ (sym (half_true w 0 (r.few 0 (omega arith)) (r.short 0 (omega arith))))
    (half_true w 1 (r.few 1 (omega arith)) (r.short 1 (omega arith))))))

module _ (w b : List ℕ) (t : Sound w b) where
  climbs : (p m k : ℕ) → p < 2 → k + m ≤ count w p → bound w p k ≤ bound w p (k + m)
  climbs p zero k h g = let e : k + 0 ≡ k = omega arith in rw e (omega arith)
  climbs p (suc m) k h g =
      let e : k + suc m ≡ (k + m) + 1 = omega arith in
      rw e (omega (arith, climbs p m k h (omega arith), t.rising p (k + m) h (omega arith)))

  pub below_used : (p k : ℕ) → p < 2 → k ≤ count w p → bound w p k ≤ used w p
  below_used p k h g = let e : k + (count w p - k) ≡ count w p = omega arith in rw e at (climbs p (count w p - k) k h (omega arith))

  pub below_all : (p k : ℕ) → p < 2 → k ≤ count w p → bound w p k ≤ half_bytes
  below_all p k h g = omega (arith, below_used p k h g, (bounds w b t.inside).short p h)

  pub name_is : (p k : ℕ) → p < 2 → k < count w p
      → name_at w b p k ≡ take ((p * half_bytes + bound w p (k + 1)) - (p * half_bytes + bound w p k)) (drop (p * half_bytes + bound w p k) b)
  name_is p k h g = sym (name_part w p k refl refl b (t.rising p k h g) (below_all p (k + 1) h (omega arith)))

-- two memories in which an entry has the same bounds and the same bytes
name_same : (w b v c : List ℕ) (q k : ℕ) → bound v q k ≡ bound w q k → bound v q (k + 1) ≡ bound w q (k + 1)
    → bound w q k ≤ bound w q (k + 1) → bound w q (k + 1) ≤ half_bytes
    → take ((q * half_bytes + bound w q (k + 1)) - (q * half_bytes + bound w q k)) (drop (q * half_bytes + bound w q k) c)
    ≡ take ((q * half_bytes + bound w q (k + 1)) - (q * half_bytes + bound w q k)) (drop (q * half_bytes + bound w q k) b)
    → name_at v c q k ≡ name_at w b q k
name_same w b v c q k e f up l g = sym (name_part v q k (sym e) (sym f) c up l) ∙ g ∙ name_part w q k refl refl b up l

-- one name more
module _ (w b name : List ℕ) (p s : ℕ) (t : Sound w b) (two : p < 2)
    (few : count w p < half_names) (fits : used w p + length name ≤ half_bytes) (small : s < index_slots + 1) (free : s ≡ free_of (probe_of w b p name))
    (absent : (q k : ℕ) → q < 2 → k < count w q → name_at w b q k ≡ name → ⊥) where
  abbrev v : List ℕ
  v = new_words w p s (tag_of name) (length name)

  abbrev c : List ℕ
  c = laid (p * half_bytes + used w p) name b

  room : table_words ≤ length w
  room = (bounds w b t.inside).words

  long : p * half_bytes + used w p + length name ≤ length b
  long = omega (arith, (bounds w b t.inside).bytes)

  own_old : (k : ℕ) → k < count w p → name_at v c p k ≡ name_at w b p k
  own_old k h =
      name_same w b v c p k
      (old_bound w p s (tag_of name) (length name) room two few k (omega arith))
      (old_bound w p s (tag_of name) (length name) room two few (k + 1) (omega arith))
      (t.rising p k two h)
      (below_all w b t p (k + 1) two (omega arith))
      (part_before (p * half_bytes + used w p) name b long (p * half_bytes + bound w p k) (p * half_bytes + bound w p (k + 1))
      (omega (arith, t.rising p k two h))
      (omega (arith, below_used w b t p (k + 1) two (omega arith))))

  other_old : (q k : ℕ) → q < 2 → (q ≡ p → ⊥) → k < count w q → name_at v c q k ≡ name_at w b q k
  other_old q k h g i =
      name_same w b v c q k
      (other_bound w p s (tag_of name) (length name) room two few q k h g small (omega (arith, (bounds w b t.inside).few q h)))
      (other_bound w p s (tag_of name) (length name) room two few q (k + 1) h g small (omega (arith, (bounds w b t.inside).few q h)))
      (t.rising q k h i)
      (below_all w b t q (k + 1) h (omega arith))
      (⊎_elim
      (λ d. part_before (p * half_bytes + used w p) name b long (q * half_bytes + bound w q k) (q * half_bytes + bound w q (k + 1))
      (omega (arith, t.rising q k h i)) (omega (arith, below_all w b t q (k + 1) h (omega arith))))
      (λ d. rw (part_behind (p * half_bytes + used w p) name b long (q * half_bytes + bound w q k) (omega arith)))
      (apart q p g))

  pub entry_old : (q k : ℕ) → q < 2 → k < count w q → name_at v c q k ≡ name_at w b q k
  entry_old q k h g = by_bool (eqb q p) (λ x. let e = eqb-true q p x in rw e (own_old k (rw e at g))) (λ x. other_old q k h (eqb-false q p x) g)

  pub entry_new : name_at v c p (count w p) ≡ name
  entry_new =
      let e : (p * half_bytes + (used w p + length name)) - (p * half_bytes + used w p) ≡ length name = omega arith in
      sym (name_part v p (count w p) (sym (old_bound w p s (tag_of name) (length name) room two few (count w p) (omega arith)))
      (sym (new_bound w p s (tag_of name) (length name) room two few)) c (omega arith) fits)
      ∙ rw e (part_new (p * half_bytes + used w p) name b long)

  pub entry_view : (q k : ℕ) → q < 2 → k < count v q
      → ((k < count w q) × (name_at v c q k ≡ name_at w b q k)) ⊎ ((q ≡ p) × (k ≡ count w p) × (name_at v c q k ≡ name))
  entry_view q k h g =
      by_bool (eqb q p)
      (λ x. let e = eqb-true q p x in
      let n : count v q ≡ count w p + 1 = ap (count v) e ∙ new_count w p s (tag_of name) (length name) room two few in
      by_bool (eqb k (count w p))
      (λ y. let f = eqb-true k (count w p) y in inr (e, f, rw (e, f) entry_new))
      (λ y. let f = eqb-false k (count w p) y in let i : k < count w p = omega (arith, f) in inl (rw e i, rw e (own_old k i))))
      (λ x. let d = eqb-false q p x in
      let n = other_count w p s (tag_of name) (length name) room two few q h d small in
      let i : k < count w q = omega arith in inl (i, other_old q k h d i))

  count_after : (q : ℕ) → q < 2 → count v q ≤ half_names
  count_after q h =
      by_bool (eqb q p)
      (λ x. rw (eqb-true q p x) (omega (arith, new_count w p s (tag_of name) (length name) room two few)))
      (λ x. omega (arith, other_count w p s (tag_of name) (length name) room two few q h (eqb-false q p x) small, (bounds w b t.inside).few q h))

  used_after : (q : ℕ) → q < 2 → used v q ≤ half_bytes
  used_after q h =
      by_bool (eqb q p)
      (λ x. rw (eqb-true q p x, new_count w p s (tag_of name) (length name) room two few) (omega (arith, new_bound w p s (tag_of name) (length name) room two few)))
      (λ x. rw (other_count w p s (tag_of name) (length name) room two few q h (eqb-false q p x) small)
      (omega (arith, other_bound w p s (tag_of name) (length name) room two few q (count w q) h (eqb-false q p x) small ((bounds w b t.inside).few q h), (bounds w b t.inside).short q h)))

  first_after : (q : ℕ) → q < 2 → bound v q 0 ≡ 0
  first_after q h =
      by_bool (eqb q p)
      (λ x. rw (eqb-true q p x) (old_bound w p s (tag_of name) (length name) room two few 0 (omega arith) ∙ t.first p two))
      (λ x. other_bound w p s (tag_of name) (length name) room two few q 0 h (eqb-false q p x) small (omega arith) ∙ t.first q h)

  rising_own : (k : ℕ) → k < count v p → bound v p k ≤ bound v p (k + 1)
  rising_own k g =
      let n = new_count w p s (tag_of name) (length name) room two few in
      by_bool (eqb k (count w p))
      (λ y. rw (eqb-true k (count w p) y) (omega (arith, new_bound w p s (tag_of name) (length name) room two few, old_bound w p s (tag_of name) (length name) room two few (count w p) (omega arith))))
      (λ y. let f = eqb-false k (count w p) y in let i : k < count w p = omega (arith, f) in
      omega (arith, old_bound w p s (tag_of name) (length name) room two few k (omega arith), old_bound w p s (tag_of name) (length name) room two few (k + 1) (omega arith), t.rising p k two i))

  rising_after : (q k : ℕ) → q < 2 → k < count v q → bound v q k ≤ bound v q (k + 1)
  rising_after q k h g =
      by_bool (eqb q p)
      (λ x. let e = eqb-true q p x in rw e (rising_own k (rw e at g)))
      (λ x. let d = eqb-false q p x in
      let n = other_count w p s (tag_of name) (length name) room two few q h d small in
      let i : k < count w q = omega arith in
      omega (
        arith,
        other_bound w p s (tag_of name) (length name) room two few q k h d small (omega (arith, (bounds w b t.inside).few q h)),
        other_bound w p s (tag_of name) (length name) room two few q (k + 1) h d small (omega (arith, (bounds w b t.inside).few q h)),
        t.rising q k h i,
      ))

  single_after : (o j q k : ℕ) → o < 2 → q < 2 → j < count v o → k < count v q → name_at v c o j ≡ name_at v c q k → (o ≡ q) × (j ≡ k)
  single_after o j q k ho hq hj hk e =
      ⊎_elim
      (λ x. ⊎_elim
      (λ y. t.single o j q k ho hq x.0 y.0 (sym x.1 ∙ e ∙ y.1))
      (λ y. absurd (absent o j ho x.0 (sym x.1 ∙ e ∙ y.2)))
      (entry_view q k hq hk))
      (λ x. ⊎_elim
      (λ y. absurd (absent q k hq y.0 (sym y.1 ∙ sym e ∙ x.2)))
      (λ y. (x.0 ∙ sym y.0, x.1 ∙ sym y.1))
      (entry_view q k hq hk))
      (entry_view o j ho hj)

  -- what bears a name bears it afterwards
  bears_after : (q : ℕ) (n : List ℕ) (k : ℕ) → q < 2 → bears w b q n k ≡ true → bears v c q n k ≡ true
  bears_after q n k h e =
      let i = bears_in w b q n k e in
      let m : k < count v q = by_bool (eqb q p)
      (λ x. let y = eqb-true q p x in let a = ap (λ (z : ℕ). count w z) y in rw y (omega (arith, new_count w p s (tag_of name) (length name) room two few)))
      (λ x. omega (arith, other_count w p s (tag_of name) (length name) room two few q h (eqb-false q p x) small)) in
      sym (bears-same v c q n k refl m) ∙ ap (λ (z : List ℕ). same z n) (entry_old q k h i) ∙ bears-same w b q n k refl i ∙ e

  proposes_after : (q : ℕ) (n : List ℕ) (x : ℕ) → q < 2 → proposes w b q n x ≡ true → proposes v c q n x ≡ true
  proposes_after q n x h e =
      let f = proposes_is w b q n x e in sym (proposes_as v c q n x refl f.0) ∙ bears_after q n (entry_in x) h f.1

  -- the slot that is filled was empty
  slots_own : (i : ℕ) → i < index_slots → (slot w p i ≡ 0 → ⊥) → slot v p i ≡ slot w p i
  slots_own i h d =
      old_slot w p s (tag_of name) (length name) room two few i h
      (λ e. by_proposal (probe_of w b p name)
      (λ k f. let g = free ∙ ap free_of f in omega arith)
      (λ x f. let g : s ≡ x = free ∙ ap free_of f in d (rw (e ∙ g) (free_empty w b p name looks (slot_of name) f)))
      (λ f. let g = free ∙ ap free_of f in omega arith))

  slots_other : (q i : ℕ) → q < 2 → (q ≡ p → ⊥) → i < index_slots → slot v q i ≡ slot w q i
  slots_other q i h d l =
      let e : q * half_words + first_slot + i ≡ q * half_words + (first_slot + i) = omega arith in rw e (other_word w p s (tag_of name) (length name) room two few q (first_slot + i) h d small (omega arith))

  reached_old : (q : ℕ) (n : List ℕ) → q < 2 → Reached (probe_of w b q n) → Reached (probe_of v c q n)
  reached_old q n h f =
      stays_reached w b v c q n
      (λ i l d. by_bool (eqb q p) (λ x. let y = eqb-true q p x in rw y (slots_own i l (λ z. d (rw y z)))) (λ x. slots_other q i h (eqb-false q p x) l))
      (λ x e. proposes_after q n x h e) looks (slot_of n) (slot_small n) f

  -- and it proposes the new entry
  proposes_new : proposes v c p name (slot_word (tag_of name) (count w p)) ≡ true
  proposes_new =
      let m : count w p < count v p = omega (arith, new_count w p s (tag_of name) (length name) room two few) in
      let g : tag_in (slot_word (tag_of name) (count w p)) ≡ tag_of name = omega arith in
      let k : entry_in (slot_word (tag_of name) (count w p)) ≡ count w p = omega arith in
      sym (proposes_as v c p name (slot_word (tag_of name) (count w p)) refl g) ∙ rw k (sym (bears-same v c p name (count w p) refl m) ∙ rw entry_new (same_refl name))

  reached_new : Reached (probe_of v c p name)
  reached_new =
      by_proposal (probe_of w b p name)
      (λ k f. reached_old p name two (λ r e. entry_free (sym f ∙ e)))
      (λ x f. let g : s ≡ x = free ∙ ap free_of f in
      let a : slot v p x ≡ slot_word (tag_of name) (count w p) = rw (sym g) (new_slot w p s (tag_of name) (length name) room two few small) in
      comes_reached w b v c p name (λ j l d. slots_own j l d) (λ k e. proposes_after p name k two e) x looks (slot_of name)
      (λ z. omega arith) (rw a proposes_new) (slot_small name) f)
      (λ f. reached_old p name two (λ r e. full_free (sym f ∙ e)))

  indexed_after : (q k : ℕ) → q < 2 → k < count v q → Reached (probe_of v c q (name_at v c q k))
  indexed_after q k h g =
      ⊎_elim
      (λ x. rw x.1 (reached_old q (name_at w b q k) h (t.indexed q k h x.0)))
      (λ x. rw x.2 (rw x.0 reached_new))
      (entry_view q k h g)

  pub sound_after : Sound v c
  sound_after = record {
    inside = in_bounds v c (record {
      words = rw (length_new w p s (tag_of name) (length name)) room;
      bytes = rw (length-laid (p * half_bytes + used w p) name b long) (bounds w b t.inside).bytes;
      few = count_after;
      short = used_after;
    });
    first = first_after;
    rising = rising_after;
    single = single_after;
    indexed = indexed_after;
  }
