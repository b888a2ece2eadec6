-- Light items: ten numbers that the byte machine takes one after the other (`light_item`), and the reader's passes over them.
use mathlib.Core.Path.{◌≡◌, refl, sym, ap, ◌∙◌}
use mathlib.Core.List.{List, [], ◌∷◌, ◌++◌}
use Prim.Native.Nat.{ℕ, ◌+◌, ◌-◌, ◌*◌, ◌≤◌, ◌<◌}
use native.Mathlib.Omega.{arith}
use lib.Bits.{bit_or, or_add_and, and_le_l, and_le_r}
use lib.ListN.{length, get_or, drop, length-append, length-drop}
use borrow.Author.Tests.{le-ltb}
use Rattle.items.specs.Items.{record_words, words_of}
use Rattle.items.specs.declared.Record.{Record}
use Rattle.items_files.specs.Groups.{most}
use Rattle.items_files.specs.Layout.{before, base, after}
use Rattle.items_files.specs.Numbers.{fifth, whole, number_of}
use Rattle.items_files.specs.Read.{between, read_from}
use Rattle.items_files.specs.Glance.{brief_groups, brief_end, BriefNumber, PairAt, LightHead, LightParts, light_record, front, Through, ItemAt, LightTo}
use Rattle.items_files.specs.declared.Before.{Before}
use Rattle.items_files.proofs.Reader.{reads, one_group, next_place, push-front, front-front, Scanning, Numbering, numbering_start, numbering_on, numbering_whole}

-- ---- words one after the other

module _ (s : List ℕ) where
  through_both : {b b' b'' : Before} {i k next : ℕ} {ws vs : List ℕ} → Through s b i ws b' k → Through s b' k vs b'' next → Through s b i (ws ++ vs) b'' next
  through_both {b} {b'} {b''} {i} {k} {next} {ws} {vs} f g = record {
    same = λ j.
        f.same j
        ∙ ap (front ws) (g.same (j + length ws))
        ∙ front-front ws vs (read_from (between b'') (j + length ws + length vs) (drop next s))
        ∙ ap (λ (n : ℕ). front (ws ++ vs) (read_from (between b'') n (drop next s))) (omega (arith, length-append ws vs));
  }

  through_number : (b : Before) {b' : Before} {i v w next : ℕ} → i < length s → whole v next ≡ number_of 0 1 i (drop i s) → w ≡ base b + v → w ≤ most
      → b' ≡ after b w → Through s b i (w ∷ []) b' next
  through_number b {b'} {i} {v} {w} {next} h e l o a = record {
    same = λ j.
        reads s b j (drop i s) 0 1 i refl (λ z x. omega (arith, z, length-drop i s))
        ∙ rw (← e, ← l, le-ltb most w o, ← a) (push-front w (read_from (between b') (j + 1) (drop next s)));
  }

  through_byte : (b : Before) {b' : Before} {i w next : ℕ} → i < length s → get_or s i 0 < 128 → next ≡ i + 1 → w ≡ base b + get_or s i 0 → w ≤ most
      → b' ≡ after b w → Through s b i (w ∷ []) b' next
  through_byte b {b'} {i} {w} {next} h l e = through_number b h (ap (λ (k : ℕ). whole (get_or s i 0) k) e ∙ one_group s i h l)

-- ---- brief numbers

module _ (s : List ℕ) (at : ℕ) where
  pub brief_one : at < length s → get_or s at 0 < 128 → BriefNumber s at (get_or s at 0) (at + 1)
  brief_one h l = record { is_whole = one_group s at h l; low = omega arith; near = omega arith }

  -- the last group of a number, after some that go on
  brief_last : {v w i value next : ℕ} → Numbering s at v w i → i < length s → get_or s i 0 < 128 → (get_or s i 0 ≡ 0 → ⊥) → value ≡ v + w * get_or s i 0 → next ≡ i + 1
      → value < brief_end → next ≤ at + brief_groups → BriefNumber s at value next
  brief_last {v} {w} {i} {value} {next} m h l z e f o n = record {
    is_whole = ap (λ (x : ℕ). whole x next) e ∙ ap (λ (x : ℕ). whole (v + w * get_or s i 0) x) f ∙ numbering_whole s at m h l z (omega arith);
    low = o;
    near = n;
  }

  -- one group more
  on : {v w i v' w' i' : ℕ} → Numbering s at v w i → i < length s → 128 ≤ get_or s i 0 → get_or s i 0 < 256 → (w ≡ fifth → ⊥)
      → v' ≡ v + w * (get_or s i 0 - 128) → w' ≡ w * 128 → i' ≡ i + 1 → Numbering s at v' w' i'
  on m h l b o e f g = rw (e, f, g) (numbering_on s at m h l b o)

  module _ (room : at + brief_groups ≤ length s) (c : 128 ≤ get_or s at 0) (c-byte : get_or s at 0 < 256) where
    second : Numbering s at (get_or s at 0 - 128) 128 (at + 1)
    second = on (numbering_start s at) (omega arith) c c-byte (λ x. omega (arith, x)) (omega arith) refl refl

    pub brief_two : get_or s (at + 1) 0 < 128 → (get_or s (at + 1) 0 ≡ 0 → ⊥) → BriefNumber s at (get_or s at 0 - 128 + 128 * get_or s (at + 1) 0) (at + 2)
    brief_two l z = brief_last second (omega arith) l z refl (omega arith) (omega arith) (omega arith)

    module _ (d : 128 ≤ get_or s (at + 1) 0) (d-byte : get_or s (at + 1) 0 < 256) where
      third : Numbering s at (get_or s at 0 - 128 + 128 * (get_or s (at + 1) 0 - 128)) 16384 (at + 2)
      third = on second (omega arith) d d-byte (λ x. omega (arith, x)) refl refl (omega arith)

      pub brief_three : get_or s (at + 2) 0 < 128 → (get_or s (at + 2) 0 ≡ 0 → ⊥)
          → BriefNumber s at (get_or s at 0 - 128 + 128 * (get_or s (at + 1) 0 - 128) + 16384 * get_or s (at + 2) 0) (at + 3)
      brief_three l z = brief_last third (omega arith) l z refl (omega arith) (omega arith) (omega arith)

      pub brief_four : 128 ≤ get_or s (at + 2) 0 → get_or s (at + 2) 0 < 256 → get_or s (at + 3) 0 < 128 → (get_or s (at + 3) 0 ≡ 0 → ⊥)
          → BriefNumber s at (get_or s at 0 - 128 + 128 * (get_or s (at + 1) 0 - 128) + 16384 * (get_or s (at + 2) 0 - 128) + 2097152 * get_or s (at + 3) 0) (at + 4)
      brief_four e e-byte l z =
          let fourth : Numbering s at (get_or s at 0 - 128 + 128 * (get_or s (at + 1) 0 - 128) + 16384 * (get_or s (at + 2) 0 - 128)) 2097152 (at + 3) =
          on third (omega arith) e e-byte (λ x. omega (arith, x)) refl refl (omega arith)
          in
          brief_last fourth (omega arith) l z refl (omega arith) (omega arith) (omega arith)

-- ---- tests of several bytes at once

pub or_below : (a b : ℕ) {k : ℕ} → bit_or a b < k → (a < k) × (b < k)
or_below a b h = (omega (arith, or_add_and a b, and_le_r a b), omega (arith, or_add_and a b, and_le_l a b))

-- ---- the ten numbers of an item

base_none : (b : Before) → b.which ≡ 0 → base b ≡ 0
unfolding base
base_none b z = rw z

after_none : (b : Before) (w : ℕ) → b.which ≡ 0 → after b w ≡ before 1 w b.start
unfolding after
after_none b w z = rw z

module _ (s : List ℕ) where
  -- kind, detail, start and end
  head_words : (at : ℕ) (b : Before) → LightHead s at b
      → Through s b at
      (get_or s at 0 ∷ get_or s (at + 1) 0 ∷ (b.start + get_or s (at + 2) 0) ∷ (b.start + get_or s (at + 2) 0 + get_or s (at + 3) 0) ∷ [])
      (before 4 (b.start + get_or s (at + 2) 0 + get_or s (at + 3) 0) (b.start + get_or s (at + 2) 0)) (at + 4)
  unfolding base after
  head_words at b o =
      let start : ℕ = b.start + get_or s (at + 2) 0 in
      let end : ℕ = start + get_or s (at + 3) 0 in
      through_both s
      (through_byte s b {b' = before 1 (get_or s at 0) b.start} {next = at + 1} (omega (arith, o.room)) o.kind refl (omega (arith, base_none b o.which))
      (omega (arith, o.kind)) (sym (after_none b (get_or s at 0) o.which)))
      (through_both s
      (through_byte s (before 1 (get_or s at 0) b.start) {b' = before 2 (get_or s (at + 1) 0) b.start} {next = at + 2} (omega (arith, o.room)) o.detail
      (omega arith) (omega arith) (omega (arith, o.detail)) refl)
      (through_both s
      (through_byte s (before 2 (get_or s (at + 1) 0) b.start) {b' = before 3 start start} {next = at + 3} (omega (arith, o.room)) o.step
      (omega arith) refl (omega (arith, o.step, o.start)) refl)
      (through_byte s (before 3 start start) {b' = before 4 end start} {next = at + 4} (omega (arith, o.room)) o.extent (omega arith) refl (omega (arith, o.step, o.extent, o.start)) refl)))

  -- a start, the end that is stored less it, and a word that is stored whole: place and source, or text and depth
  three_words : {at v i : ℕ} → BriefNumber s at v i → PairAt s i → at < length s → i + 1 < length s → (b b₁ b₂ : Before) {b₃ : Before} → base b ≡ 0
      → b₁ ≡ after b v → base b₁ ≡ v → b₂ ≡ after b₁ (v + get_or s i 0) → base b₂ ≡ 0 → b₃ ≡ after b₂ (get_or s (i + 1) 0)
      → Through s b at (v ∷ (v + get_or s i 0) ∷ get_or s (i + 1) 0 ∷ []) b₃ (i + 2)
  three_words n p h room b b₁ b₂ z a z₁ a₁ z₂ a₂ =
      through_both s
      (through_number s b h n.is_whole (omega arith) (omega (arith, n.low)) a)
      (through_both s
      (through_byte s b₁ (omega arith) p.0 refl (omega arith) (omega (arith, n.low, p.0)) a₁)
      (through_byte s b₂ room p.1 (omega arith) (omega arith) (omega (arith, p.1)) a₂))

pub light_item : (s : List ℕ) (at : ℕ) (b : Before) {from i first j : ℕ} → LightParts s at b from i first j
    → ItemAt s at b (light_record s at b from i first j) (j + 2)
unfolding base after
light_item s at b {from} {i} {first} {j} l =
    let x = next_place s (at + 4) from i (omega (arith, l.head.room)) l.place.is_whole in
    let y = next_place s (i + 2) first j (omega (arith, l.head.room, l.place.near)) l.text.is_whole in
    let start : ℕ = b.start + get_or s (at + 2) 0 in
    let end : ℕ = start + get_or s (at + 3) 0 in
    record {
      ahead = omega (arith, x.0, y.0);
      inside = omega (arith, l.head.room, l.place.near, l.text.near);
      through =
          through_both s
          (head_words s at b l.head)
          (through_both s
          (three_words s l.place l.place_pair (omega (arith, l.head.room)) (omega (arith, l.head.room, l.place.near)) (before 4 end start)
          (before 5 from start) (before 6 (from + get_or s i 0) start) {b₃ = before 7 (get_or s (i + 1) 0) start} refl refl refl refl refl refl)
          (three_words s l.text l.text_pair (omega (arith, l.head.room, l.place.near)) (omega (arith, l.head.room, l.place.near, l.text.near))
          (before 7 (get_or s (i + 1) 0) start) (before 8 first start) (before 9 (first + get_or s j 0) start) refl refl refl refl refl refl));
    }

pub light_to : (s : List ℕ) (at : ℕ) (b : Before) {from i first j : ℕ} → LightParts s at b from i first j → LightTo s at b (j + 2)
light_to s at b {from} {i} {first} {j} l = record {
  record_there = light_record s at b from i first j;
  start = refl;
  depth = ap (λ (k : ℕ). get_or s k 0) (omega arith);
  fits = omega (arith, l.head.start, l.head.step);
  item = light_item s at b l;
}

-- ---- the passes

module _ (s : List ℕ) (b : Before) (n i : ℕ) (m : Scanning s b n i) {r : Record} {next : ℕ} (l : ItemAt s i b r next) where
  unfoldable pub scanning_item : {after_it : Before} → after_it ≡ before 0 r.depth r.nine.start → Scanning s after_it (n + record_words) next
  scanning_item {after_it} a = record {
    done = m.done ++ words_of r;
    inside = l.inside;
    few = omega (arith, m.few, l.ahead);
    count = length-append m.done (words_of r) ∙ omega (arith, m.count);
    whole = rw a (m.whole ∙ ap (front m.done) (l.through.same n) ∙ front-front m.done (words_of r) (read_from (between (before 0 r.depth r.nine.start)) (n + record_words) (drop next s)));
  }
