-- The reader's second pass, which stores the words.
use mathlib.Core.Path.{◌≡◌, refl, sym, ap, ◌∙◌}
use mathlib.Core.Bool.{true}
use mathlib.Core.List.{List}
use Prim.Native.Nat.{ℕ, ◌+◌, ◌-◌, ◌≤◌, ◌<◌}
use native.Mathlib.Omega.{arith}
use lib.ListN.{length, take, drop, set}
use borrow.Rule.Slice.PartMut.{put_mid}
use Rattle.laws.specs.Lent.{written}
use Rattle.laws.proofs.Lent.{length-written, written_push, part_written}
use Rattle.items.specs.Items.{record_words, words_of}
use Rattle.items.specs.declared.Record.{Record}
use Rattle.items_files.specs.Groups.{most}
use Rattle.items_files.specs.Layout.{before, base, after, first}
use Rattle.items_files.specs.Glance.{ItemAt}
use Rattle.items_files.specs.Numbers.{whole, number_of}
use Rattle.items_files.specs.Read.{read_from, words_in, sound, opening}
use Rattle.items_files.specs.declared.Before.{Before}
use Rattle.items_files.proofs.Reader.{Scanning, scanning_start, scanning_word, scanning_few, scanning_end, never_over}
use Rattle.items_files.proofs.LightItems.{scanning_item}

pub record Filling (s old out : List ℕ) (b : Before) (n i : ℕ) : Type 0 where
  pub scan : Scanning s b n i
  pub lies : out ≡ written scan.done old

pub filling_start : (s old : List ℕ) → Filling s old old first 0 0
unfolding scanning_start
filling_start s old = record { scan = scanning_start s; lies = refl }

module _ (s old : List ℕ) (b : Before) (n i : ℕ) {out : List ℕ} (q : sound (read_from opening 0 s) ≡ true)
    (fits : length (words_in (read_from opening 0 s)) ≤ length old) (g : Filling s old out b n i) where
  pub filling_length : length out ≡ length old
  filling_length = ap length g.lies ∙ length-written g.scan.done old (omega (arith, scanning_few s b n i g.scan q, g.scan.count))

  pub filling_end : length s ≤ i → out ≡ written (words_in (read_from opening 0 s)) old
  filling_end h = g.lies ∙ rw (scanning_end s b n i g.scan q h)

  module _ (h : i < length s) {v next less : ℕ} (e : whole v next ≡ number_of 0 1 i (drop i s)) (l : less ≡ base b) where
    pub filling_sum : less + v ≤ most
    filling_sum = never_over s b n i g.scan q h e l

    pub filling_room : n < length out
    filling_room =
        let m : Scanning s (after b (less + v)) (n + 1) next = scanning_word s b n i g.scan h e l filling_sum refl in
        omega (arith, scanning_few s (after b (less + v)) (n + 1) next m q, filling_length)

    pub filling_word : {after_it : Before} → after_it ≡ after b (less + v) → Filling s old (set out n (less + v)) after_it (n + 1) next
    unfolding scanning_word
    filling_word a =
        let room : length g.scan.done < length old = omega (arith, filling_room, filling_length, g.scan.count) in
        record {
          scan = scanning_word s b n i g.scan h e l filling_sum a;
          lies =
              ap (λ (m : List ℕ). set m n (less + v)) g.lies
              ∙ ap (λ (k : ℕ). set (written g.scan.done old) k (less + v)) (sym g.scan.count)
              ∙ written_push g.scan.done old (less + v) room;
        }

  -- a light item, whose record is put into the rest of the memory
  module _ {r : Record} {next : ℕ} (l : ItemAt s i b r next) where
    pub filling_fits : n + record_words ≤ length out
    filling_fits =
        let b' : Before = before 0 r.depth r.nine.start in
        omega (arith, scanning_few s b' (n + record_words) next (scanning_item s b n i g.scan l refl) q, filling_length)

    pub filling_item : {after_it : Before} {last : List ℕ} → after_it ≡ before 0 r.depth r.nine.start → last ≡ written (words_of r) (take (length out - n) (drop n out))
        → Filling s old (put_mid n (length out - n) out last) after_it (n + record_words) next
    unfolding scanning_item
    filling_item a w = record {
      scan = scanning_item s b n i g.scan l a;
      lies = part_written g.scan.done (words_of r) old g.lies g.scan.count (omega (arith, filling_fits, filling_length, g.scan.count)) w;
    }
