-- The writer's two passes, record by record.
use mathlib.Core.Path.{◌≡◌, refl, sym, ap, ◌∙◌}
use mathlib.Core.Bool.{true, false}
use mathlib.Core.List.{List, [], ◌++◌, append_assoc, append-nil}
use Prim.Native.Nat.{ℕ, ◌+◌, ◌-◌, ◌*◌, ◌/◌, ◌%◌, ◌≤◌, ◌<◌}
use native.Mathlib.Omega.{arith}
use lib.ListN.{length, take, drop, length-append}
use lib.Dec.{ltb}
use borrow.Author.Tests.{lt-ltb, le-ltb}
use borrow.Rule.Slice.PartMut.{put_mid}
use Rattle.std.specs.Prelude.{if◌then◌else◌, Ok, Err}
use Rattle.laws.specs.Lent.{written}
use Rattle.laws.proofs.Choice.{impossible}
use Rattle.laws.proofs.Places.{past}
use Rattle.items.specs.Items.{record_words, words_of}
use Rattle.items.specs.declared.Record.{Record}
use Rattle.items_files.specs.Groups.{images}
use Rattle.items_files.specs.Layout.{before, first, numbers_of, goes_back}
use Rattle.items_files.specs.Write.{file, Goes, on, back, goes, measured}
use Rattle.items_files.specs.declared.Before.{Before}
use Rattle.items_files.specs.declared.StoreError.TheVariants.{Back}
use Rattle.items_files.proofs.Laid.{Laid, laid_start, laid_length, laid_more, images_few}
use Rattle.items_files.proofs.Records.{onward, record_goes, record_back, record_forth, record_file}
use Rattle.lines.proofs.Tests.{by_less}

file_end : (s : List ℕ) (b : Before) (i : ℕ) → length s ≤ i → file b (drop i s) ≡ []
unfolding file
file_end s b i h = rw (past s i h)

goes_end : (s : List ℕ) (b : Before) (i : ℕ) → length s ≤ i → goes b i (drop i s) ≡ on
unfolding goes
goes_end s b i h = rw (past s i h)

-- a list that goes on has no word below its base
pub no_back : (t : ℕ) (w k : ℕ) (g : Goes) → (if ltb w k then back t else g) ≡ on → (k ≤ w) × (g ≡ on)
no_back t w k g e = by_less w k
    (λ h. let x : back t ≡ on = rw (lt-ltb w k h) at e in impossible cc)
    (λ h. (h, rw (le-ltb w k h) at e))

record_size : (r : Record) (l p : ℕ) (rest : List ℕ)
    → length (file (before 0 l p) (words_of r ++ rest)) ≡ length (images (numbers_of p r)) + length (file (before 0 r.depth r.nine.start) rest)
record_size r l p rest = ap length (record_file r l p rest) ∙ length-append (images (numbers_of p r)) (file (before 0 r.depth r.nine.start) rest)

-- ---- the first pass

pub record Measuring (s : List ℕ) (total p i : ℕ) : Type 0 where
  pub last : ℕ
  pub inside : i ≤ length s
  pub tens : i % record_words ≡ 0
  pub few : total ≤ 5 * i
  pub on_from : goes first 0 s ≡ goes (before 0 last p) i (drop i s)
  pub bytes : length (file first s) ≡ total + length (file (before 0 last p) (drop i s))

pub measuring_start : (s : List ℕ) → Measuring s 0 0 0
measuring_start s = record { last = 0; inside = omega arith; tens = refl; few = omega arith; on_from = refl; bytes = omega arith }

module _ (s : List ℕ) {total p i : ℕ} (w : length s % record_words ≡ 0) (m : Measuring s total p i) where
  pub measuring_end : length s ≤ i → Ok total ≡ measured s
  unfolding measured
  measuring_end h =
      let b : Before = before 0 m.last p in
      let size : length (file first s) ≡ total = m.bytes ∙ rw (file_end s b i h) (omega arith) in
      rw (m.on_from, goes_end s b i h, size)

  module _ (h : i < length s) where
    pub measuring_room : i + record_words ≤ length s
    measuring_room = omega (arith, m.tens, w)

    module _ (r : Record) (e : drop i s ≡ words_of r ++ drop (i + record_words) s) where
      abbrev rest : List ℕ
      rest = drop (i + record_words) s

      pub measuring_back : goes_back p r.nine ≡ true → Err (Back (i / record_words)) ≡ measured s
      unfolding measured
      measuring_back o = sym (rw (m.on_from, e) (record_back r m.last p rest i (length (file first s)) m.tens o))

      pub measuring_turn : {count : ℕ} → goes_back p r.nine ≡ false → count ≡ length (images (numbers_of p r))
          → {next : ℕ} → next ≡ i + record_words → Measuring s (total + count) r.nine.start next
      measuring_turn {count} o f n = rw n record {
        last = r.depth;
        inside = measuring_room;
        tens = omega (arith, m.tens);
        few = omega (arith, m.few, f, images_few (numbers_of p r));
        on_from = m.on_from ∙ rw e (record_goes r m.last p rest (onward p r.nine o) i);
        bytes = m.bytes ∙ rw e (omega (arith, f, record_size r m.last p rest));
      }

-- ---- the second pass

pub record Filing (s old out : List ℕ) (at p i : ℕ) : Type 0 where
  pub last : ℕ
  pub done : List ℕ
  pub inside : i ≤ length s
  pub tens : i % record_words ≡ 0
  pub onwards : goes (before 0 last p) i (drop i s) ≡ on
  pub whole : file first s ≡ done ++ file (before 0 last p) (drop i s)
  pub laid : Laid done old out at

pub filing_start : (s old : List ℕ) → goes first 0 s ≡ on → Filing s old old 0 0 0
filing_start s old h = record { last = 0; done = []; inside = omega arith; tens = refl; onwards = h; whole = refl; laid = laid_start old }

module _ (s old : List ℕ) {out : List ℕ} {at p i : ℕ} (w : length s % record_words ≡ 0) (fits : length (file first s) ≤ length old) (g : Filing s old out at p i) where
  sized : length (file first s) ≡ at + length (file (before 0 g.last p) (drop i s))
  sized = ap length g.whole ∙ length-append g.done (file (before 0 g.last p) (drop i s)) ∙ rw g.laid.count

  pub filing_fits : length g.done ≤ length old
  filing_fits = omega (arith, sized, g.laid.count)

  pub filing_length : length out ≡ length old
  filing_length = laid_length filing_fits g.laid

  pub filing_end : length s ≤ i → out ≡ written (file first s) old
  filing_end h = g.laid.lies ∙ rw (g.whole, file_end s (before 0 g.last p) i h, append-nil g.done)

  module _ (h : i < length s) where
    pub filing_inside : i + record_words ≤ length s
    filing_inside = omega (arith, g.tens, w)

    module _ (r : Record) (e : drop i s ≡ words_of r ++ drop (i + record_words) s) where
      pub filing_forth : goes_back p r.nine ≡ false
      filing_forth = record_forth r g.last p (drop (i + record_words) s) i g.tens (rw e at g.onwards)

      pub filing_room : at + length (images (numbers_of p r)) ≤ length out
      filing_room =
          omega (
            arith,
            fits,
            sized,
            filing_length,
            ap (λ (l : List ℕ). length (file (before 0 g.last p) l)) e,
            record_size r g.last p (drop (i + record_words) s),
          )

      pub filing_turn : {count : ℕ} {last : List ℕ} → count ≡ length (images (numbers_of p r))
          → last ≡ written (images (numbers_of p r)) (take (length out - at) (drop at out))
          → {next : ℕ} → next ≡ i + record_words
          → Filing s old (put_mid at (length out - at) out last) (at + count) r.nine.start next
      filing_turn k w n = rw n record {
        last = r.depth;
        done = g.done ++ images (numbers_of p r);
        inside = filing_inside;
        tens = omega (arith, g.tens);
        onwards = sym (record_goes r g.last p (drop (i + record_words) s) (onward p r.nine filing_forth) i) ∙ (rw e at g.onwards);
        whole =
            g.whole
            ∙ ap (λ (m : List ℕ). g.done ++ m) (ap (file (before 0 g.last p)) e ∙ record_file r g.last p (drop (i + record_words) s))
            ∙ sym (append_assoc g.done (images (numbers_of p r)) (file (before 0 r.depth r.nine.start) (drop (i + record_words) s)));
        laid = laid_more filing_fits g.laid (images (numbers_of p r)) k w;
      }
