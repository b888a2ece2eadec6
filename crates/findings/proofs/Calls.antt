-- What the call answers, case by case.
use Rattle.std.proofs.Common.{None, Some, Ok}
use Prim.Native.Nat.{ℕ, ◌*◌, ◌/◌, ◌≤◌, ◌<◌}
use mathlib.Core.Path.{◌≡◌, sym, ap, ◌∙◌}
use mathlib.Core.List.{List, [], ◌∷◌}
use native.Mathlib.Omega.{arith}
use lib.ListN.{length, take, drop}
use lib.Seq.{take_at, length-take-le}
use borrow.Author.Tests.{le-leb, lt-leb, lt-ltb, le-ltb}
use Rattle.chars.specs.Utf8.{first_bad}
use Rattle.items.specs.Whole.{limit}
use Rattle.findings_rows.specs.Laid.{flat, laid_rows, Laid, laid, all_laid}
use Rattle.findings_rows.specs.Mended.{mended_of}
use Rattle.findings_rows.specs.Rows.{rows_of}
use Rattle.findings_rows.proofs.Laid.{laid_length, laid_all}
use Rattle.findings_rows.proofs.Lays.{rows_count, rows_size}
use Rattle.findings.specs.Told.{told_of}
use Rattle.findings.specs.Laid.{count_on, counted, laid_behind, Telling, telling, all_told}
use Rattle.findings.specs.Find.{over_long, not_utf8, find_of, needed_rows, too_few as few, outcome, delivered, call_of}
use Rattle.findings.specs.declared.Finding.{Finding}
use Rattle.findings.specs.declared.Counted.{Counted}
use Rattle.findings.proofs.AllTold.{held_none, held_more, held_told}

-- ---- by the text

module _ (source rows findings : List ℕ) where
  pub call_long : limit < length source → delivered (over_long ∷ []) [] rows findings ≡ call_of source rows findings
  unfolding call_of find_of needed_rows
  call_long h = rw (lt-ltb limit (length source) h)

  module _ (h : length source ≤ limit) where
    pub call_bad : (b : ℕ) → first_bad source ≡ Some b → delivered (not_utf8 source b ∷ []) [] rows findings ≡ call_of source rows findings
    unfolding call_of find_of needed_rows
    call_bad b e = rw (le-ltb limit (length source) h, e)

    pub call_good : first_bad source ≡ None → delivered (told_of source (flat (rows_of source))) (rows_of source) rows findings ≡ call_of source rows findings
    unfolding call_of find_of needed_rows
    call_good e = rw (le-ltb limit (length source) h, e)

-- ---- by the room

module _ (fs : List Finding) (needed : List (List ℕ)) (rows findings : List ℕ) where
  pub call_found : {n : Counted} {m : List ℕ} → length needed ≤ length rows / 10 → telling n m ≡ all_told fs findings
      → outcome (Ok n) (laid_rows needed rows) m ≡ delivered fs needed rows findings
  call_found h e =
      rw (le-leb (length needed) (length rows / 10) h)
      (ap (λ (t : Telling). outcome (Ok t.count) (laid_rows needed rows) t.memory) e)

  pub call_few : length rows / 10 < length needed → outcome (few (length needed)) (laid_rows needed rows) findings ≡ delivered fs needed rows findings
  call_few h = rw (lt-leb (length needed) (length rows / 10) h)

-- one finding alone
pub call_alone : (f : Finding) (rows findings : List ℕ) {n : Counted} {m : List ℕ}
    → telling n m ≡ telling (count_on (counted 0 0) (f ∷ [])) (laid_behind 0 (f ∷ []) findings)
    → outcome (Ok n) rows m ≡ delivered (f ∷ []) [] rows findings
unfolding laid_rows
call_alone f rows findings e = call_found (f ∷ []) [] rows findings (omega arith) (held_told (held_more (held_none findings) (f ∷ []) e))

-- ---- the rows of a source, laid into `rows`

module _ (source rows : List ℕ) {count : ℕ} {m : List ℕ} (e : laid count m ≡ all_laid (rows_of source) rows) where
  pub laid_count : count ≡ length (rows_of source)
  laid_count = ap (λ (l : Laid). l.count) e

  pub laid_memory : m ≡ laid_rows (rows_of source) rows
  laid_memory = ap (λ (l : Laid). l.memory) e

  same_room : length m ≡ length rows
  same_room = ap length laid_memory ∙ laid_length (rows_of source) rows

  pub too_few : (findings : List ℕ) (fs : List Finding) → length m / 10 < count → outcome (few count) m findings ≡ delivered fs (rows_of source) rows findings
  too_few findings fs h =
      let k : length rows / 10 < length (rows_of source) = rw same_room at (rw laid_count at h) in
      ap (λ (l : Laid). outcome (few l.count) l.memory findings) e ∙ call_few fs (rows_of source) rows findings k

  module _ (h : count ≤ length m / 10) where
    pub part_length : count * 10 ≡ length (take (count * 10) m)
    part_length = sym (length-take-le (count * 10) m (omega arith))

    -- what is handed on is the rows, all of them
    pub part_rows : take (count * 10) m ≡ flat (rows_of source)
    part_rows =
        let size : length (flat (rows_of source)) ≡ count * 10 =
        omega (arith, rows_size 0 (mended_of source), rows_count 0 (mended_of source), laid_count) in
        ap (take (count * 10)) (laid_memory ∙ laid_all (rows_of source) rows (omega (arith, same_room)))
        ∙ take_at (flat (rows_of source)) (drop (length (flat (rows_of source))) rows) (count * 10) size

    pub all_found : (findings : List ℕ) {n : Counted} {told : List ℕ} → telling n told ≡ all_told (told_of source (take (count * 10) m)) findings
        → outcome (Ok n) m told ≡ delivered (told_of source (flat (rows_of source))) (rows_of source) rows findings
    all_found findings {n} {told} f =
        ap (λ (l : List ℕ). outcome (Ok n) l told) laid_memory
        ∙ call_found (told_of source (flat (rows_of source))) (rows_of source) rows findings (omega (arith, same_room, laid_count))
        (f ∙ ap (λ (l : List ℕ). all_told (told_of source l) findings) part_rows)
