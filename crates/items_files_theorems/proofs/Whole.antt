-- WHATEVER THE WHOLE-TEXT CALL SERVED CAN BE STORED, in either mode, comments kept or skipped.
use Rattle.std.proofs.Common.{None}
use mathlib.Core.Path.{◌≡◌, refl, sym, ap, ◌∙◌, subst}
use mathlib.Core.Bool.{Bool}
use mathlib.Core.List.{List, [], ◌∷◌, ◌++◌}
use Prim.Native.Nat.{ℕ, ◌+◌, ◌*◌, ◌^◌, ◌≤◌, ◌<◌}
use native.Mathlib.Omega.{arith}
use lib.ListN.{length, take, drop}
use lib.Seq.{take_at}
use Rattle.chars.specs.Utf8.{chars, first_bad}
use Rattle.chars.proofs.Good.{good_bytes_lem, good_scalars}
use Rattle.refusal.specs.Refusals.{goes_back}
use Rattle.items.specs.Items.{Item, items, kept, records, record_of, depth_after, memory_of, byte_count, record_words}
use Rattle.items.specs.Meaning.{Text, none, source, decoded}
use Rattle.items.specs.Whole.{limit, in_report, items_in}
use Rattle.items.specs.Whole as whole
use Rattle.items.proofs.Every.{Every}
use Rattle.items.proofs.Fit.{Fits, records-length, records_fit_lem}
use Rattle.items.proofs.Meanings.{Inside}
use Rattle.items.proofs.Order.{InOrder, Placed, items_placed, items_order}
use Rattle.items.proofs.Skipped.{kept_every}
use Rattle.items.proofs.Splits.{length_bytes}
use Rattle.items_coverage.proofs.Calls.{Delivered, leaves}
use Rattle.items_files.specs.Layout.{before}
use Rattle.items_files.specs.Answers.{refused}
use Rattle.items_files.specs.Write.{on, goes, write_of}
use Rattle.items_files.proofs.Records.{ten_goes}
use Rattle.items_files.proofs.Round.{Writable}
use Rattle.items_files.proofs.Stored.{never_back}
use Rattle.items_files.proofs.Trips as trips
use Rattle.items_files_theorems.specs.Plans.{whole_plan}
use Rattle.items_files_theorems.proofs.Items.{starts_on, kept_order, any_start, scalars_fit}

record_on : (n free depth last p : ℕ) (i : Item) (t : Text) (rest : List ℕ) → i.text ≡ t → p ≤ i.start → Placed n i
    → ((j : ℕ) → goes (before 0 depth i.start) j rest ≡ on) → (j : ℕ) → goes (before 0 last p) j (record_of free depth i ++ rest) ≡ on
record_on n free depth last p i none rest e h q g j =
    rw e (ten_goes i.kind i.detail i.start i.end i.place.from i.place.to 0 0 0 depth last p rest h (omega (arith, q.some)) q.place.0 (omega arith) j ∙ g (j + record_words))
record_on n free depth last p i (source a b) rest e h q g j =
    let x : Inside i.start i.end (source a b) = subst (Inside i.start i.end) e q.text in
    rw e (ten_goes i.kind i.detail i.start i.end i.place.from i.place.to 1 a b depth last p rest h (omega (arith, q.some)) q.place.0 x.1.0 j ∙ g (j + record_words))
record_on n free depth last p i (decoded bs) rest e h q g j =
    rw e (ten_goes i.kind i.detail i.start i.end i.place.from i.place.to 2 free (free + length bs) depth last p rest h
    (omega (arith, q.some)) q.place.0 (omega arith) j ∙ g (j + record_words))

records-on : (n free depth last p : ℕ) (is : List Item) → Every (λ (i : Item). p ≤ i.start) is → Every (Placed n) is → InOrder is
    → (j : ℕ) → goes (before 0 last p) j (records free depth is) ≡ on
unfolding records goes
records-on n free depth last p [] h q o j = refl
records-on n free depth last p (i ∷ is) h q o j =
    record_on n free depth last p i i.text (records (free + length (memory_of i.text)) (depth_after i.kind depth) is) refl h.0 q.0
    (records-on n (free + length (memory_of i.text)) (depth_after i.kind depth) depth i.start is (starts_on n i is q.0 o.0) q.1 o.1) j

fit_words : (ws : List ℕ) → Every Fits ws → trips.Words ws
fit_words [] h = trips.none
fit_words (w ∷ ws) h = trips.some {w = w} (omega (arith, h.0)) (fit_words ws h.1)

-- the records of the items of any characters that fit
pub records_writable : (report skip : Bool) (cs : List ℕ) → Every Fits cs → byte_count cs < 2 ^ 32 → Writable (records 0 0 (kept skip (items report cs)))
records_writable report skip cs h long =
    let is : List Item = kept skip (items report cs) in
    record {
      tens = omega (arith, records-length 0 0 is);
      words = fit_words (records 0 0 is) (records_fit_lem report skip cs h long);
      onward =
          records-on (byte_count cs) 0 0 0 0 is (any_start is)
          (kept_every (Placed (byte_count cs)) skip (items report cs) (items_placed report cs))
          (kept_order skip (items report cs) (items_order report cs)) 0;
    }

pub source_writable : (s : List ℕ) (mode : ℕ) (skip : Bool) → first_bad s ≡ None → length s ≤ limit → Writable (records 0 0 (items_in s mode skip))
source_writable s mode skip g h =
    records_writable (in_report mode) skip (chars s) (scalars_fit (chars s) (good_scalars s g))
    (omega (arith, length_bytes (chars s), ap length (good_bytes_lem s g)))

module _ (s : List ℕ) (mode : ℕ) (skip : Bool) (recs text : List ℕ) (n m : ℕ) where
  -- what a call that served leaves
  abbrev Left : Type 0
  Left = Delivered s mode skip recs text n m (whole.read_of s mode skip recs text)

  module _ (e : (whole.read_of s mode skip recs text).answer ≡ whole.served n m) where
    abbrev plan : List ℕ
    plan = whole_plan n (whole.read_of s mode skip recs text)

    plan_is : plan ≡ records 0 0 (items_in s mode skip)
    plan_is =
        let l : Left = leaves s mode skip recs text n m e in
        let rs : List ℕ = records 0 0 (items_in s mode skip) in
        ap (take (record_words * n)) l.wrote
        ∙ take_at rs (drop (length rs) recs) (record_words * n) (records-length 0 0 (items_in s mode skip) ∙ ap (λ (k : ℕ). record_words * k) (sym l.count))

    -- WHATEVER `read` SERVED, in either mode, comments kept or skipped, can be stored
    pub read_plans : Writable (whole_plan n (whole.read_of s mode skip recs text))
    read_plans = let l : Left = leaves s mode skip recs text n m e in subst Writable (sym plan_is) (source_writable s mode skip l.good l.short)

    -- and the writer never answers 32
    pub read_never_32 : (out : List ℕ) (k : ℕ) → (write_of (whole_plan n (whole.read_of s mode skip recs text)) out).answer ≡ refused goes_back k → ⊥
    read_never_32 out k = never_back plan out read_plans k
