-- The same of the calls: of the records that `read` served, and of the items that the piece calls gave, before a stop too.
use Rattle.items.specs.Items.{Item, items, kept, depth_after, memory_of, byte_count, ends_before}
use Rattle.items.specs.Kinds as kind
use Rattle.items.specs.Whole.{served, in_report, read_of}
use Rattle.items.proofs.Every.{Every}
use Rattle.items.proofs.Order.{Placed, items_placed}
use Rattle.items.proofs.Skipped.{kept_every}
use Rattle.items.proofs.Splits.{length_bytes}
use Rattle.laws.proofs.Choice.{if_all}
use Rattle.chars.specs.Encode.{bytes_of}
use Rattle.chars.specs.Utf8.{sequences, chars}
use Rattle.chars.proofs.Good.{good_bytes_lem, good_scalars}
use Rattle.pieces.specs.Drive.{drive, joined}
use Rattle.pieces.specs.Expected.{Ending, ending_of, longest, expected_by, expected}
use Rattle.pieces.specs.Given.{given, copied, given_all}
use Rattle.pieces.proofs.Clean.{clean_only}
use Rattle.pieces.proofs.Demand.{demand_3}
use Rattle.items_coverage.specs.Records.{rows_in}
use Rattle.items_coverage.proofs.Calls.{Rows, served_rows}
use Rattle.items_coverage.proofs.Records.{rows_from}
use Rattle.items_coverage.proofs.Stops.{Told, all, up_to, told}
use Rattle.items_numbers.specs.Parts.{between, HasParts, RowHasParts, GivenHasParts}
use Rattle.items_numbers.proofs.Numbers.{NumberIn, number_items}
use Prim.Native.Nat.{ℕ, ◌+◌, ◌-◌, ◌≤◌, ◌<◌}
use mathlib.Core.Path.{◌≡◌, refl, sym, ap, subst, ◌∙◌}
use mathlib.Core.Bool.{Bool, true}
use mathlib.Core.List.{List, [], ◌∷◌, ◌++◌, append-nil}
use lib.ListN.{length, take, drop, length-drop}
use lib.Seq.{take-append-le, drop-append-le}
use lib.Dec.{eqb, ltb}
use native.Mathlib.Omega.{arith}

-- ---- records in memory

rows_parts : (whole : List ℕ) (free depth : ℕ) (is : List Item) → Every (NumberIn whole) is → Every (RowHasParts whole) (rows_from free depth is)
rows_parts whole free depth [] h = tt
rows_parts whole free depth (i ∷ is) h =
    ((λ e. (h.0 e).1), rows_parts whole (free + length (memory_of i.text)) (depth_after i.kind depth) is h.1)

-- WHATEVER `read` SERVED: the number call on the extent of every record of kind Number gives parts
pub read_parts : (source : List ℕ) (mode : ℕ) (skip : Bool) (recs text : List ℕ) (n m : ℕ) → (read_of source mode skip recs text).answer ≡ served n m
    → Every (RowHasParts source) (rows_in n (read_of source mode skip recs text).records)
read_parts source mode skip recs text n m e =
    let r : Rows source mode skip recs text n m = served_rows source mode skip recs text n m e in
    let cs : List ℕ = chars source in
    let b : bytes_of cs ≡ source = good_bytes_lem source r.good in
    let numbers : Every (NumberIn source) (items (in_report mode) cs)
    = subst (λ (l : List ℕ). Every (NumberIn l) (items (in_report mode) cs)) b
    (number_items (in_report mode) cs (good_scalars source r.good) (omega (arith, ap length b, r.short))) in
    rw r.rows (rows_parts source 0 0 (kept skip (items (in_report mode) cs)) (kept_every (NumberIn source) skip (items (in_report mode) cs) numbers))

-- ---- items that piece calls gave. The characters of `whole` are read, and it is the front of all bytes

-- a part of the front of a text is that part of the text
between_front : (from to : ℕ) (u v : List ℕ) → from ≤ to → to ≤ length u → between from to (u ++ v) ≡ between from to u
between_front from to u v a b =
    ap (take (to - from)) (drop-append-le from u v (omega arith)) ∙ take-append-le (to - from) (drop from u) v (omega (arith, length-drop from u))

pub before_every : (P : Item → Type 0) (n : ℕ) (is : List Item) → Every P is → Every P (ends_before n is)
unfolding ends_before
before_every P n [] h = tt
before_every P n (i ∷ is) h = if_all (Every P) (ltb i.end n) (h.0, before_every P n is h.1) (before_every P n is h.1)

module _ (bytes whole v : List ℕ) (front : whole ++ v ≡ bytes) where
  given_parts : (depth : ℕ) (i : Item) → NumberIn whole i → Placed (length whole) i → GivenHasParts bytes (given depth (between i.start i.end bytes) i)
  given_parts depth i h z =
      let raw : List ℕ = between i.start i.end bytes in
      let text : eqb i.kind kind.Number ≡ true → copied i.kind i.start raw i.text ≡ raw
      = λ e. ap (copied i.kind i.start raw) (h e).0 ∙ rw e in
      let stands : raw ≡ between i.start i.end whole
      = ap (between i.start i.end) (sym front) ∙ between_front i.start i.end whole v (omega (arith, z.some)) z.ends in
      record { extent = text; parts = λ e. subst HasParts (sym (text e ∙ stands)) (h e).1 }

  all_given : (depth : ℕ) (is : List Item) → Every (NumberIn whole) is → Every (Placed (length whole)) is → Every (GivenHasParts bytes) (given_all bytes depth is)
  unfolding given_all
  all_given depth [] h z = tt
  all_given depth (i ∷ is) h z = (given_parts depth i h.0 z.0, all_given (depth_after i.kind depth) is h.1 z.1)

-- what is so of the items of some characters is so of those among them that are given
module _ (report : Bool) (q : List ℕ) where
  placed_in : Every (Placed (length (bytes_of q))) (items report q)
  placed_in = subst (λ (n : ℕ). Every (Placed n) (items report q)) (sym (length_bytes q)) (items_placed report q)

module _ (report skip : Bool) (bytes : List ℕ) where
  by_ending : {e : Ending} → ending_of report (length bytes) [] (sequences 0 0 bytes) ≡ e → Told report bytes [] e
      → Every (GivenHasParts bytes) (expected_by report skip bytes e).items
  by_ending is (all h) =
      let cs : List ℕ = chars bytes in
      let c = clean_only report bytes is in
      all_given bytes (bytes_of cs) [] (append-nil (bytes_of cs) ∙ h) 0 (kept skip (items report cs))
      (kept_every (NumberIn (bytes_of cs)) skip (items report cs) (number_items report cs (good_scalars bytes c.0) (omega (arith, ap length h, c.1.0))))
      (kept_every (Placed (length (bytes_of cs))) skip (items report cs) (placed_in report cs))
  by_ending is (up_to number place q u v g h k) =
      let n : ℕ = byte_count q in
      all_given bytes (bytes_of q) v (ap (λ (l : List ℕ). bytes_of l ++ v) g ∙ h) 0 (kept skip (ends_before n (items report q)))
      (kept_every (NumberIn (bytes_of q)) skip (ends_before n (items report q))
      (before_every (NumberIn (bytes_of q)) n (items report q) (number_items report q k.scalars (omega (arith, length_bytes q, k.short)))))
      (kept_every (Placed (length (bytes_of q))) skip (ends_before n (items report q))
      (before_every (Placed (length (bytes_of q))) n (items report q) (placed_in report q)))

  pub expected_parts : Every (GivenHasParts bytes) (expected report skip bytes).items
  unfolding expected
  expected_parts = by_ending refl (told report bytes)

-- FROM PIECES, however the text is cut: of every item of kind Number, the text that came with it is its extent, and the number call on it gives parts
pub calls_parts : (mode : ℕ) (skip : Bool) (room : ℕ) (pieces : List (List ℕ)) → mode < 2 → longest ≤ room
    → Every (GivenHasParts (joined pieces)) (drive mode skip room pieces).items
calls_parts mode skip room pieces m wide = rw (demand_3 mode skip room pieces m wide) (expected_parts (in_report mode) skip (joined pieces))
