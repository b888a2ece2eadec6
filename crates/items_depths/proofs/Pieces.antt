-- What piece calls gave, however the text is cut and whatever calls were made, before a stop too: the same of the items in the order in which they
-- were given.
use Prim.Native.Nat.{ℕ, zero, suc, ◌≤◌, ◌<◌}
use mathlib.Core.Path.{◌≡◌, refl, ap}
use mathlib.Core.Bool.{Bool}
use mathlib.Core.List.{List, [], ◌∷◌, ◌++◌}
use lib.ListN.{length, get_or, length-append, get_or-append}
use lib.Dec.{eqb, ltb}
use native.Mathlib.Omega.{arith}
use Rattle.laws.proofs.Choice.{by_bool, if_all}
use Rattle.chars.specs.Utf8.{sequences, chars}
use Rattle.items.specs.Kinds as kind
use Rattle.items.specs.Meaning.{Text, none, source, decoded}
use Rattle.items.specs.Items.{Item, items, kept, most_open, depth_after, depth_past, own_words, byte_count, ends_before}
use Rattle.items.specs.Whole.{in_report}
use Rattle.items.proofs.Order.{items_count}
use Rattle.items.proofs.Skipped.{kept_count}
use Rattle.items.proofs.Splits.{length_bytes}
use Rattle.pieces.specs.Given.{Given, given, given_all, copied_words}
use Rattle.pieces.specs.Expected.{Ending, ending_of, longest, expected_by, expected}
use Rattle.pieces.specs.Drive.{drive, joined}
use Rattle.pieces.proofs.Clean.{clean_only}
use Rattle.pieces.proofs.Demand.{demand_3}
use Rattle.items_coverage.specs.Records.{word, given_kind}
use Rattle.items_coverage.proofs.Stops.{Told, all, up_to, told}
use Rattle.pieces_any_calls.specs.After.{Call, Sum, sum_of}
use Rattle.pieces_any_calls.proofs.After.{items_begin}
use Rattle.items_depths.specs.Depths.{opens, closes, nth, DepthsGiven}
use Rattle.items_depths.proofs.Counts.{deep, kind_of, all_depths}

-- ---- one item

depth_given : (depth : ℕ) (raw : List ℕ) (i : Item) → word (given depth raw i).words own_words ≡ depth
depth_given depth raw i = by_text_lem i.text _
  where
    by_text_lem : (t : Text) (n : ℕ)
        → get_or (i.kind ∷ i.detail ∷ i.start ∷ i.end ∷ i.place.from ∷ i.place.to ∷ copied_words i.kind t n ++ (depth ∷ [])) own_words 0 ≡ depth
    by_text_lem none n = by_bool (eqb i.kind kind.Number) (λ e. rw e) (λ e. rw e)
    by_text_lem (source a b) n = refl
    by_text_lem (decoded bs) n = refl

-- ---- all items

module _ (bytes : List ℕ) where
  count : (depth : ℕ) (is : List Item) → length (given_all bytes depth is) ≡ length is
  unfolding given_all
  count depth [] = refl
  count depth (i ∷ is) = ap suc (count (depth_after i.kind depth) is)

  kinds : (depth : ℕ) (is : List Item) (p : ℕ) → p < length is → given_kind (nth (given_all bytes depth is) p) ≡ kind_of is p
  unfolding given_all
  kinds depth [] p h = absurd (omega arith)
  kinds depth (i ∷ is) zero h = refl
  kinds depth (i ∷ is) (suc p) h = kinds (depth_after i.kind depth) is p (omega arith)

  depths : (depth : ℕ) (is : List Item) (p : ℕ) → p < length is → word (nth (given_all bytes depth is) p).words own_words ≡ deep depth is p
  unfolding given_all depth_past
  depths depth [] p h = absurd (omega arith)
  depths depth (i ∷ is) zero h = depth_given depth _ i
  depths depth (i ∷ is) (suc p) h = depths (depth_after i.kind depth) is p (omega arith)

  given_depths : (is : List Item) → length is ≤ most_open → DepthsGiven (given_all bytes 0 is)
  given_depths is low p h =
      all_depths (λ p. given_kind (nth (given_all bytes 0 is) p)) is low (kinds 0 is)
      (λ p. word (nth (given_all bytes 0 is) p).words own_words) (depths 0 is) p (omega (arith, count 0 is))

before_count : (n : ℕ) (is : List Item) → length (ends_before n is) ≤ length is
unfolding ends_before
before_count n [] = omega arith
before_count n (i ∷ is) =
    if_all (λ (l : List Item). length l ≤ suc (length is)) (ltb i.end n) (omega (arith, before_count n is)) (omega (arith, before_count n is))

-- ---- what is expected of a text

module _ (report skip : Bool) (bytes : List ℕ) where
  by_ending : {e : Ending} → ending_of report (length bytes) [] (sequences 0 0 bytes) ≡ e → Told report bytes [] e
      → DepthsGiven (expected_by report skip bytes e).items
  by_ending is (all h) =
      let cs : List ℕ = chars bytes in
      given_depths bytes (kept skip (items report cs))
      (omega (arith, kept_count skip (items report cs), items_count report cs, length_bytes cs, ap length h, (clean_only report bytes is).1.0))
  by_ending is (up_to number place q u v g h k) =
      let early : List Item = ends_before (byte_count q) (items report q) in
      given_depths bytes (kept skip early)
      (omega (arith, kept_count skip early, before_count (byte_count q) (items report q), items_count report q, k.short))

  pub expected_depths : DepthsGiven (expected report skip bytes).items
  unfolding expected
  expected_depths = by_ending refl (told report bytes)

-- FROM PIECES, however the text is cut, before a stop too: the tenth word of what is given
pub calls_depths : (mode : ℕ) (skip : Bool) (room : ℕ) (pieces : List (List ℕ)) → mode < 2 → longest ≤ room
    → DepthsGiven (drive mode skip room pieces).items
calls_depths mode skip room pieces m wide = rw (demand_3 mode skip room pieces m wide) (expected_depths (in_report mode) skip (joined pieces))

-- ---- a beginning of such items

module _ (gs later : List Given) where
  early : (p : ℕ) → p < length gs → nth (gs ++ later) p ≡ nth gs p
  early p h = get_or-append gs later _ p h

  opens_early : (p : ℕ) → p ≤ length gs → opens (λ q. given_kind (nth (gs ++ later) q)) p ≡ opens (λ q. given_kind (nth gs q)) p
  unfolding opens
  opens_early zero h = refl
  opens_early (suc p) h = rw (early p (omega arith), opens_early p (omega arith))

  closes_early : (p : ℕ) → p ≤ length gs → closes (λ q. given_kind (nth (gs ++ later) q)) p ≡ closes (λ q. given_kind (nth gs q)) p
  unfolding closes
  closes_early zero h = refl
  closes_early (suc p) h = rw (early p (omega arith), closes_early p (omega arith), opens_early p (omega arith))

  begins_depths : DepthsGiven (gs ++ later) → DepthsGiven gs
  begins_depths whole p h =
      rw (← early p h, ← closes_early p (omega arith), ← opens_early p (omega arith)) (whole p (omega (arith, length-append gs later)))

-- WHATEVER CALLS WERE MADE, pieces and ends in any order, each with any text memory, refused ones among them
pub any_depths : (mode : ℕ) (skip : Bool) → mode < 2 → (calls : List Call) → DepthsGiven (sum_of mode skip calls).items
any_depths mode skip m calls =
    let h : Sum = sum_of mode skip calls in
    let b = items_begin mode skip m calls [] (λ _. refl) in
    begins_depths h.items b.0 (rw b.1 (expected_depths (in_report mode) skip (h.taken ++ [])))
