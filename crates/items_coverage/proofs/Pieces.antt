-- What all piece calls together gave: with "finished" it covers the text; before a stop it covers the part of the text before the item that the
-- stop drops.
use Rattle.refusal.specs.Refusals as refusal
use Rattle.items.specs.Items.{Item, items, depth_after, byte_count, ends_before}
use Rattle.items.specs.Whole.{in_report}
use Rattle.items.proofs.Splits.{length_bytes}
use Rattle.laws.proofs.Choice.{by_bool, impossible}
use Rattle.chars.specs.Encode.{bytes_of}
use Rattle.chars.specs.Utf8.{sequences, chars}
use Rattle.pieces.specs.Given.{Given, given_all}
use Rattle.pieces.specs.Expected.{unfinished, Ending, clean, stop, ending_of, finished, refused, longest, expected_by, expected}
use Rattle.pieces.specs.Drive.{drive, joined}
use Rattle.pieces.proofs.Demand.{demand_3}
use Rattle.items_coverage.specs.Covered.{Seen, Covered, PutBack}
use Rattle.items_coverage.specs.Records.{item_seen, given_seen, given_kind, before_cut, sure_by, sure}
use Rattle.items_coverage.proofs.Items.{covered}
use Rattle.items_coverage.proofs.Before.{early, cut_off, covered_before, cut_le}
use Rattle.items_coverage.proofs.Skipped.{kept_all, given_put_back}
use Rattle.items_coverage.proofs.Stops.{Told, all, up_to, told}
use Prim.Native.Nat.{ℕ, ◌≤◌, ◌<◌}
use mathlib.Core.Path.{◌≡◌, refl, sym, ap, ◌∙◌}
use mathlib.Core.Bool.{Bool, true, false}
use mathlib.Core.List.{List, [], ◌∷◌, ◌++◌, map}
use lib.ListN.{length, take}
use lib.Seq.{take-append-le, take-length}
use lib.Dec.{eqb, ltb}
use native.Mathlib.Omega.{arith}

-- ---- what is given shows the items' kinds and extents

given_seen_lem : (bytes : List ℕ) (depth : ℕ) (is : List Item) → map given_seen (given_all bytes depth is) ≡ map item_seen is
unfolding given_all
given_seen_lem bytes depth [] = refl
given_seen_lem bytes depth (i ∷ is) = ap (λ (l : List Seen). item_seen i ∷ l) (given_seen_lem bytes (depth_after i.kind depth) is)

seen_early : (n : ℕ) (is : List Item) → map item_seen (ends_before n is) ≡ early n (map item_seen is)
unfolding ends_before
seen_early n [] = refl
seen_early n (i ∷ is) = by_bool (ltb i.end n)
    (λ e. rw (e, ends_before) (ap (λ (l : List Seen). item_seen i ∷ l) (seen_early n is)))
    (λ e. rw (e, ends_before) (seen_early n is))

seen_cut : (n : ℕ) (is : List Item) → cut_off n (map item_seen is) ≡ before_cut (unfinished n is) n
unfolding unfinished
seen_cut n [] = refl
seen_cut n (i ∷ []) = by_bool (eqb i.end n) (λ e. rw e) (λ e. rw e)
seen_cut n (i ∷ j ∷ is) = seen_cut n (j ∷ is)

-- ---- what all calls together gave

module _ (report : Bool) (bytes : List ℕ) where
  by_ending : {e : Ending} → Told report bytes [] e → Covered (take (sure_by report bytes e) bytes) (map given_seen (expected_by report false bytes e).items)
  by_ending (all h) =
      let is : List Item = items report (chars bytes) in
      rw (take-length bytes, kept_all is, given_seen_lem bytes 0 is) (rw h at (covered report (chars bytes)))
  by_ending (up_to number place q u v g h k) =
      let is : List Item = items report q in
      let n : ℕ = byte_count q in
      let b : bytes_of q ++ v ≡ bytes = ap (λ (l : List ℕ). bytes_of l ++ v) g ∙ h in
      let low : cut_off n (map item_seen is) ≤ n = cut_le (bytes_of q) (map item_seen is) n (sym (length_bytes q)) (covered report q) in
      let t : take (cut_off n (map item_seen is)) bytes ≡ take (cut_off n (map item_seen is)) (bytes_of q)
      = sym (ap (take (cut_off n (map item_seen is))) b) ∙ take-append-le (cut_off n (map item_seen is)) (bytes_of q) v (omega (arith, length_bytes q)) in
      rw (← (seen_cut n is), t, kept_all (ends_before n is), given_seen_lem bytes 0 (ends_before n is), seen_early n is)
      (covered_before (bytes_of q) (map item_seen is) n (sym (length_bytes q)) (covered report q))

  -- WHAT ALL PIECE CALLS GAVE, comments kept, covers the text, up to the item that a stop drops
  pub expected_covered : Covered (take (sure report bytes) bytes) (map given_seen (expected report false bytes).items)
  unfolding sure expected
  expected_covered = by_ending (told report bytes)

  sure_all : (e : Ending) → (expected_by report false bytes e).last ≡ finished → sure_by report bytes e ≡ length bytes
  sure_all clean h = refl
  sure_all (stop number place q) h = impossible cc

  -- with "finished" it covers the whole text
  pub finished_covered : (expected report false bytes).last ≡ finished → Covered bytes (map given_seen (expected report false bytes).items)
  unfolding expected sure
  finished_covered h =
      let e : take (sure report bytes) bytes ≡ bytes
      = ap (λ (k : ℕ). take k bytes) (sure_all (ending_of report (length bytes) [] (sequences 0 0 bytes)) h) ∙ take-length bytes in
      rw e at expected_covered

  at_stop : {e : Ending} → Told report bytes [] e → (skip : Bool) (place : ℕ) → (expected_by report skip bytes e).last ≡ refused refusal.long_item place → sure_by report bytes e ≡ place
  at_stop (all h) skip place e = impossible cc
  at_stop (up_to number s q u v g h k) skip place e =
      let n : number ≡ refusal.long_item = cc in
      let p : s ≡ place = cc in
      rw (k.named n) p

  -- stop 23 comes with the place up to which it covers the text
  pub long_place : (skip : Bool) (place : ℕ) → (expected report skip bytes).last ≡ refused refusal.long_item place → sure report bytes ≡ place
  unfolding sure expected
  long_place skip place e = at_stop (told report bytes) skip place e

  back_by : (e : Ending) → PutBack Given given_kind (expected_by report true bytes e).items (expected_by report false bytes e).items
  back_by clean = rw (kept_all (items report (chars bytes))) (given_put_back bytes 0 (items report (chars bytes)))
  back_by (stop number place q) =
      let is : List Item = ends_before (byte_count q) (items report q) in rw (kept_all is) (given_put_back bytes 0 is)

  -- comments skipped: the same with the comments put back in, also before a stop
  pub expected_put_back : PutBack Given given_kind (expected report true bytes).items (expected report false bytes).items
  unfolding expected
  expected_put_back = back_by (ending_of report (length bytes) [] (sequences 0 0 bytes))

-- ---- the same of the calls themselves, however the text is cut

module _ (mode room : ℕ) (pieces : List (List ℕ)) (m : mode < 2) (wide : longest ≤ room) where
  pub calls_covered : Covered (take (sure (in_report mode) (joined pieces)) (joined pieces)) (map given_seen (drive mode false room pieces).items)
  calls_covered = rw (demand_3 mode false room pieces m wide) (expected_covered (in_report mode) (joined pieces))

  pub calls_finished : (drive mode false room pieces).last ≡ finished → Covered (joined pieces) (map given_seen (drive mode false room pieces).items)
  calls_finished h =
      rw (demand_3 mode false room pieces m wide)
      (finished_covered (in_report mode) (joined pieces) (rw (demand_3 mode false room pieces m wide) at h))

  -- with stop 23 it covers the text up to the stop's place, the start of the item that grew too long
  pub calls_long : (place : ℕ) → (drive mode false room pieces).last ≡ refused refusal.long_item place
      → Covered (take place (joined pieces)) (map given_seen (drive mode false room pieces).items)
  calls_long place h =
      let e : sure (in_report mode) (joined pieces) ≡ place
      = long_place (in_report mode) (joined pieces) false place (rw (demand_3 mode false room pieces m wide) at h) in
      rw e at calls_covered

  -- comments skipped: the same once they are put back in
  pub calls_put_back : PutBack Given given_kind (drive mode true room pieces).items (drive mode false room pieces).items
  calls_put_back =
      rw (demand_3 mode true room pieces m wide, demand_3 mode false room pieces m wide) (expected_put_back (in_report mode) (joined pieces))

  pub calls_skipped : (all : List Given) × PutBack Given given_kind (drive mode true room pieces).items all
      × Covered (take (sure (in_report mode) (joined pieces)) (joined pieces)) (map given_seen all)
  calls_skipped = ((drive mode false room pieces).items, calls_put_back, calls_covered)
