-- What all piece calls together gave, comments skipped: up to a stop's unfinished item, and with "finished" of the whole text.
use Prim.Native.Nat.{ℕ, ◌≤◌, ◌<◌}
use mathlib.Core.Path.{◌≡◌, refl, ap, subst, ◌∙◌}
use mathlib.Core.Bool.{Bool, true, false}
use mathlib.Core.List.{List, [], ◌∷◌, map}
use lib.ListN.{length, take}
use lib.Seq.{take-length}
use Rattle.laws.proofs.Choice.{impossible}
use Rattle.chars.specs.Utf8.{sequences, chars}
use Rattle.items.specs.Items.{Item, items, kept, depth_after, byte_count, ends_before}
use Rattle.items.specs.Whole.{in_report}
use Rattle.pieces.specs.Given.{given_all}
use Rattle.pieces.specs.Expected.{Ending, clean, stop, ending_of, finished, longest, expected_by, expected}
use Rattle.pieces.specs.Drive.{drive, joined}
use Rattle.pieces.proofs.Demand.{demand_3}
use Rattle.items_coverage.specs.Covered.{Seen, Covered}
use Rattle.items_coverage.specs.Records.{item_seen, given_seen, sure_by, sure}
use Rattle.items_coverage.proofs.Skipped.{kept_all}
use Rattle.items_coverage.proofs.Pieces.{expected_covered}
use Rattle.items_coverage_skipped.specs.Added.{SeenWith, told_by, told_of}
use Rattle.items_coverage_skipped.proofs.Added.{seen_with}

given_seen_lem : (bytes : List ℕ) (depth : ℕ) (is : List Item) → map given_seen (given_all bytes depth is) ≡ map item_seen is
unfolding given_all
given_seen_lem bytes depth [] = refl
given_seen_lem bytes depth (i ∷ is) = ap (λ (l : List Seen). item_seen i ∷ l) (given_seen_lem bytes (depth_after i.kind depth) is)

module _ (report : Bool) (bytes : List ℕ) where
  shown_by : (skip : Bool) (e : Ending) → map given_seen (expected_by report skip bytes e).items ≡ map item_seen (kept skip (told_by report bytes e))
  shown_by skip clean = given_seen_lem bytes 0 (kept skip (items report (chars bytes)))
  shown_by skip (stop number place q) = given_seen_lem bytes 0 (kept skip (ends_before (byte_count q) (items report q)))

  shown : (skip : Bool) → map given_seen (expected report skip bytes).items ≡ map item_seen (kept skip (told_of report bytes))
  unfolding expected told_of
  shown skip = shown_by skip (ending_of report (length bytes) [] (sequences 0 0 bytes))

  told_covered : Covered (take (sure report bytes) bytes) (map item_seen (told_of report bytes))
  told_covered =
      subst (Covered (take (sure report bytes) bytes)) (shown false ∙ ap (map item_seen) (kept_all (told_of report bytes))) (expected_covered report bytes)

  pub expected_seen_with : SeenWith (take (sure report bytes) bytes) (map given_seen (expected report true bytes).items) (told_of report bytes)
  expected_seen_with =
      seen_with (take (sure report bytes) bytes) (map given_seen (expected report true bytes).items) (told_of report bytes) (shown true) told_covered

  whole_by : (e : Ending) → (expected_by report true bytes e).last ≡ finished → (sure_by report bytes e ≡ length bytes) × (told_by report bytes e ≡ items report (chars bytes))
  whole_by clean h = (refl, refl)
  whole_by (stop number place q) h = impossible cc

  pub finished_seen_with : (expected report true bytes).last ≡ finished
      → SeenWith bytes (map given_seen (expected report true bytes).items) (items report (chars bytes))
  unfolding expected sure told_of
  finished_seen_with h =
      let w = whole_by (ending_of report (length bytes) [] (sequences 0 0 bytes)) h in
      let e : take (sure report bytes) bytes ≡ bytes = ap (λ (k : ℕ). take k bytes) w.0 ∙ take-length bytes in
      subst (λ (l : List ℕ). SeenWith l (map given_seen (expected report true bytes).items) (items report (chars bytes))) e
      (subst (SeenWith (take (sure report bytes) bytes) (map given_seen (expected report true bytes).items)) w.1 expected_seen_with)

-- ---- of the calls themselves, however the text is cut

module _ (mode room : ℕ) (pieces : List (List ℕ)) (m : mode < 2) (wide : longest ≤ room) where
  -- THE ITEMS THAT PIECE CALLS GAVE, comments skipped: the three sentences hold once the comments are added, of the text up to the item that a
  -- stop drops
  pub calls_seen_with : SeenWith (take (sure (in_report mode) (joined pieces)) (joined pieces)) (map given_seen (drive mode true room pieces).items)
      (told_of (in_report mode) (joined pieces))
  calls_seen_with = rw (demand_3 mode true room pieces m wide) (expected_seen_with (in_report mode) (joined pieces))

  -- WITH "FINISHED" of the whole text, and the comments are those of all its items
  pub calls_finished_seen_with : (drive mode true room pieces).last ≡ finished
      → SeenWith (joined pieces) (map given_seen (drive mode true room pieces).items) (items (in_report mode) (chars (joined pieces)))
  calls_finished_seen_with h =
      rw (demand_3 mode true room pieces m wide)
      (finished_seen_with (in_report mode) (joined pieces) (rw (demand_3 mode true room pieces m wide) at h))
