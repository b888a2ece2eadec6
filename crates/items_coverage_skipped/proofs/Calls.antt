-- What the whole-text call wrote, comments skipped, where it served.
use Prim.Native.Nat.{ℕ}
use mathlib.Core.Path.{◌≡◌, ap, subst, ◌∙◌}
use mathlib.Core.Bool.{true}
use mathlib.Core.List.{List, map}
use Rattle.chars.specs.Utf8.{chars}
use Rattle.chars.proofs.Good.{good_bytes_lem}
use Rattle.items.specs.Items.{Item, items, kept}
use Rattle.items.specs.Whole.{served, in_report, read_of}
use Rattle.items_coverage.specs.Covered.{Covered}
use Rattle.items_coverage.specs.Records.{item_seen, rows_in, row_seen}
use Rattle.items_coverage.proofs.Items.{covered}
use Rattle.items_coverage.proofs.Records.{rows_seen}
use Rattle.items_coverage.proofs.Calls.{Rows, served_rows}
use Rattle.items_coverage_skipped.specs.Added.{SeenWith}
use Rattle.items_coverage_skipped.proofs.Added.{seen_with}

-- WHATEVER `read` SERVED, comments skipped: the three sentences hold of the records in memory once the comments of the source's items are added
pub read_seen_with : (source : List ℕ) (mode : ℕ) (recs text : List ℕ) (n m : ℕ) → (read_of source mode true recs text).answer ≡ served n m
    → SeenWith source (map row_seen (rows_in n (read_of source mode true recs text).records)) (items (in_report mode) (chars source))
read_seen_with source mode recs text n m e =
    let r : Rows source mode true recs text n m = served_rows source mode true recs text n m e in
    let is : List Item = items (in_report mode) (chars source) in
    seen_with source (map row_seen (rows_in n (read_of source mode true recs text).records)) is
    (ap (map row_seen) r.rows ∙ rows_seen (kept true is))
    (subst (λ (l : List ℕ). Covered l (map item_seen is)) (good_bytes_lem source r.good) (covered (in_report mode) (chars source)))
