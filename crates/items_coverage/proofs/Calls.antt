-- What the whole-text call wrote, where it served: the records in memory cover the source. The call's contract is an equation with `read_of`.
use Rattle.std.proofs.Common.{None, Option, Some}
use Rattle.refusal.specs.Refusals as refusal
use Rattle.items.specs.Items.{Item, items, kept, record_words, records, texts}
use Rattle.items.specs.Whole.{served, refused, Call, call, limit, is_mode, in_report, items_in, deliver, if_good, read_of}
use Rattle.laws.specs.Lent.{written}
use Rattle.laws.proofs.Choice.{if_all, if_is, impossible}
use Rattle.chars.specs.Utf8.{chars, first_bad}
use Rattle.chars.proofs.Good.{good_bytes_lem}
use Rattle.items_coverage.specs.Covered.{Seen, Covered, PutBack}
use Rattle.items_coverage.specs.Sentences.{InOrder, NoneUnseen, NotMore}
use Rattle.items_coverage.specs.Records.{item_seen, rows_in, row_kind, row_seen}
use Rattle.items_coverage.proofs.Items.{covered}
use Rattle.items_coverage.proofs.Sentences.{in_order, none_unseen, not_more}
use Rattle.items_coverage.proofs.Records.{rows_of, rows_back, rows_seen}
use Rattle.items_coverage.proofs.Skipped.{kept_all, rows_put_back}
use Prim.Native.Nat.{ℕ, ◌/◌, ◌≤◌}
use mathlib.Core.Path.{◌≡◌, refl, ap, ◌∙◌}
use mathlib.Core.Bool.{Bool, true, false}
use mathlib.Core.List.{List, map}
use lib.ListN.{length, drop}
use lib.Dec.{leb, ltb}
use borrow.Author.Tests.{ltb-false}

module _ (source : List ℕ) (mode : ℕ) (skip : Bool) (recs text : List ℕ) (n m : ℕ) where
  -- what a call that served leaves
  pub record Delivered (k : Call) : Type 0 where
    pub good : first_bad source ≡ None
    pub short : length source ≤ limit
    pub count : n ≡ length (items_in source mode skip)
    pub wrote : k.records ≡ written (records 0 0 (items_in source mode skip)) recs
    pub wrote_texts : k.text ≡ written (texts (items_in source mode skip)) text

  abbrev pub Leaves : Call → Type 0
  Leaves k = k.answer ≡ served n m → Delivered k

  refused_not : (number a b : ℕ) → Leaves (call (refused number a b) recs text)
  refused_not number a b e = impossible cc

  delivered : first_bad source ≡ None → length source ≤ limit → Leaves (deliver (items_in source mode skip) recs text)
  unfolding deliver
  delivered g l =
      let is : List Item = items_in source mode skip in
      if_all Leaves (leb (length is) (length recs / record_words))
      (if_all Leaves (leb (length (texts is)) (length text))
      (λ e. record { good = g; short = l; count = cc; wrote = refl; wrote_texts = refl })
      (refused_not refusal.too_few (length is) (length (texts is))))
      (refused_not refusal.too_few (length is) (length (texts is)))

  good_only : (u : Option ℕ) → first_bad source ≡ u → length source ≤ limit → Leaves (if_good u (deliver (items_in source mode skip) recs text) recs text)
  good_only None g l = delivered g l
  good_only (Some p) g l = refused_not refusal.not_utf8 p 0

  pub leaves : Leaves (read_of source mode skip recs text)
  unfolding read_of
  leaves =
      if_all Leaves (is_mode mode)
      (if_is Leaves (ltb limit (length source)) (λ _. refused_not refusal.over_long limit 0) (λ e. good_only (first_bad source) refl (ltb-false limit (length source) e)))
      (refused_not refusal.no_such_mode mode 0)

  -- a source that was served is UTF-8, within the limit, and its rows are the items' records
  pub record Rows : Type 0 where
    pub good : first_bad source ≡ None
    pub short : length source ≤ limit
    pub rows : rows_in n (read_of source mode skip recs text).records ≡ rows_of (kept skip (items (in_report mode) (chars source)))

  pub served_rows : (read_of source mode skip recs text).answer ≡ served n m → Rows
  served_rows e =
      let l : Delivered (read_of source mode skip recs text) = leaves e in
      let is : List Item = items_in source mode skip in
      record { good = l.good; short = l.short; rows = rw (l.count, l.wrote) (rows_back is (drop (length (records 0 0 is)) recs)) }

-- WHATEVER `read` SERVED, comments kept, leaves records that cover the source
pub read_covered : (source : List ℕ) (mode : ℕ) (recs text : List ℕ) (n m : ℕ) → (read_of source mode false recs text).answer ≡ served n m
    → Covered source (map row_seen (rows_in n (read_of source mode false recs text).records))
read_covered source mode recs text n m e =
    let r : Rows source mode false recs text n m = served_rows source mode false recs text n m e in
    let is : List Item = items (in_report mode) (chars source) in
    let s : map row_seen (rows_in n (read_of source mode false recs text).records) ≡ map item_seen is
    = ap (map row_seen) (r.rows ∙ ap rows_of (kept_all is)) ∙ rows_seen is in
    rw s (rw (good_bytes_lem source r.good) at (covered (in_report mode) (chars source)))

-- Comments skipped: the records are those of the other reading, which cover the source, without its comments
pub read_skipped : (source : List ℕ) (mode : ℕ) (recs text : List ℕ) (n m : ℕ) → (read_of source mode true recs text).answer ≡ served n m
    → (all : List (List ℕ)) × PutBack (List ℕ) row_kind (rows_in n (read_of source mode true recs text).records) all × Covered source (map row_seen all)
read_skipped source mode recs text n m e =
    let r : Rows source mode true recs text n m = served_rows source mode true recs text n m e in
    let is : List Item = items (in_report mode) (chars source) in (
      rows_of is,
      rw r.rows (rows_put_back (in_report mode) (chars source)),
      rw (rows_seen is) (rw (good_bytes_lem source r.good) at (covered (in_report mode) (chars source))),
    )

-- both readings served, on any memories: one is the other with the comments put back in, word for word
pub read_put_back : (source : List ℕ) (mode : ℕ) (recs text recs' text' : List ℕ) (n m n' m' : ℕ)
    → (read_of source mode true recs text).answer ≡ served n m
    → (read_of source mode false recs' text').answer ≡ served n' m'
    → PutBack (List ℕ) row_kind (rows_in n (read_of source mode true recs text).records) (rows_in n' (read_of source mode false recs' text').records)
read_put_back source mode recs text recs' text' n m n' m' e f =
    rw ((served_rows source mode true recs text n m e).rows, (served_rows source mode false recs' text' n' m' f).rows, kept_all (items (in_report mode) (chars source)))
    (rows_put_back (in_report mode) (chars source))

-- ---- the three sentences, of what `read` served

module _ (source : List ℕ) (mode : ℕ) (recs text : List ℕ) (n m : ℕ) (e : (read_of source mode false recs text).answer ≡ served n m) where
  abbrev pub written_seen : List Seen
  written_seen = map row_seen (rows_in n (read_of source mode false recs text).records)

  pub read_in_order : InOrder source written_seen
  read_in_order = in_order source written_seen (read_covered source mode recs text n m e)

  pub read_none_unseen : NoneUnseen source written_seen
  read_none_unseen = none_unseen source written_seen (read_covered source mode recs text n m e)

  pub read_not_more : NotMore source written_seen
  read_not_more = not_more source written_seen (read_covered source mode recs text n m e)
