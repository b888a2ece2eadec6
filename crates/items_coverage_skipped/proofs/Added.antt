-- Items without their comments, and their comments, are all of them; so where all of them cover a text, the three sentences hold once the comments
-- are added.
use Prim.Native.Nat.{ℕ}
use mathlib.Core.Path.{◌≡◌, subst, sym}
use mathlib.Core.Bool.{true}
use mathlib.Core.List.{List, [], ◌∷◌, map}
use lib.Dec.{eqb}
use Rattle.laws.proofs.Choice.{by_bool}
use Rattle.items.specs.Kinds as kind
use Rattle.items.specs.Items.{Item, kept}
use Rattle.items_coverage.specs.Covered.{Seen, Covered}
use Rattle.items_coverage.specs.Records.{item_seen}
use Rattle.items_coverage.proofs.Sentences.{in_order, none_unseen, not_more}
use Rattle.items_coverage_skipped.specs.Added.{comments, Added, none, record_next, comment_next, SeenWith}

added : (is : List Item) → Added (map item_seen (kept true is)) (map item_seen (comments is)) (map item_seen is)
unfolding kept comments
added [] = none
added (i ∷ is) = by_bool (eqb i.kind kind.Comment)
    (λ e. rw (e, kept, comments) (comment_next (item_seen i) (added is)))
    (λ e. rw (e, kept, comments) (record_next (item_seen i) (added is)))

-- records that show the items without their comments
pub seen_with : (bytes : List ℕ) (rs : List Seen) (is : List Item) → rs ≡ map item_seen (kept true is) → Covered bytes (map item_seen is)
    → SeenWith bytes rs is
seen_with bytes rs is e h = record {
  all = map item_seen is;
  added = subst (λ (l : List Seen). Added l (map item_seen (comments is)) (map item_seen is)) (sym e) (added is);
  in_order = in_order bytes (map item_seen is) h;
  none_unseen = none_unseen bytes (map item_seen is) h;
  not_more = not_more bytes (map item_seen is) h;
}
