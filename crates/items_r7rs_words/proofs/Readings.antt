-- Every item comes of one reading: of the characters from its first one, which is no blank, to what is left behind its extent; and it is one of those
-- that the outcome means. Who asks what an item of some kind is looks there.
use Prim.Native.Nat.{ℕ, ◌+◌, ◌-◌}
use mathlib.Core.Path.{◌≡◌, refl, sym, ap, subst, ◌∙◌}
use mathlib.Core.Bool.{Bool, false}
use mathlib.Core.List.{List, [], ◌∷◌, ◌++◌}
use lib.ListN.{take, drop}
use lib.Seq.{take_at}
use native.Mathlib.Omega.{arith}
use Rattle.chars.specs.Blank.{is_blank}
use Rattle.chars.specs.Encode.{bytes_of}
use Rattle.chars.proofs.Bytes.{bytes_append}
use Rattle.items.specs.declared.Outcome.{Outcome}
use Rattle.items.specs.Items.{Place, Item, items_of, extent_items, items, byte_count}
use Rattle.items.specs.Meaning.{Meaning, means, meaning_of}
use Rattle.items.specs.Readers.{Read, so_far, got, read_item}
use Rattle.items.proofs.Every.{Every, every_then, every_any}
use Rattle.items.proofs.Splits.{length_bytes}
use Rattle.items_coverage.proofs.Bytes.{passed}
use Rattle.items_coverage.proofs.Extents.{Taken, taken}
use Rattle.items_coverage.proofs.Located.{items_there, every_solid}
use Rattle.items_r7rs.specs.Converse.{extent}

-- one of some meanings
pub data In (m : Meaning) : List Meaning → Type 0 where
  here : {ms : List Meaning} → In m (m ∷ ms)
  there : {n : Meaning} {ms : List Meaning} → In m ms → In m (n ∷ ms)

pub every_in : (P : Meaning → Type 0) {m : Meaning} {ms : List Meaning} → Every P ms → In m ms → P m
every_in P h here = h.0
every_in P h (there i) = every_in P h.1 i

pub record OneRead (report : Bool) (whole : List ℕ) (i : Item) : Type 0 where
  pub first : ℕ
  pub more : List ℕ
  pub rest : List ℕ
  pub what : Outcome
  pub solid : is_blank first ≡ false
  pub read : read_item report i.start first (more ++ rest) ≡ got what (so_far (bytes_of (first ∷ more)) i.end) rest
  pub ends : i.end ≡ i.start + byte_count (first ∷ more)
  pub bytes : extent whole i ≡ bytes_of (first ∷ more)
  pub left : drop i.end whole ≡ bytes_of rest
  pub meant : In (means i.kind i.detail i.text) (meaning_of report what i.start i.end (bytes_of (first ∷ more)))

module _ (report : Bool) (whole : List ℕ) (set : Place) (s e c : ℕ) (t rest : List ℕ) (o : Outcome) (solid : is_blank c ≡ false)
    (read : read_item report s c (t ++ rest) ≡ got o (so_far (bytes_of (c ∷ t)) e) rest) (bytes : take (e - s) (drop s whole) ≡ bytes_of (c ∷ t))
    (ends : e ≡ s + byte_count (c ∷ t)) (left : drop e whole ≡ bytes_of rest) where
  all_read : (ms : List Meaning) → ((m : Meaning) → In m ms → In m (meaning_of report o s e (bytes_of (c ∷ t))))
      → Every (OneRead report whole) (items_of report set s e ms)
  all_read [] h = tt
  all_read (m ∷ ms) h = (
    record { first = c; more = t; rest = rest; what = o; solid = solid; read = read; ends = ends; bytes = bytes; left = left; meant = h m here },
    all_read ms (λ n i. h n (there i)),
  )

extent_read : (report : Bool) (whole : List ℕ) (last : Place) (at c : ℕ) (cs : List ℕ) → is_blank c ≡ false → drop at whole ≡ bytes_of (c ∷ cs)
    → Every (λ (c : ℕ). Unit {0}) (c ∷ cs) → Every (OneRead report whole) (items_there report last at c cs)
unfolding extent_items
extent_read report whole last at c cs solid e _ =
    let r : Read = read_item report at c cs in
    let k : Taken report at c cs = taken report at c cs in
    let t : List ℕ = c ∷ k.more in
    let stands : drop at whole ≡ bytes_of t ++ bytes_of r.rest = e ∙ ap (λ (l : List ℕ). bytes_of (c ∷ l)) k.whole ∙ bytes_append t r.rest in
    let read : read_item report at c (k.more ++ r.rest) ≡ got r.what (so_far (bytes_of t) r.item.at) r.rest
    = ap (read_item report at c) (sym k.whole) ∙ ap (λ (b : List ℕ). got r.what (so_far b r.item.at) r.rest) k.bytes in
    let raw : take (r.item.at - at) (drop at whole) ≡ bytes_of t
    = ap (take (r.item.at - at)) stands ∙ take_at (bytes_of t) (bytes_of r.rest) (r.item.at - at) (omega (arith, k.end)) in
    let left : drop r.item.at whole ≡ bytes_of r.rest
    = ap (λ (n : ℕ). drop n whole) k.end ∙ passed whole at (bytes_of t) (bytes_of r.rest) stands in
    all_read report whole _ at r.item.at c k.more r.rest r.what solid read raw (k.end ∙ ap (λ (n : ℕ). at + n) (length_bytes t)) left
    (meaning_of report r.what at r.item.at r.item.bytes)
    (λ m i. subst (λ (l : List ℕ). In m (meaning_of report r.what at r.item.at l)) k.bytes i)

-- of the items of a text, in both modes: what holds of an item that was read so
pub of_reads : (report : Bool) (cs : List ℕ) (P : Item → Type 0) → ((i : Item) → OneRead report (bytes_of cs) i → P i) → Every P (items report cs)
of_reads report cs P f =
    every_then (OneRead report (bytes_of cs)) P f (items report cs)
    (every_solid report (bytes_of cs) (λ c. Unit {0}) (OneRead report (bytes_of cs)) (extent_read report (bytes_of cs)) cs refl (every_any (λ c. Unit {0}) (λ c. tt) cs))
