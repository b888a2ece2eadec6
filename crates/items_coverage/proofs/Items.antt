-- The items of any text cover it, in both modes: one induction over the turns of `items_from`, and the opening line.
use Rattle.items.specs.Items.{Place, Item, unset, extent_items, items_from, items_at, past_line, after_pound, items}
use Rattle.items.specs.Readers.{Read, read_item}
use Rattle.laws.specs.Quoted.{code, codes}
use Rattle.laws.specs.Texts.{span, before, begins}
use Rattle.laws.proofs.Choice.{by_bool}
use Rattle.chars.specs.Blank.{is_blank}
use Rattle.chars.specs.Encode.{utf8, width, bytes_of}
use Rattle.chars.proofs.Bytes.{bytes_append}
use Rattle.chars.proofs.Width.{width-utf8, utf8-one}
use Rattle.items_coverage.specs.Covered.{Seen, Covers, ends, blank, opening, Covered}
use Rattle.items_coverage.specs.Records.{item_seen}
use Rattle.items_coverage.proofs.Bytes.{before_char, begins_other}
use Rattle.items_coverage.proofs.Extents.{Taken, taken, extent_covers}
use Prim.Native.Nat.{ℕ, zero, suc, ◌+◌, ◌≤◌}
use mathlib.Core.Path.{◌≡◌, refl, ap, ◌∙◌}
use mathlib.Core.Bool.{Bool, true, false}
use mathlib.Core.List.{List, [], ◌∷◌, ◌++◌, map}
use lib.ListN.{length, drop, length-append}
use lib.Seq.{drop-append-add}
use lib.Dec.{eqb}
use native.Mathlib.Omega.{arith}
use native.Mathlib.Nat.{add_assoc, add-zero, le_refl}
use borrow.Author.Tests.{eqb-true}
use borrow.Table.Elements.{map_app}

blank_covers : (at c : ℕ) (bs : List ℕ) (rs : List Seen) → is_blank c ≡ true → Covers (at + width c) bs rs → Covers at (utf8 c ++ bs) rs
blank_covers at c bs rs b h = let g : Covers (at + length (utf8 c)) bs rs = rw (width-utf8 c) h in blank c b g

module _ (report : Bool) where
  -- the item that is read at a place, and the records after it
  item_covers : (last : Place) (at c : ℕ) (cs : List ℕ) (ys : List Item)
      → Covers (read_item report at c cs).item.at (bytes_of (read_item report at c cs).rest) (map item_seen ys)
      → Covers at (bytes_of (c ∷ cs)) (map item_seen (extent_items report last at (read_item report at c cs).what (read_item report at c cs).item ++ ys))
  item_covers last at c cs ys h =
      let r : Read = read_item report at c cs in
      let k : Taken report at c cs = taken report at c cs in
      let e : bytes_of (c ∷ cs) ≡ bytes_of (c ∷ k.more) ++ bytes_of r.rest
      = ap (λ (l : List ℕ). bytes_of (c ∷ l)) k.whole ∙ bytes_append (c ∷ k.more) r.rest in
      rw (e, map_app item_seen (extent_items report last at r.what r.item) ys)
      (extent_covers report last at r.what r.item c k.more k.bytes k.end (rw k.end at h))

  from_covers : (turns : ℕ) (last : Place) (at : ℕ) (cs : List ℕ) → length cs ≤ turns
      → Covers at (bytes_of cs) (map item_seen (items_from report turns last at cs))
  unfolding items_from bytes_of
  from_covers zero last at [] h = ends
  from_covers zero last at (c ∷ cs) h = absurd (omega arith)
  from_covers (suc turns) last at [] h = ends
  from_covers (suc turns) last at (c ∷ cs) h = by_bool (is_blank c)
      (λ b. rw (b, items_from) (blank_covers at c (bytes_of cs) _ b (from_covers turns last (at + width c) cs (omega arith))))
      (λ b. rw (b, items_from) (item_covers last at c cs _ (from_covers turns _ _ (read_item report at c cs).rest
      (let k : Taken report at c cs = taken report at c cs in
      omega (arith, ap length k.whole, length-append k.more (read_item report at c cs).rest)))))

  at_covers : (at : ℕ) (cs : List ℕ) → Covers at (bytes_of cs) (map item_seen (items_at report at cs))
  at_covers at cs = from_covers (length cs) unset at cs (le_refl (length cs))

  line_covers : (at : ℕ) (cs : List ℕ)
      → Covers (at + before (code "\n") (bytes_of cs)) (drop (before (code "\n") (bytes_of cs)) (bytes_of cs)) (map item_seen (past_line report at cs))
  unfolding past_line bytes_of span
  line_covers at [] = ends
  line_covers at (c ∷ cs) = by_bool (eqb c (code "\n"))
      (λ e. let u : utf8 c ≡ c ∷ [] = utf8-one c (omega (arith, eqb-true c (code "\n") e)) in
      rw (e, past_line) (let n : before (code "\n") (bytes_of (c ∷ cs)) ≡ 0 = rw (u, e) in rw (n, add-zero) (at_covers at (c ∷ cs))))
      (λ e. rw (e, past_line) (
      let n : before (code "\n") (bytes_of (c ∷ cs)) ≡ length (utf8 c) + before (code "\n") (bytes_of cs) = before_char (code "\n") (omega arith) c (bytes_of cs) e in
      let d : drop (length (utf8 c) + before (code "\n") (bytes_of cs)) (bytes_of (c ∷ cs)) ≡ drop (before (code "\n") (bytes_of cs)) (bytes_of cs)
      = drop-append-add (utf8 c) (bytes_of cs) (before (code "\n") (bytes_of cs)) in
      rw (n, d, ← (add_assoc at (length (utf8 c)) (before (code "\n") (bytes_of cs))), width-utf8 c) (line_covers (at + width c) cs)))

  -- a text that does not start with `#!`
  unopened : (cs : List ℕ) → begins (codes "#!") (bytes_of cs) ≡ false → Covered (bytes_of cs) (map item_seen (items_at report 0 cs))
  unfolding opening
  unopened cs e = rw (e, opening) (at_covers 0 cs)

  -- one that does
  opened : (cs : List ℕ) → Covered (codes "#!" ++ bytes_of cs) (map item_seen (past_line report 2 cs))
  unfolding opening begins span
  opened cs =
      let n : ℕ = before (code "\n") (bytes_of cs) in
      let e : opening (codes "#!" ++ bytes_of cs) ≡ 2 + before (code "\n") (bytes_of cs) = omega arith in
      rw (e, drop-append-add (codes "#!") (bytes_of cs) (before (code "\n") (bytes_of cs))) (line_covers 2 cs)

  pound_covers : (cs : List ℕ) → Covered (bytes_of (code "#" ∷ cs)) (map item_seen (after_pound report cs))
  unfolding after_pound begins bytes_of utf8
  pound_covers [] = unopened (code "#" ∷ []) refl
  pound_covers (c ∷ cs) = by_bool (eqb c (code "!"))
      (λ e. rw (e, after_pound) (rw (eqb-true c (code "!") e) (opened cs)))
      (λ e. rw (e, after_pound) (unopened (code "#" ∷ c ∷ cs) (begins_other (code "!") (omega arith) c [] (bytes_of cs) e)))

  -- THE THEOREM, on the definition of items
  pub covered : (cs : List ℕ) → Covered (bytes_of cs) (map item_seen (items report cs))
  unfolding items begins bytes_of items_from
  covered [] = unopened [] refl
  covered (c ∷ cs) = by_bool (eqb c (code "#"))
      (λ e. rw (e, items) (rw (eqb-true c (code "#") e) (pound_covers cs)))
      (λ e. rw (e, items) (unopened (c ∷ cs) (begins_other (code "#") (omega arith) c (codes "!") (bytes_of cs) e)))
