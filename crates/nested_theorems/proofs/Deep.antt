-- The bracket nodes around a node are the brackets open before its item. A datum leaves as many brackets open as it found, so what is open before
-- an item after it is not changed by it; and a bracket's node stands exactly around what its two brackets enclose.
use Prim.Native.Nat.{ℕ, suc}
use mathlib.Core.Path.{◌≡◌, refl, sym, ap, subst, ◌∙◌}
use mathlib.Core.Bool.{Bool, true, false, cond}
use mathlib.Core.List.{List, [], ◌∷◌, ◌++◌, append_assoc, append-nil}
use lib.Dec.{eqb}
use lib.ListN.{length}
use Rattle.items.specs.Kinds as kind
use Rattle.nested.specs.Items.{Item, item, items_of, plain_list, dotted_list, vector, byte_list, abbreviation}
use Rattle.nested.specs.Grammar.{Node, node, is_list, kind_of, Gap, none, comment, dropped, Datum, simple, quoted, bracket, dotted, Sequence, last, more, Reading}
use Rattle.nested.specs.declared.Class.TheVariants.{Opens}
use Rattle.nested_theorems.specs.Trees.{At, here, later, Shown, empty, tree, Trees, bare, grown, inside}
use Rattle.nested_theorems.proofs.Placed.{placed}

-- ---- what is open before an item that comes after a gap, a datum, a sequence

mutual
  gap_keeps : {d : ℕ} {xs ys : List Item} → Gap d xs ys → (n p m : ℕ) → At n ys p m → At n xs p m
  gap_keeps none n p m a = a
  gap_keeps (comment g) n p m a = later refl (gap_keeps g n p m a)
  gap_keeps (dropped g t u) n p m a = later refl (gap_keeps g n p m (datum_keeps t n p m (gap_keeps u n p m a)))

  datum_keeps : {d : ℕ} {xs ys : List Item} {ns : List Node} → Datum d xs ys ns → (n p m : ℕ) → At n ys p m → At n xs p m
  datum_keeps (simple e) n p m a = later refl a
  datum_keeps (quoted g t e) n p m a = later refl (gap_keeps g n p m (datum_keeps t n p m a))
  datum_keeps (bracket u e) n p m a = later refl (sequence_keeps u (suc n) p m (later refl a))
  datum_keeps (dotted y g t u h v k e) n p m a =
      later refl (gap_keeps g (suc n) p m (datum_keeps t (suc n) p m (sequence_keeps u (suc n) p m
      (later refl (gap_keeps h (suc n) p m (datum_keeps v (suc n) p m (gap_keeps k (suc n) p m (later refl a))))))))

  sequence_keeps : {d : ℕ} {xs ys : List Item} {ns : List Node} → Sequence d xs ys ns → (n p m : ℕ) → At n ys p m → At n xs p m
  sequence_keeps (last g) n p m a = gap_keeps g n p m a
  sequence_keeps (more g t u e) n p m a = gap_keeps g n p m (datum_keeps t n p m (sequence_keeps u n p m a))

-- ---- rows of trees

shown_map : {b c : ℕ} {xs ys : List Item} {n : ℕ} {ns : List Node} → Shown b ys n ns → ((p m : ℕ) → At b ys p m → At c xs p m) → Shown c xs n ns
shown_map empty f = empty
shown_map (tree {n} {i} a s r e) f = tree (f i n a) (shown_map s f) (shown_map r f) e

shown_join : {b : ℕ} {xs : List Item} {n : ℕ} {ms : List Node} → Shown b xs n ms → (ns : List Node) → Shown b xs n ns → Shown b xs n (ms ++ ns)
shown_join empty ns h = h
shown_join (tree {k} {i} {bs} {rs} a s r e) ns h =
    tree a s (shown_join r ns h)
    (ap (λ (l : List Node). l ++ ns) e ∙ ap (λ (l : List Node). node k i (length bs) ∷ l) (append_assoc bs rs ns))

shown_one_lem : {b n i : ℕ} {xs : List Item} {out : List Node} (k : ℕ) (ns : List Node)
    → At b xs i n → Shown b xs (inside k n) ns → out ≡ node k i (length ns) ∷ ns → Shown b xs n out
shown_one_lem {i = i} k ns a s e =
    tree {bs = ns} a s empty (e ∙ ap (λ (l : List Node). node k i (length ns) ∷ l) (sym (append-nil ns)))

-- a bracket without a dot gives a bracket's node
in_bracket : (s n : ℕ) → suc n ≡ inside (kind_of s) n
in_bracket s n = go (is_list s) (eqb s kind.Vector)
  where
    go : (a b : Bool) → suc n ≡ inside (cond a plain_list (cond b vector byte_list)) n
    go true b = refl
    go false true = refl
    go false false = refl

mutual
  datum_shown : {d : ℕ} {xs ys : List Item} {ns : List Node} → Datum d xs ys ns → (n : ℕ) → Shown n xs n ns
  datum_shown (simple {p} {k} e) n = shown_one_lem k [] here empty e
  datum_shown (quoted {ns} g t e) n =
      shown_one_lem abbreviation ns here (shown_map (datum_shown t n) (λ q m a. later refl (gap_keeps g n q m a))) e
  datum_shown (bracket {p} {s} {xs} {ns} u e) n =
      shown_one_lem (kind_of s) ns here
      (subst (λ (m : ℕ). Shown n (item p (Opens s) ∷ xs) m ns) (in_bracket s n) (shown_map (sequence_shown u (suc n)) (λ q m a. later refl a)))
      e
  datum_shown (dotted {ks} {js} {ts} y g t u h v k e) n =
      shown_one_lem dotted_list ((ks ++ js) ++ ts) here
      (shown_join
      (shown_join (shown_map (datum_shown t (suc n)) (λ q m a. later refl (gap_keeps g (suc n) q m a))) js
      (shown_map (sequence_shown u (suc n)) (λ q m a. later refl (gap_keeps g (suc n) q m (datum_keeps t (suc n) q m a)))))
      ts
      (shown_map (datum_shown v (suc n)) (λ q m a. later refl (gap_keeps g (suc n) q m (datum_keeps t (suc n) q m
      (sequence_keeps u (suc n) q m (later refl (gap_keeps h (suc n) q m a))))))))
      e

  sequence_shown : {d : ℕ} {xs ys : List Item} {ns : List Node} → Sequence d xs ys ns → (n : ℕ) → Shown n xs n ns
  sequence_shown (last g) n = empty
  sequence_shown (more {xs} {ks} {ns} g t u e) n =
      subst (λ (l : List Node). Shown n xs n l) (sym e)
      (shown_join (shown_map (datum_shown t n) (λ q m a. gap_keeps g n q m a)) ns
      (shown_map (sequence_shown u n) (λ q m a. gap_keeps g n q m (datum_keeps t n q m a))))

-- ---- with the depth of records

by_records : (s : List ℕ) {n : ℕ} {ns : List Node} → Shown 0 (items_of s) n ns → Trees s n ns
by_records s empty = bare
by_records s (tree {n} {i} a b r e) = grown (placed s i n a) (by_records s b) (by_records s r) e

-- nodes stand in as many bracket nodes as their items have brackets open before them
pub around : (s : List ℕ) {ns : List Node} → Reading (items_of s) ns → Trees s 0 ns
around s r = by_records s (sequence_shown r 0)
