-- Where a node's children and its next sibling stand: the nodes beneath it, as many as it says, follow it and are a row of trees, its children
-- with all beneath them; the row goes on after these.
use Prim.Native.Nat.{ℕ, ◌≤◌}
use native.Mathlib.Omega.{arith}
use mathlib.Core.Path.{◌≡◌, refl, sym, ap, subst, ◌∙◌}
use mathlib.Core.List.{List, [], ◌∷◌, ◌++◌}
use lib.ListN.{length, take, drop, length-append}
use lib.Seq.{take_at, drop_at}
use Rattle.nested.specs.Grammar.{Node, node}
use Rattle.nested_theorems.specs.Depth.{depth_of}
use Rattle.nested_theorems.specs.Trees.{Trees, bare, grown, inside}

-- the first node's three words, and the nodes after it
abbrev kind_in : List Node → ℕ
kind_in [] = 0
kind_in (node k i n ∷ ns) = k

abbrev item_in : List Node → ℕ
item_in [] = 0
item_in (node k i n ∷ ns) = i

abbrev beneath_in : List Node → ℕ
beneath_in [] = 0
beneath_in (node k i n ∷ ns) = n

abbrev rest_in : List Node → List Node
rest_in [] = []
rest_in (node k i n ∷ ns) = ns

abbrev some : List Node → ℕ
some [] = 0
some (n ∷ ns) = 1

module _ (s : List ℕ) where
  split : {m : ℕ} {out : List Node} → Trees s m out → (k i n : ℕ) (ns : List Node) → out ≡ node k i n ∷ ns
      → (n ≤ length ns) × (m ≡ depth_of s i) × Trees s (inside k m) (take n ns) × Trees s m (drop n ns)
  split bare k i n ns e = absurd (omega (arith, ap some e))
  split (grown {n = m} {k = l} {i = j} {bs} {rs} d b r w) k i n ns e =
      let e' : node l j (length bs) ∷ (bs ++ rs) ≡ node k i n ∷ ns = sym w ∙ e in
      let size : length bs ≡ n = ap beneath_in e' in
      let rest : bs ++ rs ≡ ns = ap rest_in e' in
      let all : length (bs ++ rs) ≡ length ns = ap length rest in
      let front : bs ≡ take n ns = sym (take_at bs rs n size) ∙ ap (take n) rest in
      let back : rs ≡ drop n ns = sym (drop_at bs rs n size) ∙ ap (drop n) rest in (
        omega (arith, size, all, length-append bs rs),
        d ∙ ap (depth_of s) (ap item_in e'),
        subst (λ (l : List Node). Trees s (inside k m) l) front (subst (λ (q : ℕ). Trees s (inside q m) bs) (ap kind_in e') b),
        subst (λ (l : List Node). Trees s m l) back r,
      )

  -- In a row of trees the node after a node and all beneath it is n + 1 nodes on, where it says n: the row goes on there. What lies between is
  -- a row of trees too, its children, one bracket deeper if the node is a bracket's
  pub next_sibling : {m k i n : ℕ} {ns : List Node} → Trees s m (node k i n ∷ ns)
      → (n ≤ length ns) × (m ≡ depth_of s i) × Trees s (inside k m) (take n ns) × Trees s m (drop n ns)
  next_sibling {k = k} {i = i} {n = n} {ns = ns} t = split t k i n ns refl
