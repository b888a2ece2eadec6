-- A row of trees, laid out as nodes: each node, then the nodes beneath it, which are a row of trees themselves, then its next sibling.
use Rattle.std.specs.Prelude.{ℕ, suc, ◌≡◌, Bool, true, cond, ◌&&◌, List, [], ◌∷◌, ◌++◌, leb, length}
use Rattle.nested.specs.Items.{Item, item, plain_list, byte_list}
use Rattle.nested.specs.Grammar.{Node, node}
use Rattle.nested.specs.declared.Class.{Class}
use Rattle.nested_theorems.specs.Depth.{deeper, depth_of, ours}

-- a list, a dotted list, a vector or a byte list
abbrev pub is_bracket : ℕ → Bool
is_bracket k = leb plain_list k && leb k byte_list

-- the brackets around what lies beneath a node of kind k, with n around the node
abbrev pub inside : ℕ → ℕ → ℕ
inside k n = cond (is_bracket k) (suc n) n

-- with n brackets open before the items xs, m are open before the item p; what stands before it is neither an error nor alien
pub data At : ℕ → List Item → ℕ → ℕ → Type 0 where
  here : {n p : ℕ} {c : Class} {xs : List Item} → At n (item p c ∷ xs) p n
  later : {n p q m : ℕ} {c : Class} {xs : List Item} → ours c ≡ true → At (deeper c n) xs p m → At n (item q c ∷ xs) p m

-- Nodes with n bracket nodes around them: the item of each has n brackets open before it, and what lies beneath a node stands in one bracket
-- more if the node is a bracket's
pub data Shown (b : ℕ) (xs : List Item) : ℕ → List Node → Type 0 where
  empty : {n : ℕ} → Shown b xs n []
  tree : {n k i : ℕ} {bs rs out : List Node}
      → At b xs i n → Shown b xs (inside k n) bs → Shown b xs n rs
      → out ≡ node k i (length bs) ∷ (bs ++ rs) → Shown b xs n out

-- the same with the depth of the items' records
pub data Trees (s : List ℕ) : ℕ → List Node → Type 0 where
  bare : {n : ℕ} → Trees s n []
  grown : {n k i : ℕ} {bs rs out : List Node}
      → n ≡ depth_of s i → Trees s (inside k n) bs → Trees s n rs
      → out ≡ node k i (length bs) ∷ (bs ++ rs) → Trees s n out
