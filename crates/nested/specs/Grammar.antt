-- R7RS 7.1.2 over the records of a text, as derivations: `Datum d xs ys ns` says that xs is one datum and then ys, that the
-- datum has the nodes ns, and that at most d levels (brackets, quoting marks, `#;`) lie inside one another in it.
use Rattle.std.specs.Prelude.{ℕ, suc, ◌≡◌, Bool, true, cond, List, [], ◌∷◌, ◌++◌, eqb, ltb, length}
use Rattle.items.specs.Kinds as kind
use Rattle.nested.specs.Items.{Item, item, plain_list, dotted_list, vector, byte_list, abbreviation}
use Rattle.nested.specs.declared.Class.TheVariants.{Passes, Drops, Marks, Simple, Opens, Closes, Dots}

-- A node: its kind, its item (the record that it starts with), how many nodes lie beneath it. Nodes stand in the order of
-- their items, so the nodes beneath one follow it.
pub data Node : Type 0 where
  node : ℕ → ℕ → ℕ → Node

-- What an opening record opens, by its detail: Round, Square or Curly a list, else a vector or a byte list.
abbrev pub is_list : ℕ → Bool
is_list s = ltb s kind.Vector

-- vectors and byte lists are round
abbrev pub closer : ℕ → ℕ
closer s = cond (is_list s) s kind.Round

abbrev pub kind_of : ℕ → ℕ
kind_of s = cond (is_list s) plain_list (cond (eqb s kind.Vector) vector byte_list)

mutual
  -- intertoken space: comments, and `#;` with the datum that it drops, which leaves no node
  pub data Gap : ℕ → List Item → List Item → Type 0 where
    none : {d : ℕ} {xs : List Item} → Gap d xs xs
    comment : {d p : ℕ} {xs ys : List Item} → Gap d xs ys → Gap d (item p Passes ∷ xs) ys
    dropped : {d p : ℕ} {xs ys zs ws : List Item} {ns : List Node}
        → Gap d xs ys → Datum d ys zs ns → Gap (suc d) zs ws → Gap (suc d) (item p Drops ∷ xs) ws

  pub data Datum : ℕ → List Item → List Item → List Node → Type 0 where
    -- boolean, number, character, string, symbol
    simple : {d p k : ℕ} {xs : List Item} {rs : List Node}
        → rs ≡ node k p 0 ∷ [] → Datum d (item p (Simple k) ∷ xs) xs rs
    -- a quoting mark and its datum
    quoted : {d p : ℕ} {xs ys zs : List Item} {ns rs : List Node}
        → Gap d xs ys → Datum d ys zs ns
        → rs ≡ node abbreviation p (length ns) ∷ ns → Datum (suc d) (item p Marks ∷ xs) zs rs
    -- ( datum .. ), #( datum .. ), #u8( datum .. )
    bracket : {d p q s : ℕ} {xs ys : List Item} {ns rs : List Node}
        → Sequence d xs (item q (Closes (closer s)) ∷ ys) ns
        → rs ≡ node (kind_of s) p (length ns) ∷ ns → Datum (suc d) (item p (Opens s) ∷ xs) ys rs
    -- ( datum datum .. . datum )
    dotted : {d p q r s : ℕ} {os xs ys zs us vs ws : List Item} {ks js ts rs : List Node}
        → is_list s ≡ true
        → Gap d os xs → Datum d xs ys ks → Sequence d ys (item r Dots ∷ zs) js
        → Gap d zs us → Datum d us vs ts → Gap d vs (item q (Closes (closer s)) ∷ ws)
        → rs ≡ node dotted_list p (length ((ks ++ js) ++ ts)) ∷ ((ks ++ js) ++ ts) → Datum (suc d) (item p (Opens s) ∷ os) ws rs

  -- data, with gaps before, between and after them
  pub data Sequence : ℕ → List Item → List Item → List Node → Type 0 where
    last : {d : ℕ} {xs ys : List Item} → Gap d xs ys → Sequence d xs ys []
    more : {d : ℕ} {xs ys zs ws : List Item} {ks ns rs : List Node}
        → Gap d xs ys → Datum d ys zs ks → Sequence d zs ws ns → rs ≡ ks ++ ns → Sequence d xs ws rs

-- "a datum holds a sequence and a sequence holds data, to a depth of 64"
abbrev pub deepest : ℕ
deepest = 64

-- the records form a sequence of data within that depth, and these are its nodes
abbrev pub Reading : List Item → List Node → Type 0
Reading xs ns = Sequence deepest xs [] ns
