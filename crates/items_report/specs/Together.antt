-- The items of a text in report mode and in plain mode, side by side: the same up to the first number, or error 8, that ends before `;`,
-- `"` or `|`.
use Rattle.std.specs.Prelude.{ℕ, ◌+◌, ◌≡◌, ◌⊎◌, true, List, [], ◌∷◌, ◌++◌}
use Rattle.laws.specs.Quoted.{codes, one_of}
use Rattle.items.specs.Items.{Item, byte_count}
use Rattle.items.specs.Kinds as kind
use Rattle.items.specs.Meaning.{Meaning, one, none}

-- the meanings of an extent, kinds, details and texts: the same, or error 13 where plain mode has 10 (02 (vii))
pub data Means : List Meaning → List Meaning → Type 0 where
  equal : (ms : List Meaning) → Means ms ms
  thirteen : Means (one (kind.first_error + kind.InvalidCharDelimiter) 0 none) (one (kind.first_error + kind.InvalidCharName) 0 none)

-- two items that are the same but for their places, and for 13 and 10
pub data Same (i j : Item) : Type 0 where
  same : i.kind ≡ j.kind → i.detail ≡ j.detail → i.start ≡ j.start → i.end ≡ j.end → i.text ≡ j.text → Same i j
  thirteen : i.kind ≡ kind.first_error + kind.InvalidCharDelimiter → j.kind ≡ kind.first_error + kind.InvalidCharName → i.detail ≡ j.detail
      → i.start ≡ j.start → i.end ≡ j.end → i.text ≡ j.text → Same i j

-- the items of report mode, and those of plain mode
pub data Together (text : List ℕ) : List Item → List Item → Type 0 where
  ends : Together text [] []
  next : {i j : Item} {is js : List Item} → Same i j → Together text is js → Together text (i ∷ is) (j ∷ js)
  -- from here on they may differ: report mode has a number, or error 8, and after it stands c in the text, one of the three
  number : {i : Item} {is js : List Item} → (i.kind ≡ kind.Number) ⊎ (i.kind ≡ kind.first_error + kind.ZeroDenominator) → (before : List ℕ) (c : ℕ) (after : List ℕ)
      → text ≡ before ++ (c ∷ after) → i.end ≡ byte_count before → one_of (codes ";\"|") c ≡ true → Together text (i ∷ is) js
