-- What a refusal of the call says of the records (02 (v)): "Refusals, at the first record that rules a reading out, or at the end: .. tried
-- in that order; 46 last, if the nodes don't fit".
use Rattle.std.specs.Prelude.{ℕ, ◌+◌, ◌*◌, ◌<◌, ◌≡◌, false, List, [], ◌∷◌, ◌++◌, length, take}
use Rattle.refusal.specs.Refusals as refusal
use Rattle.items.specs.Items.{record_words}
use Rattle.nested.specs.Items.{Item, item, items_of, count_of, class_at}
use Rattle.nested.specs.Grammar.{Node, Reading}
use Rattle.nested.specs.Reader.{level, Levels, state, start, after}
use Rattle.nested.specs.Order.{at_record, at_end}
use Rattle.nested.specs.Lent.{fits}
use Rattle.nested.specs.declared.Frame.{Frame}

-- the first n of some records, as words
abbrev pub front : ℕ → List ℕ → List ℕ
front n s = take (n * record_words) s

-- some records behind these make a reading
abbrev pub Possible : List ℕ → Type 0
Possible s = (more : List ℕ) × (ns : List Node) × Reading (items_of (s ++ more)) ns

-- the levels that are open after some records
unfoldable pub reached : Levels → List Item → Levels
reached st [] = st
reached (state (level f i ns) ls) (item p c ∷ xs) = reached (after c p f i ns ls) xs

-- the frame of the innermost level, and how many lie around it
abbrev pub frame_of : Levels → Frame
frame_of (state (level f i ns) ls) = f

abbrev pub around : Levels → ℕ
around (state l ls) = length ls

-- after the first n of some records
abbrev pub after_front : ℕ → List ℕ → Levels
after_front n s = reached start (items_of (front n s))

-- the call refuses these records, with the number n, at the record p
pub data RefusedFirst (s memory : List ℕ) (n p : ℕ) : Type 0 where
  -- the first record that rules a reading out: behind those before it some records make one, behind it none do. Its number is the first of
  -- the order whose condition holds there
  ruled_out : p < count_of s → Possible (front p s) → (Possible (front (p + 1) s) → ⊥)
      → n ≡ at_record (class_at s p) (frame_of (after_front p s)) (around (after_front p s)) → (n ≡ 0 → ⊥) → RefusedFirst s memory n p
  -- the end: the records are no reading, and some behind them make one
  unended : p ≡ count_of s → Possible (front p s) → ((ns : List Node) → Reading (items_of s) ns → ⊥) → n ≡ at_end (frame_of (after_front p s)) → (n ≡ 0 → ⊥)
      → RefusedFirst s memory n p
  -- 46, last: the records are a reading, whose nodes do not fit
  few : n ≡ refusal.few_nodes → p ≡ 0 → (ns : List Node) → Reading (items_of s) ns → fits s ns memory ≡ false → RefusedFirst s memory n p
