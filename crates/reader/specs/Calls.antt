-- Call after call of the reader, each with the text memory that it is lent: what the calls give, and what is due by the items alone.
use Rattle.std.specs.Prelude.{ℕ, List, [], ◌∷◌, length, leb, if◌then◌else◌}
use Rattle.laws.specs.Lent.{written}
use Rattle.refusal.specs.Refusals as refusal
use Rattle.items.specs.Items.{Item, depth_after, memory_of, record_of}
use Rattle.reader.specs.Reading.{What, gives, ends, stops, Stand, stands, refuses_with, next_for}
use Rattle.reader.specs.declared.Reader.{Reader}

-- what a call answered, and what its text memory then held
pub record Told : Type 0 where
  pub what : What
  pub text : List ℕ

abbrev pub told : What → List ℕ → Told
told w t = record { what = w; text = t }

-- a call for each memory that is lent, each by the reader that the one before left
unfoldable pub call_after_call : List (List ℕ) → Reader → List Told
call_after_call [] r = []
call_after_call (m ∷ ms) r = told (next_for r m).what (next_for r m).text ∷ call_after_call ms (next_for r m).reader

-- The same by the items alone: each comes once its text fits, from 0 on, and what is past it stays. Else 22 with 1 and its text bytes, the
-- memory as it was, and it is still to come. After the last item comes the end, again and again. `depth` is the depth before the first
-- item.
unfoldable pub due_to : List (List ℕ) → ℕ → List Item → List Told
due_to [] depth is = []
due_to (m ∷ ms) depth [] = told ends m ∷ due_to ms depth []
due_to (m ∷ ms) depth (i ∷ is) =
    let more = due_to ms (depth_after i.kind depth) is in
    let again = due_to ms depth (i ∷ is) in
    if leb (length (memory_of i.text)) (length m)
    then told (gives (record_of 0 depth i)) (written (memory_of i.text) m) ∷ more
    else told (stops refusal.too_few 1 (length (memory_of i.text))) m ∷ again

-- a refused reader has no items
abbrev pub items_for : Stand → List Item → List Item
items_for stands is = is
items_for (refuses_with number value) is = []
