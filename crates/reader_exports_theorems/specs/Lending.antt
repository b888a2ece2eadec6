-- Calls for an item one after the other, each lent whatever memory the caller has at hand: what the calls leave, and what is due by the items
-- alone.
use Rattle.std.specs.Prelude.{ℕ, List, [], ◌∷◌, length, leb, if◌then◌else◌}
use Rattle.laws.specs.Lent.{written}
use Rattle.refusal.specs.Refusals as refusal
use Rattle.items.specs.Items.{Item, depth_after, memory_of, record_of}
use Rattle.reader_exports.specs.Reader.{memory, Left, told, is_room, next_left}

-- what a call is lent beside the position: text memory, words for a record, values; each of any length
pub record Lending : Type 0 where
  pub text : List ℕ
  pub item : List ℕ
  pub values : List ℕ

abbrev pub lending : List ℕ → List ℕ → List ℕ → Lending
lending text i values = record { text = text; item = i; values = values }

-- what a call answered, and what it was lent then holds
pub record Answered : Type 0 where
  pub answer : ℕ
  pub lent : Lending

abbrev pub answered : ℕ → List ℕ → List ℕ → List ℕ → Answered
answered n text i values = record { answer = n; lent = lending text i values }

-- a call for each lending, each on the position's words that the one before left
unfoldable pub call_after_call : List ℕ → List ℕ → List Lending → List Answered
call_after_call source words [] = []
call_after_call source words (l ∷ ls) =
    let r : Left = next_left source (memory words l.text l.item l.values) in
    answered r.answer r.memory.text r.memory.item r.memory.values ∷ call_after_call source r.memory.words ls

-- The same by the items alone. Without room for a record and two values: 22 with 1 and 0. After the last item the end, again and again. Else the
-- item, once its text fits: its record, its decoded text from 0 on, all past them as it was; and where it does not fit 22 with 1 and its text
-- bytes. A call with 22 leaves all but the values as it was, and the item is still to come. `depth` is the depth before the first item.
unfoldable pub due_to : List Lending → ℕ → List Item → List Answered
due_to [] depth is = []
due_to (l ∷ ls) depth [] =
    let more = due_to ls depth [] in
    if is_room (length l.item) (length l.values)
    then answered refusal.finished l.text l.item (told 0 0 l.values) ∷ more
    else answered refusal.too_few l.text l.item (told 1 0 l.values) ∷ more
due_to (l ∷ ls) depth (i ∷ is) =
    let more = due_to ls (depth_after i.kind depth) is in
    let again = due_to ls depth (i ∷ is) in
    let bytes = memory_of i.text in
    if is_room (length l.item) (length l.values)
    then
    (if leb (length bytes) (length l.text)
    then answered refusal.item (written bytes l.text) (written (record_of 0 depth i) l.item) (told 0 0 l.values) ∷ more
    else answered refusal.too_few l.text l.item (told 1 (length bytes) l.values) ∷ again)
    else answered refusal.too_few l.text l.item (told 1 0 l.values) ∷ again
