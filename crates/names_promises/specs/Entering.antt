-- The call that asks for a number: `names::enter` ensures `outcome (told_of r) words' bytes' ≡ enter_of words bytes party name`.
use Rattle.std.specs.Prelude.{Result, Ok, Err, ℕ, zero, suc, ◌+◌, ◌-◌, ◌*◌, ◌/◌, ◌%◌, ◌≡◌, refl, List, [], ◌∷◌, ◌++◌, replicate, get_or}
use Rattle.std.proofs.Common.{sym, ap, ◌∙◌}
use Rattle.laws.specs.Quoted.{codes}
use Rattle.laws.specs.Texts.{same}
use Rattle.laws.proofs.Choice.{impossible}
use Rattle.refusal.specs.Refusals.{out_of_bounds, no_party, no_room}
use Rattle.names.specs.Layout.{half_names, half_bytes, half_words, first_slot, table_words, table_bytes, place_at, name_at, bears, half_bounds, is_in_bounds}
use Rattle.names.specs.Call.{rest, mix, slot_of, tag_of, slot_word, proposes, probe, scan, lookup_of, find_of, new_words, laid, new_of, Outcome, outcome, enter_of}
use Rattle.names.specs.Answers.{Number, Refused, told_of}
use Rattle.names.specs.declared.NameError.{NameError}
use Rattle.names.specs.declared.NameError.TheVariants as error

-- two answers that mean the same are the same
entered_once : (x y : Result ℕ NameError) → told_of x ≡ told_of y → x ≡ y
entered_once (Ok j) (Ok k) e = cc
entered_once (Ok j) (Err error.OutOfBounds) e = impossible cc
entered_once (Ok j) (Err error.NoParty) e = impossible cc
entered_once (Ok j) (Err error.NoRoom) e = impossible cc
entered_once (Ok j) (Err error.NoName) e = impossible cc
entered_once (Err error.OutOfBounds) (Ok k) e = impossible cc
entered_once (Err error.OutOfBounds) (Err error.OutOfBounds) e = refl
entered_once (Err error.OutOfBounds) (Err error.NoParty) e = impossible cc
entered_once (Err error.OutOfBounds) (Err error.NoRoom) e = impossible cc
entered_once (Err error.OutOfBounds) (Err error.NoName) e = impossible cc
entered_once (Err error.NoParty) (Ok k) e = impossible cc
entered_once (Err error.NoParty) (Err error.OutOfBounds) e = impossible cc
entered_once (Err error.NoParty) (Err error.NoParty) e = refl
entered_once (Err error.NoParty) (Err error.NoRoom) e = impossible cc
entered_once (Err error.NoParty) (Err error.NoName) e = impossible cc
entered_once (Err error.NoRoom) (Ok k) e = impossible cc
entered_once (Err error.NoRoom) (Err error.OutOfBounds) e = impossible cc
entered_once (Err error.NoRoom) (Err error.NoParty) e = impossible cc
entered_once (Err error.NoRoom) (Err error.NoRoom) e = refl
entered_once (Err error.NoRoom) (Err error.NoName) e = impossible cc
entered_once (Err error.NoName) (Ok k) e = impossible cc
entered_once (Err error.NoName) (Err error.OutOfBounds) e = impossible cc
entered_once (Err error.NoName) (Err error.NoParty) e = impossible cc
entered_once (Err error.NoName) (Err error.NoRoom) e = impossible cc
entered_once (Err error.NoName) (Err error.NoName) e = refl

-- so two permitted answers coincide, with the memory after them
one_answer : (w b : List ℕ) (p : ℕ) (n : List ℕ) (x y : Result ℕ NameError) (v c v' c' : List ℕ) → outcome (told_of x) v c ≡ enter_of w b p n
    → outcome (told_of y) v' c' ≡ enter_of w b p n
    → (x ≡ y) × ((v ≡ v') × (c ≡ c'))
one_answer w b p n x y v c v' c' e f =
    let g : outcome (told_of x) v c ≡ outcome (told_of y) v' c' = e ∙ sym f in
    (entered_once x y (ap (λ (o : Outcome). o.answer) g), (ap (λ (o : Outcome). o.words) g, ap (λ (o : Outcome). o.bytes) g))

-- ---- in lent memory

abbrev pub words : List ℕ
words = replicate table_words 0

abbrev pub bytes : List ℕ
bytes = replicate table_bytes 0

-- 27 goes before 35, and nothing changes
outside_first : enter_of [] [] 2 (codes "Fagus") ≡ outcome (Refused out_of_bounds) [] []
unfolding enter_of is_in_bounds
outside_first = refl

-- a party other than 0 or 1
no_party_lem : (enter_of words bytes 2 (codes "Fagus")).answer ≡ Refused no_party
unfolding enter_of is_in_bounds half_bounds
no_party_lem = refl

-- the first name of party 0 in an empty table
first_name : (enter_of words bytes 0 (codes "a")).answer ≡ Number 0
unfolding enter_of is_in_bounds half_bounds find_of lookup_of probe scan proposes bears name_at place_at same mix rest new_of new_words laid
first_name = refl

-- the index proposes it at its slot
pub indexed : get_or (enter_of words bytes 0 (codes "a")).words (first_slot + slot_of (codes "a")) 0 ≡ slot_word (tag_of (codes "a")) 0
unfolding enter_of is_in_bounds half_bounds find_of lookup_of probe scan proposes bears name_at place_at same mix rest new_of new_words laid
indexed = refl

-- no program that refuses everything meets the promise, whatever it says and leaves
never_refused : (k : ℕ) (w b : List ℕ) → outcome (Refused k) w b ≡ enter_of words bytes 0 (codes "a") → ⊥
never_refused k w b h =
    let e : Refused k ≡ Number 0 = ap (λ (o : Outcome). o.answer) h ∙ first_name in impossible cc

-- ---- both halves

-- how many names stand in each half after a call
abbrev counts : Outcome → List ℕ
counts o = get_or o.words 0 0 ∷ get_or o.words half_words 0 ∷ []

-- the table in which party 1 has entered one name
abbrev entered : Outcome
entered = enter_of words bytes 1 (codes "Fagus")

-- a new name of party 1: the count of its half, plus 512, and it stands in that half
new_of_contractor : (entered.answer ≡ Number half_names) × (counts entered ≡ 0 ∷ 1 ∷ [])
unfolding enter_of is_in_bounds half_bounds find_of lookup_of probe scan proposes bears name_at place_at same mix rest new_of new_words laid
new_of_contractor = (refl, refl)

-- party 0 asks for it
abbrev asked : Outcome
asked = enter_of entered.words entered.bytes 0 (codes "Fagus")

-- equal names have equal numbers, whoever asks: nothing is entered
shared_name : (asked.answer ≡ Number half_names) × (counts asked ≡ 0 ∷ 1 ∷ [])
unfolding enter_of is_in_bounds half_bounds find_of lookup_of probe scan proposes bears name_at place_at same mix rest new_of new_words laid
shared_name = (refl, refl)

-- ---- a half that is all but full

-- so many names of two bytes, from the k-th on, no two of them alike; and so many bounds, from a place on
unfoldable pairs : ℕ → ℕ → List ℕ
pairs zero k = []
pairs (suc n) k = k / 256 ∷ k % 256 ∷ pairs n (k + 1)

unfoldable bounds : ℕ → ℕ → List ℕ
bounds zero at = []
bounds (suc n) at = at ∷ bounds n (at + 2)

-- memory in whose first half stand n of 512 such names
abbrev filled : ℕ → List ℕ
filled n = n ∷ (bounds (half_names + 1) 0 ++ replicate (table_words - first_slot) 0)

abbrev names : List ℕ
names = pairs half_names 0 ++ replicate (table_bytes - 2 * half_names) 0

-- a half holds 512 names, so the 512th is taken
last_entry : (enter_of (filled 511) names 0 (codes "b")).answer ≡ Number 511
unfolding pairs bounds enter_of is_in_bounds half_bounds find_of lookup_of probe scan proposes bears name_at place_at same mix rest new_of new_words laid
last_entry = refl

-- and the 513th refused, whatever room the other has
full : (enter_of (filled half_names) names 0 (codes "b")).answer ≡ Refused no_room
unfolding pairs bounds enter_of is_in_bounds half_bounds find_of lookup_of probe scan proposes bears name_at place_at same mix rest new_of new_words laid
full = refl

-- memory in whose first half stands one name, of all its bytes but one
abbrev all_but_one : List ℕ
all_but_one = 1 ∷ 0 ∷ (half_bytes - 1) ∷ replicate (table_words - 3) 0

-- a half holds 16,384 bytes, so a name that just fits is taken, and one of a byte more is not
last_byte : (enter_of all_but_one bytes 0 (codes "b")).answer ≡ Number 1
unfolding enter_of is_in_bounds half_bounds find_of lookup_of probe scan proposes bears name_at place_at same mix rest new_of new_words laid
last_byte = refl

byte_more : (enter_of all_but_one bytes 0 (codes "bc")).answer ≡ Refused no_room
unfolding enter_of is_in_bounds half_bounds find_of lookup_of probe scan proposes bears name_at place_at same mix rest new_of new_words laid
byte_more = refl
