-- The reader of item files, a machine that takes a byte at a time.
use Rattle.std.specs.Prelude.{ℕ, ◌+◌, ◌-◌, ◌*◌, ◌/◌, Bool, true, false, List, [], ◌∷◌, eqb, leb, ltb, length, if◌then◌else◌}
use Rattle.laws.specs.Lent.{written}
use Rattle.items.specs.Items.{record_words}
use Rattle.refusal.specs.Refusals as refusal
use Rattle.items_files.specs.Groups.{most}
use Rattle.items_files.specs.Layout.{base, after, first}
use Rattle.items_files.specs.Answers.{Answer, served, refused, Outcome, outcome}
use Rattle.items_files.specs.Numbers.{fifth}
use Rattle.items_files.specs.declared.Before.{Before}

-- A number in the middle of its groups: its value so far and the weight of the next group; and what lies before its word.
pub record Reading : Type 0 where
  pub value : ℕ
  pub weight : ℕ
  pub before : Before

abbrev pub reading : ℕ → ℕ → Before → Reading
reading v w b = record { value = v; weight = w; before = b }

-- between two numbers
abbrev pub between : Before → Reading
between b = reading 0 1 b

abbrev pub opening : Reading
opening = between first

-- What a byte does: its group goes on, a word is whole, or the number fails.
pub data Took : Type 0 where
  goes_on : Reading → Took
  word : ℕ → Reading → Took
  bad : ℕ → Took

-- a number that is whole: 30 if it is over 32 bits, 31 if its word, the sum of base and number, is
unfoldable pub entered : Before → ℕ → Took
entered b n =
    if ltb most n
    then bad refusal.wrong_number
    else
    (if ltb most (base b + n)
    then bad refusal.over_sum
    else word (base b + n) (between (after b (base b + n))))

-- A byte: the top bit set, its group goes on, 30 if it is the fifth; else it ends the number, which is 30 if it is longer than needed:
-- its last group is 0 and not its only one.
unfoldable pub taken : Reading → ℕ → Took
taken r c =
    if leb 128 c
    then (if eqb r.weight fifth then bad refusal.wrong_number else goes_on (reading (r.value + r.weight * (c - 128)) (r.weight * 128) r.before))
    else
    (if eqb c 0
    then (if eqb r.weight 1 then entered r.before 0 else bad refusal.wrong_number)
    else entered r.before (r.value + r.weight * c))

-- the words of a file, or the first number that fails, and how
pub data Found : Type 0 where
  all : List ℕ → Found
  fails : ℕ → ℕ → Found

abbrev pub push : ℕ → Found → Found
push w (all ws) = all (w ∷ ws)
push w (fails n j) = fails n j

-- by what a byte did
abbrev pub told : {A : Type 0} → Took → (Reading → A) → (ℕ → Reading → A) → (ℕ → A) → A
told (goes_on r) f g h = f r
told (word w r) f g h = g w r
told (bad n) f g h = h n

-- the end between two records, or 29: a number is cut short
abbrev pub ended : Reading → ℕ → Found
ended r j =
    if eqb r.weight 1
    then (if eqb r.before.which 0 then all [] else fails refusal.cut_short j)
    else fails refusal.cut_short j

-- from number j on
unfoldable pub read_from : Reading → ℕ → List ℕ → Found
read_from r j [] = ended r j
read_from r j (c ∷ s) = told (taken r c) (λ t. read_from t j s) (λ w t. push w (read_from t (j + 1) s)) (λ n. fails n j)

-- how many words, or the failure
abbrev pub sizes : Found → Answer
sizes (all ws) = served (length ws)
sizes (fails n j) = refused n j

abbrev pub words_in : Found → List ℕ
words_in (all ws) = ws
words_in (fails n j) = []

abbrev pub sound : Found → Bool
sound (all ws) = true
sound (fails n j) = false

-- 30, 29 and 31 come with the number that fails, counted from 0 in the file; then 22 with the items needed; refused, nothing is written
abbrev pub load : Found → List ℕ → Outcome
load (fails n j) records = outcome (refused n j) records
load (all ws) records =
    if ltb (length records / record_words) (length ws / record_words)
    then outcome (refused refusal.too_few (length ws / record_words)) records
    else outcome (served (length ws / record_words)) (written ws records)

unfoldable pub read_of : List ℕ → List ℕ → Outcome
read_of bytes records = load (read_from opening 0 bytes) records
