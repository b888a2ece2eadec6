-- What C gets. `mihadrena_items_write` ensures `r ≡ number_of (write_of records out).answer`,
-- `values' ≡ lay (value_of (write_of records out).answer ∷ []) values` and `out' ≡ (write_of records out).memory`;
-- `mihadrena_items_read` the same of `read_of file records`.
use Rattle.std.specs.Prelude.{◌≡◌, refl, List, [], ◌∷◌, ◌++◌, ℕ, replicate}
use Rattle.chars.specs.Encode.{lay}
use Rattle.items_files.specs.Groups.{groups}
use Rattle.items_files.specs.Layout.{base, after}
use Rattle.items_files.specs.Answers.{Outcome}
use Rattle.items_files.specs.Write.{file, goes, measured, write_of}
use Rattle.items_files.specs.Read.{entered, taken, read_from, read_of}
use Rattle.items_files_exports.specs.Told.{number_of, value_of}
use Rattle.items_files_promises.specs.Rows.{one, close, closes, closes_file}

-- all that a call leaves: its result and the two memories lent
pub record Seen : Type 0 where
  pub number : ℕ
  pub values : List ℕ
  pub memory : List ℕ

abbrev pub sees : ℕ → List ℕ → List ℕ → Seen
sees n v m = record { number = n; values = v; memory = m }

abbrev seen : Outcome → List ℕ → Seen
seen o values = sees (number_of o.answer) (lay (value_of o.answer ∷ []) values) o.memory

abbrev pub write_seen : List ℕ → List ℕ → List ℕ → Seen
write_seen records out values = seen (write_of records out) values

abbrev pub read_seen : List ℕ → List ℕ → List ℕ → Seen
read_seen bytes records values = seen (read_of bytes records) values

-- ---- the writer

-- 0 and the bytes of the file; the value behind stays
pub bytes_told : write_seen closes (replicate 20 9) (8 ∷ 8 ∷ []) ≡ sees 0 (20 ∷ 8 ∷ []) closes_file
unfolding groups base after file goes measured write_of lay
bytes_told = refl

-- 32 and the record
pub back_told : write_seen (close 6 7 ++ close 5 6) [] (8 ∷ []) ≡ sees 32 (1 ∷ []) []
unfolding groups base after file goes measured write_of lay
back_told = refl

-- 22 and the bytes needed: so the size of a file is asked for
pub room_told : write_seen closes [] (8 ∷ []) ≡ sees 22 (20 ∷ []) []
unfolding groups base after file goes measured write_of lay
room_told = refl

-- no room for the value: the file is written all the same
pub no_values : write_seen (one 0) (9 ∷ replicate 9 9) [] ≡ sees 0 [] (one 0)
unfolding groups base after file goes measured write_of lay
no_values = refl

-- ---- the reader

pub items_told : read_seen closes_file (replicate 20 9) (8 ∷ 8 ∷ []) ≡ sees 0 (2 ∷ 8 ∷ []) closes
unfolding groups base after entered taken read_from read_of lay
items_told = refl

-- 30 and the number in the file, which is not the place of its byte: the detail has two groups
pub number_told_lem : read_seen (28 ∷ 128 ∷ 1 ∷ 128 ∷ 0 ∷ []) (9 ∷ []) (8 ∷ []) ≡ sees 30 (2 ∷ []) (9 ∷ [])
unfolding groups base after entered taken read_from read_of lay
number_told_lem = refl

-- 22 and the items needed
pub few_told : read_seen closes_file [] (8 ∷ []) ≡ sees 22 (2 ∷ []) []
unfolding groups base after entered taken read_from read_of lay
few_told = refl
