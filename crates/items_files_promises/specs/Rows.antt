-- Whole answers of the two calls, with the memory. `items_files::write` ensures `outcome (wrote r) out' ≡ write_of records out`, and
-- `items_files::read` ensures `outcome (got r) records' ≡ read_of file records`.
use Rattle.std.specs.Prelude.{◌≡◌, refl, List, [], ◌∷◌, ◌++◌, ℕ, replicate}
use Rattle.items_files.specs.Groups.{groups}
use Rattle.items_files.specs.Layout.{base, after}
use Rattle.items_files.specs.Answers.{served, refused, outcome}
use Rattle.items_files.specs.Write.{file, goes, measured, write_of}
use Rattle.items_files.specs.Read.{entered, taken, read_from, read_of}

-- a Keyword with a detail, 0 in all other words
abbrev pub one : ℕ → List ℕ
one detail = 28 ∷ detail ∷ replicate 8 0

-- a CloseParen at s..s+1, at depth 1
abbrev pub close : ℕ → ℕ → List ℕ
close s e = 1 ∷ 0 ∷ s ∷ e ∷ s ∷ e ∷ 0 ∷ 0 ∷ 0 ∷ 1 ∷ []

-- `))` at 5..7, and its file: the second start is stored less the first
abbrev pub closes : List ℕ
closes = close 5 6 ++ close 6 7

abbrev pub closes_file : List ℕ
closes_file = 1 ∷ 0 ∷ 5 ∷ 1 ∷ 5 ∷ 1 ∷ 0 ∷ 0 ∷ 0 ∷ 1 ∷ 1 ∷ 0 ∷ 1 ∷ 1 ∷ 6 ∷ 1 ∷ 0 ∷ 0 ∷ 0 ∷ 1 ∷ []

-- ---- the writer

pub written : write_of closes (replicate 22 9) ≡ outcome (served 20) (closes_file ++ (9 ∷ 9 ∷ []))
unfolding groups base after file goes measured write_of
written = refl

-- 127 is the largest number of one group
pub one_group : write_of (one 127) (replicate 12 9) ≡ outcome (served 10) (28 ∷ 127 ∷ replicate 8 0 ++ (9 ∷ 9 ∷ []))
unfolding groups base after file goes measured write_of
one_group = refl

-- 128 is the least of two
pub two_groups : write_of (one 128) (replicate 12 9) ≡ outcome (served 11) (28 ∷ 128 ∷ 1 ∷ replicate 8 0 ++ (9 ∷ []))
unfolding groups base after file goes measured write_of
two_groups = refl

-- the second record starts before the first
pub goes_back : write_of (close 6 7 ++ close 5 6) (replicate 20 9) ≡ outcome (refused 32 1) (replicate 20 9)
unfolding groups base after file goes measured write_of
goes_back = refl

-- 32 goes before 22
pub back_first : write_of (close 6 5) [] ≡ outcome (refused 32 0) []
unfolding groups base after file goes measured write_of
back_first = refl

-- a byte too few
pub unwritten : write_of closes (replicate 19 9) ≡ outcome (refused 22 20) (replicate 19 9)
unfolding groups base after file goes measured write_of
unwritten = refl

-- ---- the reader

pub loaded : read_of closes_file (replicate 21 9) ≡ outcome (served 2) (closes ++ (9 ∷ []))
unfolding groups base after entered taken read_from read_of
loaded = refl

-- 0 in two groups is longer than needed
pub longer : read_of (28 ∷ 128 ∷ 0 ∷ replicate 8 0) (replicate 10 9) ≡ outcome (refused 30 1) (replicate 10 9)
unfolding groups base after entered taken read_from read_of
longer = refl

-- an extent of 1 byte from the last place on ends past 32 bits
pub past_words : read_of (28 ∷ 0 ∷ 255 ∷ 255 ∷ 255 ∷ 255 ∷ 15 ∷ 1 ∷ replicate 6 0) (replicate 10 9) ≡ outcome (refused 31 3) (replicate 10 9)
unfolding groups base after entered taken read_from read_of
past_words = refl

-- a number over 32 bits is 30, and not 31, also where its sum would be
pub over_first : read_of (28 ∷ 0 ∷ 1 ∷ 255 ∷ 255 ∷ 255 ∷ 255 ∷ 16 ∷ []) [] ≡ outcome (refused 30 3) []
unfolding groups base after entered taken read_from read_of
over_first = refl

-- an item that is cut between two numbers
pub cut : read_of (28 ∷ 0 ∷ []) (replicate 10 9) ≡ outcome (refused 29 2) (replicate 10 9)
unfolding groups base after entered taken read_from read_of
cut = refl

-- a word too few
pub unloaded : read_of closes_file (replicate 19 9) ≡ outcome (refused 22 2) (replicate 19 9)
unfolding groups base after entered taken read_from read_of
unloaded = refl
