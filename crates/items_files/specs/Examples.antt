-- Worked examples of item files, one table under one statement.
use Rattle.std.specs.Prelude.{◌≡◌, refl, List, [], ◌∷◌, ◌++◌, map, ℕ, replicate}
use Rattle.items_files.specs.Groups.{groups}
use Rattle.items_files.specs.Layout.{base, after}
use Rattle.items_files.specs.Answers.{served, refused, Outcome, outcome}
use Rattle.items_files.specs.Write.{file, goes, measured, write_of}
use Rattle.items_files.specs.Read.{entered, taken, read_from, read_of}

-- `(a` of 01's example: OpenParen 0..1, and Identifier 1..2 with the text `a` of the source, at depth 1
abbrev two : List ℕ
two = 0 ∷ 0 ∷ 0 ∷ 1 ∷ 0 ∷ 1 ∷ 0 ∷ 0 ∷ 0 ∷ 0 ∷ 27 ∷ 0 ∷ 1 ∷ 2 ∷ 1 ∷ 2 ∷ 1 ∷ 1 ∷ 2 ∷ 1 ∷ []

abbrev two_file : List ℕ
two_file = 0 ∷ 0 ∷ 0 ∷ 1 ∷ 0 ∷ 1 ∷ 0 ∷ 0 ∷ 0 ∷ 0 ∷ 27 ∷ 0 ∷ 1 ∷ 1 ∷ 1 ∷ 1 ∷ 1 ∷ 1 ∷ 1 ∷ 1 ∷ []

-- one item with the detail n
abbrev one : ℕ → List ℕ
one n = 28 ∷ n ∷ 0 ∷ 0 ∷ 0 ∷ 0 ∷ 0 ∷ 0 ∷ 0 ∷ 0 ∷ []

-- the rest of its file after the detail
abbrev zeros : List ℕ
zeros = replicate 8 0

pub record Row : Type 0 where
  pub given : Outcome
  pub wanted : Outcome

abbrev row : Outcome → Outcome → Row
row g w = record { given = g; wanted = w }

unfoldable pub table : List Row
table =
    row (write_of [] (7 ∷ [])) (outcome (served 0) (7 ∷ []))
    ∷ row (read_of [] (7 ∷ [])) (outcome (served 0) (7 ∷ []))
    ∷ row (write_of two (replicate 21 9)) (outcome (served 20) (two_file ++ (9 ∷ [])))
    ∷ row (read_of two_file (replicate 21 9)) (outcome (served 2) (two ++ (9 ∷ [])))
    -- words left over belong to no record
    ∷ row (write_of (two ++ (5 ∷ [])) (replicate 20 9)) (outcome (served 20) two_file)
    -- 300 is 44 and 2 * 128; the largest number takes five groups, the last of four bits
    ∷ row (write_of (one 300) (replicate 11 9)) (outcome (served 11) (28 ∷ 172 ∷ 2 ∷ zeros))
    ∷ row (write_of (one 4294967295) (replicate 14 9)) (outcome (served 14) (28 ∷ 255 ∷ 255 ∷ 255 ∷ 255 ∷ 15 ∷ zeros))
    ∷ row (read_of (28 ∷ 255 ∷ 255 ∷ 255 ∷ 255 ∷ 15 ∷ zeros) (replicate 10 9)) (outcome (served 1) (one 4294967295))
    -- 32 comes with the record: the second item starts before the first; 22 with the bytes or the items needed
    ∷ row (write_of (0 ∷ 0 ∷ 5 ∷ 6 ∷ 5 ∷ 6 ∷ 0 ∷ 0 ∷ 0 ∷ 0 ∷ one 0) []) (outcome (refused 32 1) [])
    ∷ row (write_of (0 ∷ 0 ∷ 5 ∷ 6 ∷ 5 ∷ 4 ∷ 0 ∷ 0 ∷ 0 ∷ 0 ∷ []) []) (outcome (refused 32 0) [])
    ∷ row (write_of two (replicate 19 9)) (outcome (refused 22 20) (replicate 19 9))
    ∷ row (read_of two_file (replicate 19 9)) (outcome (refused 22 2) (replicate 19 9))
    -- 30, 29 and 31 come with the number: longer than needed, over 32 bits, a fifth group that goes on; cut; a length past 32 bits
    ∷ row (read_of (28 ∷ 128 ∷ 0 ∷ zeros) []) (outcome (refused 30 1) [])
    ∷ row (read_of (28 ∷ 255 ∷ 255 ∷ 255 ∷ 255 ∷ 16 ∷ zeros) []) (outcome (refused 30 1) [])
    ∷ row (read_of (28 ∷ 128 ∷ 128 ∷ 128 ∷ 128 ∷ 128 ∷ []) []) (outcome (refused 30 1) [])
    ∷ row (read_of (28 ∷ 128 ∷ 128 ∷ 128 ∷ 128 ∷ []) []) (outcome (refused 29 1) [])
    ∷ row (read_of (28 ∷ []) []) (outcome (refused 29 1) [])
    ∷ row (read_of (28 ∷ 0 ∷ 255 ∷ 255 ∷ 255 ∷ 255 ∷ 15 ∷ 1 ∷ []) []) (outcome (refused 31 3) [])
    ∷ []

pub computed : map (λ r. r.given) table ≡ map (λ r. r.wanted) table
unfolding table groups base after file goes measured write_of entered taken read_from read_of
computed = refl
