-- The name call: `names::name_mark`, `names::place_of` and `names::name_of` ensure `r ≡ mark_of ..`, `r ≡ place_of ..` and `now r ≡ name_of ..`;
-- in a table that the calls made they mean `mark_in` and `name_in`.
use Rattle.std.specs.Prelude.{ℕ, ◌+◌, ◌-◌, ◌≡◌, refl, List, [], ◌∷◌, ◌++◌, length, replicate}
use Rattle.std.proofs.Common.{arith, sym, ap, ◌∙◌}
use Rattle.laws.specs.Quoted.{codes}
use Rattle.refusal.specs.Refusals.{out_of_bounds, no_name}
use Rattle.names.specs.Layout.{half_names, half_bytes, half_words, table_words, table_bytes, placed, place_at, half_bounds, is_in_bounds}
use Rattle.names.specs.Call.{mark_of, place_of, name_of}
use Rattle.names.specs.Book.{book, mark_in, name_in}

-- two permitted answers coincide
one_answer : (w b : List ℕ) (n : ℕ) (x y : List ℕ) → x ≡ name_of w b n → y ≡ name_of w b n → x ≡ y
one_answer w b n x y e f = e ∙ sym f

-- 27 goes before 37
outside_first : mark_of [] [] 9999 ≡ out_of_bounds
unfolding mark_of is_in_bounds
outside_first = refl

-- an empty table has no number 0
none_yet : mark_of (replicate table_words 0) (replicate table_bytes 0) 0 ≡ no_name
unfolding mark_of is_in_bounds half_bounds
none_yet = refl

-- one entry of five bytes in the half of party 1
abbrev words : List ℕ
words = replicate half_words 0 ++ (1 ∷ 0 ∷ 5 ∷ replicate (half_words - 3) 0)

there : place_of words (replicate table_bytes 0) half_names ≡ placed half_bytes (half_bytes + 5)
unfolding place_of place_at mark_of is_in_bounds half_bounds
there = refl

-- the first name of party 1 has number 512 and no other
number_512 : name_in (book (codes "Betula" ∷ []) (codes "Fagus" ∷ [])) 512 ≡ codes "Fagus"
unfolding name_in
number_512 = refl

number_513 : mark_in (book (codes "Betula" ∷ []) (codes "Fagus" ∷ [])) 513 ≡ no_name
unfolding mark_in
number_513 = refl

-- no program that gives every number an empty name meets the promise
never_empty : name_in (book [] (codes "Fagus" ∷ [])) 512 ≡ [] → ⊥
unfolding name_in
never_empty e = let z = ap length e in omega arith
