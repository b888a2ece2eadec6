-- What does not cover: lists of records that wrong readers would give, each refused by a sentence that follows from the cover.
use Rattle.laws.specs.Texts.{span, begins}
use Rattle.chars.specs.Blank.{is_blank}
use Rattle.chars.specs.Encode.{utf8, bytes_of, spelled}
use Rattle.items.specs.Kinds as kind
use Rattle.items_coverage.specs.Covered.{Seen, seen, opening, Covered}
use Rattle.items_coverage.specs.Sentences.{nth, Pair, Belongs, to_extent, to_blank, to_opening}
use Rattle.items_coverage.proofs.Bytes.{byte_char}
use Rattle.items_coverage.proofs.Sentences.{onward, in_order, none_unseen}
use Prim.Native.Nat.{ℕ, suc, ◌+◌, ◌-◌, ◌≤◌, ◌<◌}
use mathlib.Core.Path.{◌≡◌, refl, sym, ap, ◌∙◌}
use mathlib.Core.Bool.{false, true≢false}
use mathlib.Core.List.{List, [], ◌∷◌}
use mathlib.Core.Logic.{◌⊎◌, inl, inr}
use lib.ListN.{length, get_or, take, drop}
use lib.Seq.{get_or-take, get_or-drop}
use native.Mathlib.Omega.{arith}

-- an ASCII byte that belongs to a blank is that blank
blank_byte : (bytes : List ℕ) (c from p : ℕ) → take (length (utf8 c)) (drop from bytes) ≡ utf8 c → from ≤ p → p < from + length (utf8 c)
    → get_or bytes p 0 < 0x80
    → c ≡ get_or bytes p 0
blank_byte bytes c from p e a h small =
    let place : from + (p - from) ≡ p = omega arith in
    byte_char (get_or bytes p 0) small c (p - from) (omega arith)
    (sym (ap (λ (l : List ℕ). get_or l (p - from) 0) e)
    ∙ get_or-take (length (utf8 c)) (drop from bytes) (p - from) 0 (omega arith)
    ∙ get_or-drop from bytes (p - from) 0
    ∙ ap (λ (k : ℕ). get_or bytes k 0) place)

-- a byte of ASCII that is no blank lies in an extent, or in the opening line
in_extent : (bytes : List ℕ) (rs : List Seen) → Covered bytes rs → (p : ℕ) → p < length bytes → opening bytes ≤ p → get_or bytes p 0 < 0x80
    → is_blank (get_or bytes p 0) ≡ false
    → (i : ℕ) × (i < length rs) × ((nth rs i).start ≤ p) × (p < (nth rs i).end)
in_extent bytes rs h p l o small solid = go (none_unseen bytes rs h p l)
  where
    go : Belongs bytes rs p → (i : ℕ) × (i < length rs) × ((nth rs i).start ≤ p) × (p < (nth rs i).end)
    go (to_extent i a b d) = (i, a, b, d)
    go (to_blank c from b e a d) = absurd (true≢false (sym b ∙ ap is_blank (blank_byte bytes c from p e a d small) ∙ solid))
    go (to_opening a) = absurd (omega arith)

-- a comment that leaves out its last byte
comment_cut : Covered (spelled ";gps") (seen kind.Comment 0 3 ∷ []) → ⊥
unfolding opening begins bytes_of utf8 is_blank
comment_cut h = go (in_extent (spelled ";gps") (seen kind.Comment 0 3 ∷ []) h 3 (omega arith) (omega arith) (omega arith) refl)
  where
    go : (i : ℕ) × (i < 1) × ((nth (seen kind.Comment 0 3 ∷ []) i).start ≤ 3) × (3 < (nth (seen kind.Comment 0 3 ∷ []) i).end) → ⊥
    go r = let z : r.0 ≡ 0 = omega arith in let l : 3 < 3 = rw z at r.3 in omega arith

-- `foo` of `+foo` at 1..4
plus_apart : Covered (spelled "+foo") (seen kind.Identifier 0 4 ∷ seen kind.Identifier 1 4 ∷ []) → ⊥
plus_apart h = go (in_order (spelled "+foo") (seen kind.Identifier 0 4 ∷ seen kind.Identifier 1 4 ∷ []) h 0 1 (omega arith) (omega arith))
  where
    go : (4 ≤ 1) ⊎ ((1 ≡ suc 0) × Pair (spelled "+foo") (seen kind.Identifier 0 4) (seen kind.Identifier 1 4)) → ⊥
    go (inl a) = omega arith
    go (inr a) = omega (arith, a.1.start)

-- the opening line given as a comment
line_told : Covered (spelled "#!x\n") (seen kind.Comment 0 3 ∷ []) → ⊥
unfolding opening begins bytes_of utf8 span
line_told h = omega (arith, onward h 0 (omega arith))

-- one identifier told twice: no plus, no pair
told_twice : Covered (spelled "foo") (seen kind.Identifier 0 3 ∷ seen kind.Identifier 0 3 ∷ []) → ⊥
unfolding bytes_of utf8
told_twice h = go (in_order (spelled "foo") (seen kind.Identifier 0 3 ∷ seen kind.Identifier 0 3 ∷ []) h 0 1 (omega arith) (omega arith))
  where
    go : (3 ≤ 0) ⊎ ((1 ≡ suc 0) × Pair (spelled "foo") (seen kind.Identifier 0 3) (seen kind.Identifier 0 3)) → ⊥
    go (inl a) = omega arith
    go (inr a) = omega (arith, a.1.plus)

-- an item left out
item_lost : Covered (spelled "a b") (seen kind.Identifier 0 1 ∷ []) → ⊥
unfolding opening begins bytes_of utf8 is_blank
item_lost h = go (in_extent (spelled "a b") (seen kind.Identifier 0 1 ∷ []) h 2 (omega arith) (omega arith) (omega arith) refl)
  where
    go : (i : ℕ) × (i < 1) × ((nth (seen kind.Identifier 0 1 ∷ []) i).start ≤ 2) × (2 < (nth (seen kind.Identifier 0 1 ∷ []) i).end) → ⊥
    go r = let z : r.0 ≡ 0 = omega arith in let l : 2 < 1 = rw z at r.3 in omega arith
