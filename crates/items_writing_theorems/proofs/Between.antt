-- The text between an item's quotes is whole characters, with its escapes decoded and as it stands.
use Prim.Native.Nat.{ℕ, suc, ◌-◌, ◌≤◌}
use mathlib.Core.Path.{◌≡◌, sym, subst, ◌∙◌}
use mathlib.Core.Bool.{true}
use mathlib.Core.List.{List, [], ◌∷◌, ◌++◌}
use lib.ListN.{length, get_or, take, drop, take-append-drop, drop_of_length-le}
use lib.Seq.{drop-cons}
use lib.Dec.{ltb}
use native.Mathlib.Omega.{arith}
use borrow.Author.Tests.{eqb-true}
use Rattle.chars.specs.Encode.{bytes_of}
use Rattle.chars.proofs.Good.{Scalars}
use Rattle.items.proofs.Fine.{Between}
use Rattle.items_r7rs.proofs.Bytes.{bytes_ascii}
use Rattle.items_writing_theorems.proofs.Characters.{Texty, nothing_bytes}
use Rattle.items_writing_theorems.proofs.Fronts.{whole_front}

-- the last byte of some
last_split : (l : List ℕ) (b : ℕ) → 1 ≤ length l → get_or l (length l - 1) 0 ≡ b → l ≡ take (length l - 1) l ++ (b ∷ [])
last_split l b h e =
    let n : ℕ = length l - 1 in
    let f : drop n l ≡ get_or l n 0 ∷ drop (suc n) l = drop-cons l n 0 (omega arith) in
    let g : drop (suc n) l ≡ [] = drop_of_length-le l {i = suc n} (omega arith) in
    let k : drop n l ≡ b ∷ [] = f ∙ rw (e, g) in
    sym (subst (λ (x : List ℕ). take n l ++ x ≡ l) k (take-append-drop n l))

one_byte : (b : ℕ) → ltb b 0x80 ≡ true → bytes_of (b ∷ []) ≡ b ∷ []
one_byte b a = bytes_ascii b [] a ∙ rw nothing_bytes

-- between b and b
pub between_texty : (b : ℕ) (t : List ℕ) → ltb b 0x80 ≡ true → Scalars t → Between b (b ∷ bytes_of t) → Texty (take (length (bytes_of t) - 1) (bytes_of t))
between_texty b t a h m =
    let l : List ℕ = bytes_of t in
    let some : 1 ≤ length l = omega (arith, m.0) in
    let i : length (b ∷ l) - 1 ≡ suc (length l - 1) = omega arith in
    let e : get_or l (length l - 1) 0 ≡ b = eqb-true _ b (rw i at m.1) in
    whole_front t h (take (length l - 1) l) (b ∷ []) (last_split l b some e ∙ rw (one_byte b a))
