-- Parts of texts that are put together.
use Prim.Native.Nat.{ℕ, ◌+◌, ◌-◌, ◌≤◌}
use mathlib.Core.Path.{◌≡◌, ap, ◌∙◌}
use mathlib.Core.List.{List, ◌++◌}
use lib.ListN.{length, take, drop, length-drop}
use lib.Seq.{take-append-le, drop-append-le, drop-append-add, take_all}
use native.Mathlib.Omega.{arith}
use native.Mathlib.Nat.{le_refl}
use Rattle.items_writing.specs.Written.{part}

-- a part that lies in the middle of three texts
pub part_in : (pre raw post : List ℕ) (a b : ℕ) → length pre ≤ a → a ≤ b → b ≤ length pre + length raw
    → part a b (pre ++ (raw ++ post)) ≡ take (b - a) (drop (a - length pre) raw)
part_in pre raw post a b h g f =
    let k : ℕ = a - length pre in
    let e : a ≡ length pre + k = omega arith in
    let n : ℕ = b - a in
    let i : k ≤ length raw = omega arith in
    let j : n ≤ length (drop k raw) = omega (arith, length-drop k raw) in
    ap (λ (m : ℕ). take n (drop m (pre ++ (raw ++ post)))) e
    ∙ (ap (λ (l : List ℕ). take n l) (drop-append-add pre (raw ++ post) k ∙ drop-append-le k raw post i)
    ∙ take-append-le n (drop k raw) post j)

-- all of the middle
pub part_all : (pre raw post : List ℕ) → part (length pre) (length pre + length raw) (pre ++ (raw ++ post)) ≡ raw
part_all pre raw post =
    let e : length pre + length raw - length pre ≡ length raw = omega arith in
    let f : length pre - length pre ≡ 0 = omega arith in
    part_in pre raw post (length pre) (length pre + length raw) (le_refl _) (omega arith) (le_refl _)
    ∙ rw (e, f) (take_all (length raw) raw (le_refl _))
