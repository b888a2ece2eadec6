-- The bytes of a character laid into the buffer one by one, and those of a run at once.
use Prim.Native.Nat.{ℕ, suc, ◌+◌, ◌-◌, ◌/◌, ◌%◌, ◌≤◌, ◌<◌}
use mathlib.Core.Path.{◌≡◌, sym, ap, ◌∙◌}
use mathlib.Core.List.{List, ◌++◌, append_assoc, append-nil}
use lib.ListN.{length, take, drop, set, length-drop, drop_of_length-le}
use lib.Seq.{sets, sets-eq, drop-drop}
use native.Mathlib.Omega.{arith}
use native.Mathlib.Numerals.{add-one}
use borrow.Rule.Slice.PartMut.{put_mid}
use Rattle.laws.specs.Lent.{written}
use Rattle.laws.proofs.Lent.{part_rest}
use Rattle.chars.specs.Encode.{width, utf8, one, two, three, four}
use Rattle.chars.proofs.Width.{utf8-one, utf8-two, utf8-three, utf8-four, width-utf8}
use Rattle.pieces.specs.Calls.{laid_at}

pub laid_sets : (n : ℕ) (w buf : List ℕ) → n + length w ≤ length buf → sets buf n w ≡ laid_at n w buf
laid_sets n w buf h =
    sets-eq w buf n h ∙ append_assoc (take n buf) w (drop (n + length w) buf)
    ∙ ap (λ (l : List ℕ). take n buf ++ (w ++ l)) (sym (drop-drop (length w) n buf))

-- `&mut buf[n..]`, lent to a callee that writes w from its start on
pub part_laid : (n : ℕ) (w buf : List ℕ) {last : List ℕ} → last ≡ written w (take (length buf - n) (drop n buf)) → put_mid n (length buf - n) buf last ≡ laid_at n w buf
part_laid n w buf e =
    let past : length (drop n buf) ≤ length buf - n = omega (arith, length-drop n buf) in
    rw (e, part_rest buf n, drop_of_length-le (drop n buf) past, append-nil (written w (drop n buf)))

module _ (buf : List ℕ) (n c : ℕ) (room : n + width c ≤ length buf) where
  laid_as : (w : List ℕ) → utf8 c ≡ w → sets buf n w ≡ laid_at n (utf8 c) buf
  laid_as w e = rw e (laid_sets n w buf (omega (arith, room, width-utf8 c, ap length e)))

  pub laid_one : c < 0x80 → set buf n c ≡ laid_at n (utf8 c) buf
  laid_one h = laid_as (one c) (utf8-one c h)

  module _ (x y : ℕ) (f : x ≡ 0xC0 + c / 64) (g : y ≡ 0x80 + c % 64) where
    pub laid_two : 0x80 ≤ c → c < 0x800 → set (set buf n x) (n + 1) y ≡ laid_at n (utf8 c) buf
    laid_two l h = rw (add-one n, f, g) (laid_as (two c) (utf8-two c l h))

  module _ (x y z : ℕ) (f : x ≡ 0xE0 + c / 4096) (g : y ≡ 0x80 + c / 64 % 64) (k : z ≡ 0x80 + c % 64) where
    pub laid_three : 0x800 ≤ c → c < 0x10000 → set (set (set buf n x) (n + 1) y) (n + 2) z ≡ laid_at n (utf8 c) buf
    laid_three l h =
        let e : n + 2 ≡ suc (suc n) = omega arith in
        rw (e, add-one n, f, g, k) (laid_as (three c) (utf8-three c l h))

  module _ (x y z u : ℕ) (f : x ≡ 0xF0 + c / 262144) (g : y ≡ 0x80 + c / 4096 % 64) (k : z ≡ 0x80 + c / 64 % 64) (j : u ≡ 0x80 + c % 64) where
    pub laid_four : 0x10000 ≤ c → set (set (set (set buf n x) (n + 1) y) (n + 2) z) (n + 3) u ≡ laid_at n (utf8 c) buf
    laid_four l =
        let e : n + 2 ≡ suc (suc n) = omega arith in
        let d : n + 3 ≡ suc (suc (suc n)) = omega arith in
        rw (d, e, add-one n, f, g, k, j) (laid_as (four c) (utf8-four c l))
