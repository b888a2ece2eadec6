-- Lent memory that is written from its start on, one store or one lent part after the other.
use mathlib.Core.Path.{◌≡◌, refl, ◌∙◌}
use mathlib.Core.List.{List, [], ◌∷◌, ◌++◌, append_assoc, append-nil}
use Prim.Native.Nat.{ℕ, suc, ◌-◌, ◌≤◌, ◌<◌}
use native.Mathlib.Numerals.{add-one}
use native.Mathlib.Omega.{arith}
use lib.ListN.{length, take, drop, set, length-append, length-drop, drop_of_length-le}
use lib.Seq.{drop-cons, set_at, take_at, drop_at, drop-drop, take_all}
use borrow.Rule.Slice.PartMut.{put_mid}
use Rattle.laws.specs.Lent.{written}

pub length-written : (w old : List ℕ) → length w ≤ length old → length (written w old) ≡ length old
length-written w old h = simp (length-append, length-drop) (omega arith)

-- one more, stored at the first free place
pub written_push : (w old : List ℕ) (x : ℕ) → length w < length old → set (written w old) (length w) x ≡ written (w ++ (x ∷ [])) old
written_push w old x h =
    rw (drop-cons old (length w) 0)
    (set_at w _ (drop (suc (length w)) old) x (length w) refl
    ∙ rw (length-append w, add-one, append_assoc w))

-- a part lent from the first free place on, and written from its start on
pub written_more : (w v old : List ℕ) → take (length w) (written w old) ++ written v (drop (length w) (written w old)) ≡ written (w ++ v) old
written_more w v old =
    rw (
      take_at w (drop (length w) old) (length w) refl,
      drop_at w (drop (length w) old) (length w) refl,
      drop-drop (length v) (length w) old,
      length-append w v,
      append_assoc w v,
    )

-- a part lent from a place to the end is the rest
pub part_rest : (l : List ℕ) (a : ℕ) → take (length l - a) (drop a l) ≡ drop a l
part_rest l a = take_all (length l - a) (drop a l) (omega (arith, length-drop a l))

pub length_part : (l : List ℕ) (a : ℕ) → length (take (length l - a) (drop a l)) ≡ length l - a
length_part l a = rw (part_rest l a, length-drop a l)

-- `&mut now[a..]`, lent to a callee that writes v from its start on
pub part_written : (u v old : List ℕ) {now : List ℕ} {a : ℕ} {last : List ℕ} → now ≡ written u old → length u ≡ a → length u ≤ length old
    → last ≡ written v (take (length now - a) (drop a now)) → put_mid a (length now - a) now last ≡ written (u ++ v) old
part_written u v old {now} {a} {last} e h fit w =
    let past : length (drop a now) ≤ length now - a = omega (arith, length-drop a now) in
    rw (w, part_rest now a, drop_of_length-le (drop a now) past, append-nil (written v (drop a now)), e, ← h) (written_more u v old)
