-- Memory that groups were laid into, one number after the other.
use mathlib.Core.Path.{◌≡◌, refl, sym, ap, ◌∙◌}
use mathlib.Core.List.{List, [], ◌∷◌, ◌++◌, append_assoc, append-nil}
use Prim.Native.Nat.{ℕ, ◌+◌, ◌-◌, ◌*◌, ◌≤◌, ◌<◌}
use native.Mathlib.Omega.{arith}
use lib.ListN.{length, get_or, take, drop, length-append}
use borrow.Rule.Slice.PartMut.{put_mid}
use Rattle.laws.specs.Lent.{written}
use Rattle.laws.proofs.Lent.{length-written, part_written}
use Rattle.laws.proofs.Places.{past, here}
use Rattle.items_files.specs.Groups.{image, images}
use Rattle.items_files.proofs.Groups.{groups_few}

pub record Laid (done old out : List ℕ) (at : ℕ) : Type 0 where
  pub count : length done ≡ at
  pub lies : out ≡ written done old

pub laid_start : (old : List ℕ) → Laid [] old old 0
laid_start old = record { count = refl; lies = refl }

module _ {done old out : List ℕ} {at : ℕ} (fits : length done ≤ length old) (g : Laid done old out at) where
  pub laid_length : length out ≡ length old
  laid_length = ap length g.lies ∙ length-written done old fits

  pub laid_more : (more : List ℕ) {count : ℕ} {last : List ℕ} → count ≡ length more → last ≡ written more (take (length out - at) (drop at out))
      → Laid (done ++ more) old (put_mid at (length out - at) out last) (at + count)
  laid_more more e w = record {
    count = length-append done more ∙ rw (g.count, e);
    lies = part_written done more old g.lies g.count fits w;
  }

pub images_few : (ns : List ℕ) → length (images ns) ≤ 5 * length ns
images_few [] = omega arith
images_few (n ∷ ns) = omega (arith, length-append (image n) (images ns), groups_few 4 n, images_few ns)

-- ---- numbers one by one: those before place k are passed

pub record Counting (ns : List ℕ) (total k : ℕ) : Type 0 where
  pub few : total ≤ 5 * k
  pub inside : k ≤ length ns
  pub sum : length (images ns) ≡ total + length (images (drop k ns))

pub counting_start : (ns : List ℕ) → Counting ns 0 0
counting_start ns = record { few = omega arith; inside = omega arith; sum = omega arith }

images_at : (ns : List ℕ) (k : ℕ) → k < length ns → images (drop k ns) ≡ image (get_or ns k 0) ++ images (drop (k + 1) ns)
images_at ns k h = ap images (here ns k h)

pub counting_turn : (ns : List ℕ) {total k count : ℕ} → Counting ns total k → k < length ns → count ≡ length (image (get_or ns k 0)) → Counting ns (total + count) (k + 1)
counting_turn ns {total} {k} {count} g h e = record {
  few = omega (arith, g.few, e, groups_few 4 (get_or ns k 0));
  inside = omega arith;
  sum = omega (arith, g.sum, e, ap length (images_at ns k h), length-append (image (get_or ns k 0)) (images (drop (k + 1) ns)));
}

pub counting_end : (ns : List ℕ) {total k : ℕ} → Counting ns total k → length ns ≤ k → total ≡ length (images ns)
counting_end ns {total} {k} g h = omega (arith, g.sum, ap (λ (l : List ℕ). length (images l)) (past ns k h))

pub record Laying (ns old out : List ℕ) (at k : ℕ) : Type 0 where
  pub done : List ℕ
  pub inside : k ≤ length ns
  pub whole : images ns ≡ done ++ images (drop k ns)
  pub laid : Laid done old out at

pub laying_start : (ns old : List ℕ) → Laying ns old old 0 0
laying_start ns old = record { done = []; inside = omega arith; whole = refl; laid = laid_start old }

module _ (ns : List ℕ) {old out : List ℕ} {at k : ℕ} (fits : length (images ns) ≤ length old) (g : Laying ns old out at k) where
  sized : length (images ns) ≡ at + length (images (drop k ns))
  sized = ap length g.whole ∙ length-append g.done (images (drop k ns)) ∙ rw g.laid.count

  fits_done : length g.done ≤ length old
  fits_done = omega (arith, sized, g.laid.count)

  pub laying_length : length out ≡ length old
  laying_length = laid_length fits_done g.laid

  pub laying_end : length ns ≤ k → (at ≡ length (images ns)) × (out ≡ written (images ns) old)
  laying_end h =
      let e : images ns ≡ g.done = g.whole ∙ ap (λ (l : List ℕ). g.done ++ images l) (past ns k h) ∙ append-nil g.done in
      (sym (ap length e ∙ g.laid.count), g.laid.lies ∙ ap (λ (l : List ℕ). written l old) (sym e))

  module _ (h : k < length ns) where
    pub laying_room : at + length (image (get_or ns k 0)) ≤ length out
    laying_room =
        omega (arith, fits, sized, laying_length, ap length (images_at ns k h), length-append (image (get_or ns k 0)) (images (drop (k + 1) ns)))

    pub laying_turn : {count : ℕ} {last : List ℕ} → count ≡ length (image (get_or ns k 0))
        → last ≡ written (image (get_or ns k 0)) (take (length out - at) (drop at out))
        → Laying ns old (put_mid at (length out - at) out last) (at + count) (k + 1)
    laying_turn e w = record {
      done = g.done ++ image (get_or ns k 0);
      inside = omega arith;
      whole = g.whole ∙ ap (λ (l : List ℕ). g.done ++ l) (images_at ns k h) ∙ sym (append_assoc g.done (image (get_or ns k 0)) (images (drop (k + 1) ns)));
      laid = laid_more fits_done g.laid (image (get_or ns k 0)) e w;
    }
