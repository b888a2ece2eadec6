-- The blocks of a line copied one after the other.
use Prim.Native.Nat.{ℕ, ◌+◌, ◌-◌, ◌≤◌, ◌<◌}
use native.Mathlib.Omega.{arith}
use mathlib.Core.Path.{◌≡◌, sym, ap, ◌∙◌}
use mathlib.Core.List.{List, ◌++◌, append-nil}
use lib.Dec.{eqb}
use lib.ListN.{length, take, drop, length-take, take-append-drop, drop_of_length-le}
use lib.Seq.{length-take-le, take-append-le, take-take, drop-append-add, drop-drop, take-add}
use borrow.Author.Tests.{eqb-true, eqb-false}
use Rattle.laws.proofs.Choice.{by_bool}
use borrow.Rule.Slice.PartMut.{put_mid}
use Rattle.laws.specs.Lent.{written}
use Rattle.laws.proofs.Lent.{length-written, part_rest, part_written}
use Rattle.laws.specs.Texts.{span}
use Rattle.laws.proofs.Runs.{span_le}
use Rattle.byte_runs.specs.Runs.{block}
use Rattle.pieces_spots.specs.Lines.{of_line, CopiedBlocks}

-- the block at k is copied, where i bytes were, some of them perhaps of the block too
module _ (raw old : List ℕ) (i k : ℕ) {now : List ℕ} (fit : length raw ≤ length old) (inside : k + block ≤ length raw) (h : k ≤ i) (l : i ≤ k + block)
    (e : now ≡ written (take i raw) old) where
  size : length (take i raw) ≡ i
  size = length-take-le i raw (omega arith)

  less : length (take k raw) ≡ k
  less = length-take-le k raw (omega arith)

  as_large : length now ≡ length old
  as_large = ap length e ∙ length-written (take i raw) old (omega (arith, size))

  front : take k now ≡ take k raw
  front =
      ap (λ (x : List ℕ). take k x) e
      ∙ take-append-le k (take i raw) (drop (length (take i raw)) old) (omega (arith, size))
      ∙ take-take k i raw h

  as_written : now ≡ written (take k raw) now
  as_written =
      sym (take-append-drop k now)
      ∙ ap (λ (x : List ℕ). x ++ drop k now) front
      ∙ ap (λ (j : ℕ). take k raw ++ drop j now) (sym less)

  rest : drop (k + block) now ≡ drop (k + block) old
  rest =
      let m : length (take i raw) + (k + block - i) ≡ k + block = omega (arith, size) in
      ap (λ (x : List ℕ). drop (k + block) x) e
      ∙ ap (λ (j : ℕ). drop j (written (take i raw) old)) (sym m)
      ∙ drop-append-add (take i raw) (drop (length (take i raw)) old) (k + block - i)
      ∙ drop-drop (k + block - i) (length (take i raw)) old
      ∙ ap (λ (j : ℕ). drop j old) m

  pub block_over : {last : List ℕ} → last ≡ written (take block (take (length raw - k) (drop k raw))) (take (length now - k) (drop k now))
      → put_mid k (length now - k) now last ≡ written (take (k + block) raw) old
  block_over {last} w =
      let v : take block (take (length raw - k) (drop k raw)) ≡ take block (drop k raw) = ap (λ (x : List ℕ). take block x) (part_rest raw k) in
      let both : take k raw ++ take block (drop k raw) ≡ take (k + block) raw = sym (take-add k block raw) in
      let all : length (take (k + block) raw) ≡ k + block = length-take-le (k + block) raw inside in
      part_written (take k raw) (take block (drop k raw)) now as_written less (omega (arith, less, as_large))
      (w ∙ ap (λ (x : List ℕ). written x (take (length now - k) (drop k now))) v)
      ∙ ap (λ (x : List ℕ). written x now) both
      ∙ ap (λ (j : ℕ). take (k + block) raw ++ drop j now) all
      ∙ ap (λ (x : List ℕ). take (k + block) raw ++ x) rest
      ∙ ap (λ (j : ℕ). take (k + block) raw ++ drop j old) (sym all)

-- a memory of one block takes the whole of it
pub through_block : (raw old now : List ℕ) → now ≡ written (take block raw) old → length old ≡ block → block ≤ length raw → now ≡ take block raw
through_block raw old now e k l =
    let n : length (take block raw) ≡ block = length-take-le block raw l in
    let past : length old ≤ length (take block raw) = omega (arith, n, k) in
    e ∙ ap (λ (x : List ℕ). take block raw ++ x) (drop_of_length-le old past) ∙ append-nil (take block raw)

-- a line whose blocks are copied, and the place past it
module _ (raw old : List ℕ) {now : List ℕ} {i n : ℕ} (fit : length raw ≤ length old) (C : CopiedBlocks raw old now i) (few : span of_line (drop i raw) < block)
    (e : n ≡ i + span of_line (drop i raw)) where
  pub line_count : n ≡ span of_line raw
  line_count = e ∙ C.run

  pub line_inside : n ≤ length raw
  line_inside = omega (arith, line_count, span_le of_line raw)

  pub line_now : length now ≡ length old
  line_now = ap length C.wrote ∙ length-written (take i raw) old (omega (arith, fit, length-take i raw))

  pub line_fits : length (take n raw) ≤ length now
  line_fits = omega (arith, line_now, fit, length-take n raw)

  -- of less than a block nothing was copied
  none : n < block → i ≡ 0
  none h = by_bool (eqb i 0) (λ z. eqb-true i 0 z) (λ z. absurd (omega (arith, h, e, C.whole (omega (arith, eqb-false i 0 z)))))

  pub line_short : n < block → {last : List ℕ} → last ≡ written (take n raw) now → last ≡ written (take n raw) old
  line_short h w =
      let same : now ≡ old = C.wrote ∙ ap (λ (j : ℕ). written (take j raw) old) (none h) in
      w ∙ ap (λ (x : List ℕ). written (take n raw) x) same

  pub line_long : block ≤ n → {last : List ℕ}
      → last ≡ written (take block (take (length raw - (n - block)) (drop (n - block) raw))) (take (length now - (n - block)) (drop (n - block) now))
      → put_mid (n - block) (length now - (n - block)) now last ≡ written (take n raw) old
  line_long h w =
      let sum : n - block + block ≡ n = omega arith in
      block_over raw old i (n - block) fit (omega (arith, line_inside)) (omega (arith, few, e)) (omega (arith, e)) C.wrote w
      ∙ ap (λ (j : ℕ). written (take j raw) old) sum
