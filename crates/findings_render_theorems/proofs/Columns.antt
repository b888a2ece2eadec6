-- The column that is rendered of a place counts the bytes before it in its line that do not continue a character: one for each character that
-- the question passes.
use Prim.Native.Nat.{ℕ, zero, suc, ◌+◌, ◌-◌, ◌≤◌, ◌<◌}
use mathlib.Core.Path.{◌≡◌, refl, sym, ap, subst, ◌∙◌}
use mathlib.Core.List.{List}
use lib.ListN.{length, get_or, take, drop}
use lib.Seq.{drop-drop}
use lib.Dec.{ltb}
use native.Mathlib.Omega.{arith}
use borrow.Author.Tests.{lt-leb, lt-ltb, le-ltb}
use Rattle.std.specs.Prelude.{if◌then◌else◌, None, Some}
use Rattle.laws.proofs.Choice.{impossible}
use Rattle.laws.proofs.Places.{here}
use Rattle.chars.specs.Utf8.{Front, char, bad, cut, none, front, sequences}
use Rattle.chars.proofs.Sequences.{char_some, not_none, sequences-char, sequences-bad, sequences-cut}
use Rattle.chars.proofs.Spells.{Spells, spells}
use Rattle.chars.proofs.Chars.{char-width}
use Rattle.lines.specs.Place.{column}
use Rattle.lines.proofs.Columns.{column_done}
use Rattle.lines.proofs.Tests.{by_less}
use Rattle.findings_render_parts.specs.Spots.{count_in}
use Rattle.findings_render_theorems.proofs.Counts.{tally, count_parts, tails_char}

module _ (s : List ℕ) (p : ℕ) (inside : p ≤ length s) where
  -- how many bytes from a place to p continue a character
  abbrev tailed : ℕ → ℕ
  tailed at = count_in 0x80 0xBF s at (p - at)

  -- from the place `at` on, with m counted, the column r of p
  abbrev Counting : ℕ → Type 0
  Counting n = (at m r : ℕ) → length s ≤ at + n → at ≤ p → column p m (sequences 0 at (drop at s)) ≡ Some r → r + tailed at ≡ m + (p - at)

  there : (at m r : ℕ) → at ≡ p → column p m (sequences 0 at (drop at s)) ≡ Some r → r + tailed at ≡ m + (p - at)
  unfolding count_in
  there at m r h e =
      let f : Some m ≡ Some r = sym (column_done p m at (drop at s) (omega arith)) ∙ e in
      let z : m ≡ r = cc in
      let n : p - at ≡ 0 = omega arith in
      let none_left : tailed at ≡ 0 = ap (count_in 0x80 0xBF s at) n in
      omega arith

  -- a character of w bytes that ends at p or before it
  passed_char : (at c w : ℕ) → Spells (drop at s) (char c w) → at + w ≤ p → tailed at + 1 ≡ w + tailed (at + w)
  passed_char at c w k h =
      let n : p - at ≡ w + (p - (at + w)) = omega arith in
      let parts : tailed at ≡ tally 0x80 0xBF (take w (drop at s)) + tailed (at + w) =
      ap (count_in 0x80 0xBF s at) n ∙ count_parts 0x80 0xBF s at w (p - (at + w)) (omega arith) in
      let one : tally 0x80 0xBF (take w (drop at s)) + 1 ≡ w = ap (λ (l : List ℕ). tally 0x80 0xBF l + 1) k.0 ∙ tails_char c ∙ sym (char-width (drop at s) c w k) in
      omega arith

  past : (n at m r : ℕ) → Counting n → length s ≤ at + suc n → at < p → column p m (sequences 0 at (drop at s)) ≡ Some r → r + tailed at ≡ m + (p - at)
  unfolding column
  past n at m r ih h a e = go (front (drop at s)) refl
    where
      go : (F : Front) → front (drop at s) ≡ F → r + tailed at ≡ m + (p - at)
      go (char c w) f =
          let k : Spells (drop at s) (char c w) = subst (Spells (drop at s)) f (spells (drop at s)) in
          let some : 1 ≤ w = char_some (drop at s) c w f in
          let shape : column p m (sequences 0 at (drop at s)) ≡ (if ltb p (at + w) then None else column p (m + 1) (sequences 0 (at + w) (drop w (drop at s)))) =
          rw (sequences-char at (drop at s) c w f, lt-leb p at a) in
          by_less p (at + w)
          (λ l. let x : None ≡ Some r = sym (shape ∙ rw (lt-ltb p (at + w) l)) ∙ e in impossible cc)
          (λ l.
          let x : column p (m + 1) (sequences 0 (at + w) (drop w (drop at s))) ≡ Some r = sym (shape ∙ rw (le-ltb p (at + w) l)) ∙ e in
          let on : r + tailed (at + w) ≡ m + 1 + (p - (at + w)) =
          ih (at + w) (m + 1) r (omega arith) l (sym (ap (λ (t : List ℕ). column p (m + 1) (sequences 0 (at + w) t)) (drop-drop w at s)) ∙ x) in
          omega (arith, on, passed_char at c w k l))
      go (bad k) f =
          let x : None ≡ Some r = sym (rw (sequences-bad at (drop at s) k f, lt-leb p at a)) ∙ e in
          impossible cc
      go cut f =
          let x : None ≡ Some r = sym (rw (sequences-cut at (drop at s) f, lt-leb p at a)) ∙ e in
          impossible cc
      go none f = absurd (not_none (get_or s at 0) (drop (at + 1) s) (sym (ap front (here s at (omega arith))) ∙ f))

  turn : (n : ℕ) → Counting n → Counting (suc n)
  turn n ih at m r h a e = by_less at p (λ k. past n at m r ih h k e) (λ k. there at m r (omega arith) e)

  none_left : Counting zero
  none_left at m r h a e = there at m r (omega arith) e

  counting : (n : ℕ) → Counting n
  counting zero = none_left
  counting (suc n) = turn n (counting n)

  pub column_count : (at m r : ℕ) → at ≤ p → column p m (sequences 0 at (drop at s)) ≡ Some r → r + tailed at ≡ m + (p - at)
  column_count at m r h e = counting (length s) at m r (omega arith) h e
