-- Counting and scanning, a byte more.
use Prim.Native.Nat.{ℕ, zero, suc, ◌+◌, ◌-◌, ◌≤◌, ◌<◌}
use mathlib.Core.Bool.{true, false}
use mathlib.Core.List.{List, ◌++◌}
use mathlib.Core.Path.{◌≡◌, refl}
use native.Mathlib.Numerals.{add-one, sub-one}
use native.Mathlib.Omega.{arith}
use borrow.Author.Tests.{eq-eqb, ne_eqb}
use lib.ListN.{get_or, replicate}
use Rattle.laws.specs.Quoted.{within}
use Rattle.findings_render_parts.specs.declared.Seen.{Seen}
use Rattle.findings_render_parts.specs.Spots.{newline, count_in, start_of}
use Rattle.findings_render_parts.specs.Shown.{is_copied, columns, under_one, is_nil}

module _ (low high : ℕ) (s : List ℕ) (from n : ℕ) where
  pub count_hit : within low high (get_or s (from + n) 0) ≡ true → count_in low high s from (n + 1) ≡ count_in low high s from n + 1
  unfolding count_in
  count_hit e = rw (add-one n, e)

  pub count_miss : within low high (get_or s (from + n) 0) ≡ false → count_in low high s from (n + 1) ≡ count_in low high s from n
  unfolding count_in
  count_miss e = rw (add-one n, e) (omega arith)

module _ (s : List ℕ) where
  pub start_here : (i : ℕ) → 0 < i → get_or s (i - 1) 0 ≡ newline → start_of s i ≡ i
  unfolding start_of
  start_here zero h e = absurd (omega arith)
  start_here (suc i) h e = rw (eq-eqb (get_or s i 0) newline (rw (sub-one (suc i)) at e))

  pub start_back : (i : ℕ) → 0 < i → (get_or s (i - 1) 0 ≡ newline → ⊥) → start_of s i ≡ start_of s (i - 1)
  unfolding start_of
  start_back zero h d = absurd (omega arith)
  start_back (suc i) h d = rw (sub-one (suc i)) (rw (ne_eqb (get_or s i 0) newline (rw (sub-one (suc i)) at d)))

  pub start_none : (i : ℕ) → i ≤ 0 → start_of s i ≡ 0
  unfolding start_of
  start_none zero h = refl
  start_none (suc i) h = absurd (omega arith)

-- ---- columns under a text

module _ (u : Seen) (t rest : List ℕ) where
  pub flat_on : columns u ≤ 0 → is_nil (under_one 94 u t ++ rest) ≡ is_nil rest
  unfolding under_one is_copied is_nil
  flat_on h = let e : columns u ≡ 0 = omega arith in rw e

  more : (n : ℕ) → 0 < n → is_nil (replicate n 94 ++ rest) ≡ false
  unfolding is_nil
  more zero h = absurd (omega arith)
  more (suc n) h = refl

  pub flat_not : 0 < columns u → is_nil (under_one 94 u t ++ rest) ≡ false
  unfolding under_one is_copied
  flat_not h = more (columns u) h
