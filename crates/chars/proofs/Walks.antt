-- A run of ASCII before a place is a walk to its end.
use Prim.Native.Nat.{ℕ, zero, suc, ◌+◌, ◌≤◌, ◌<◌}
use native.Mathlib.Omega.{arith}
use mathlib.Core.Path.{◌≡◌, sym, ap, subst, ◌∙◌}
use mathlib.Core.List.{List}
use mathlib.Core.Bool.{true}
use lib.Dec.{ltb}
use lib.ListN.{length, get_or, take, drop, length-drop}
use lib.Seq.{length-take-le, get_or-take}
use borrow.Author.Tests.{ltb-true}
use Rattle.laws.specs.Texts.{span}
use Rattle.laws.proofs.Choice.{by_bool, and_true}
use Rattle.laws.proofs.Places.{here}
use Rattle.laws.proofs.Runs.{span_le, span_hit, span_stop}
use Rattle.byte_runs.specs.Runs.{plain}
use Rattle.chars.specs.Utf8.{front}
use Rattle.chars.specs.Walk.{Walk, goes}
use Rattle.chars.proofs.Round.{one_read}

module _ (s : List ℕ) (until from : ℕ) (fits : until ≤ length s) where
  abbrev small : ℕ → ℕ
  small i = span (plain 0x80 0x80) (drop i (take until s))

  -- a byte of ASCII is a character
  walk_one : (i : ℕ) → i < until → plain 0x80 0x80 (get_or (take until s) i 0) ≡ true → Walk s until from i → Walk s until from (i + 1)
  walk_one i h e w =
      let b = get_or s i 0 in
      let low = ltb-true b 0x80 (ap (λ (x : ℕ). ltb x 0x80) (sym (get_or-take until s i 0 h)) ∙ (and_true _ _ e).0) in
      goes {m = i} {n = 1} {c = b} w h (ap front (here s i (omega arith)) ∙ one_read b (drop (i + 1) s) low)

  walk_some : (n i : ℕ) → n ≤ small i → Walk s until from i → Walk s until from (i + n)
  walk_some zero i k w = let e : i ≡ i + 0 = omega arith in subst (Walk s until from) e w
  walk_some (suc n) i k w =
      let long = length-take-le until s fits in
      let inside : i < until = omega (arith, span_le (plain 0x80 0x80) (drop i (take until s)), length-drop i (take until s), long) in
      by_bool (plain 0x80 0x80 (get_or (take until s) i 0))
      (λ e. let on = span_hit (plain 0x80 0x80) (take until s) i (omega (arith, long)) e in
      let j : i + 1 + n ≡ i + suc n = omega arith in
      subst (Walk s until from) j (walk_some n (i + 1) (omega (arith, on)) (walk_one i inside e w)))
      (λ e. absurd (omega (arith, span_stop (plain 0x80 0x80) (take until s) i (omega (arith, long)) e)))

  pub walk_plain : (i j : ℕ) → Walk s until from i → j ≡ i + small i → Walk s until from j
  walk_plain i j w e = subst (Walk s until from) (sym e) (walk_some (small i) i (omega arith) w)
