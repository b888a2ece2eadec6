-- The table of RFC 3629, section 4, line by line: which line a byte is on, and what holds of every line.
use Prim.Native.Nat.{ℕ, zero, suc, ◌-◌, ◌≤◌, ◌<◌}
use native.Mathlib.Omega.{arith}
use mathlib.Core.Path.{◌≡◌}
use mathlib.Core.Bool.{true, false}
use lib.Dec.{T, ltb, leb, leb→le}
use borrow.Author.Tests.{le-leb, lt-leb}
use Rattle.laws.proofs.Choice.{if_is, and_no, within_is}
use Rattle.chars.specs.declared.Step.{Step}
use Rattle.chars.specs.declared.Step.TheVariants as steps
use Rattle.laws.specs.Quoted.{within}
use Rattle.chars.specs.Utf8.{ascii, more, first}

-- ---- ranges

pub within_in : (lo hi b : ℕ) → lo ≤ b → b ≤ hi → within lo hi b ≡ true
unfolding within
within_in lo hi b l h = rw (le-leb lo b l, le-leb b hi h)

pub within_below : (lo hi b : ℕ) → b < lo → within lo hi b ≡ false
unfolding within
within_below lo hi b h = rw (lt-leb lo b h)

pub within_above : (lo hi b : ℕ) → hi < b → within lo hi b ≡ false
unfolding within
within_above lo hi b h = rw (lt-leb b hi h) (and_no (leb lo b))

-- a range of written numbers, from bounds that are written numbers
is_in : (b l m : ℕ) → l ≤ b → b < m → (lo hi : ℕ) → T (leb lo l) → T (leb m (suc hi)) → within lo hi b ≡ true
is_in b l m g h lo hi x y = within_in lo hi b (omega (arith, leb→le lo l x)) (omega (arith, leb→le m (suc hi) y))

is_above : (b l : ℕ) → l ≤ b → (lo hi : ℕ) → T (ltb hi l) → within lo hi b ≡ false
is_above b l g lo hi x = within_above lo hi b (omega (arith, leb→le (suc hi) l x))

is_below : (b m : ℕ) → b < m → (lo hi : ℕ) → T (leb m lo) → within lo hi b ≡ false
is_below b m h lo hi x = within_below lo hi b (omega (arith, leb→le m lo x))

-- ---- the lines, and the gaps between them

module _ (b : ℕ) where
  pub first_ascii : b < 0x80 → first b ≡ steps.Char b
  unfolding first
  first_ascii h = search (is_in b 0 0x80 (omega arith) h)

  pub first_gap : 0x80 ≤ b → b < 0xC2 → first b ≡ steps.Bad
  unfolding first
  first_gap l h = search (is_above b 0x80 l, is_below b 0xC2 h)

  pub first_c2 : 0xC2 ≤ b → b < 0xE0 → first b ≡ more 1 0x80 0xBF (b - 0xC0)
  unfolding first
  first_c2 l h = search (is_above b 0xC2 l, is_in b 0xC2 0xE0 l h)

  pub first_e0 : 0xE0 ≤ b → b < 0xE1 → first b ≡ more 2 0xA0 0xBF (b - 0xE0)
  unfolding first
  first_e0 l h = search (is_above b 0xE0 l, is_in b 0xE0 0xE1 l h)

  pub first_e1 : 0xE1 ≤ b → b < 0xED → first b ≡ more 2 0x80 0xBF (b - 0xE0)
  unfolding first
  first_e1 l h = search (is_above b 0xE1 l, is_in b 0xE1 0xED l h)

  pub first_ed : 0xED ≤ b → b < 0xEE → first b ≡ more 2 0x80 0x9F (b - 0xE0)
  unfolding first
  first_ed l h = search (is_above b 0xED l, is_in b 0xED 0xEE l h)

  pub first_ee : 0xEE ≤ b → b < 0xF0 → first b ≡ more 2 0x80 0xBF (b - 0xE0)
  unfolding first
  first_ee l h = search (is_above b 0xEE l, is_in b 0xEE 0xF0 l h)

  pub first_f0 : 0xF0 ≤ b → b < 0xF1 → first b ≡ more 3 0x90 0xBF (b - 0xF0)
  unfolding first
  first_f0 l h = search (is_above b 0xF0 l, is_in b 0xF0 0xF1 l h)

  pub first_f1 : 0xF1 ≤ b → b < 0xF4 → first b ≡ more 3 0x80 0xBF (b - 0xF0)
  unfolding first
  first_f1 l h = search (is_above b 0xF1 l, is_in b 0xF1 0xF4 l h)

  pub first_f4 : 0xF4 ≤ b → b < 0xF5 → first b ≡ more 3 0x80 0x8F (b - 0xF0)
  unfolding first
  first_f4 l h = search (is_above b 0xF4 l, is_in b 0xF4 0xF5 l h)

  pub first_past : 0xF5 ≤ b → first b ≡ steps.Bad
  unfolding first
  first_past l = search (is_above b 0xF5 l)

-- ---- what holds of every line

-- n bytes are still to come after the code c: it is small enough that they fit
abbrev pub Small : ℕ → ℕ → Type 0
Small zero c = Unit {0}
Small (suc zero) c = c ≤ 0x7FFF
Small (suc (suc zero)) c = c ≤ 0x1FF
Small (suc (suc (suc zero))) c = c ≤ 7
Small (suc (suc (suc (suc n)))) c = ⊥

abbrev pub Wanting : ℕ → ℕ → Type 0
Wanting zero c = ⊥
Wanting (suc n) c = Small (suc n) c

-- a first byte that wants more leaves a small code, and the range of the next byte is not empty
abbrev pub Fine : Step → Type 0
Fine (steps.Char c) = Unit {0}
Fine (steps.More u) = Wanting u.need u.code × (u.low ≤ u.high)
Fine steps.Bad = Unit {0}

pub first_fine : (b : ℕ) → Fine (first b)
unfolding first
first_fine b =
    if_is Fine (ascii b) (λ _. tt) (λ _.
    if_is Fine (within 0xC2 0xDF b) (λ e. let h = within_is 0xC2 0xDF b e in (omega arith, omega arith)) (λ _.
    if_is Fine (within 0xE0 0xE0 b) (λ e. let h = within_is 0xE0 0xE0 b e in (omega arith, omega arith)) (λ _.
    if_is Fine (within 0xE1 0xEC b) (λ e. let h = within_is 0xE1 0xEC b e in (omega arith, omega arith)) (λ _.
    if_is Fine (within 0xED 0xED b) (λ e. let h = within_is 0xED 0xED b e in (omega arith, omega arith)) (λ _.
    if_is Fine (within 0xEE 0xEF b) (λ e. let h = within_is 0xEE 0xEF b e in (omega arith, omega arith)) (λ _.
    if_is Fine (within 0xF0 0xF0 b) (λ e. let h = within_is 0xF0 0xF0 b e in (omega arith, omega arith)) (λ _.
    if_is Fine (within 0xF1 0xF3 b) (λ e. let h = within_is 0xF1 0xF3 b e in (omega arith, omega arith)) (λ _.
    if_is Fine (within 0xF4 0xF4 b) (λ e. let h = within_is 0xF4 0xF4 b e in (omega arith, omega arith)) (λ _. tt)))))))))
