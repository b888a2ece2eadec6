-- The list of the blanks, row by row and by ranges: what its rows from one on say, and which characters below U+2000 it has.
use Prim.Native.Nat.{ℕ, zero, suc, ◌+◌, ◌-◌, ◌≤◌, ◌<◌}
use native.Mathlib.Omega.{arith}
use mathlib.Core.Path.{◌≡◌, refl, sym, ap, ◌∙◌}
use mathlib.Core.Bool.{Bool, true, false, ◌&&◌}
use lib.Dec.{T, leb, eqb, ltb, leb→le}
use borrow.Author.Tests.{eq-eqb, ne_eqb, eqb-true, eqb-false}
use lib.ListN.{get_or, drop}
use Rattle.laws.specs.Quoted.{one_of}
use Rattle.laws.proofs.Choice.{by_bool, impossible}
use Rattle.laws.proofs.Places.{past, here}
use Rattle.chars.specs.Blank.{blanks, is_blank}

-- whether the test f passes on each number below n
abbrev passes : ℕ → (ℕ → Bool) → Bool
passes zero f = true
passes (suc n) f = f n && passes n f

passes_at : (n : ℕ) (f : ℕ → Bool) → passes n f ≡ true → (k : ℕ) → k < n → f k ≡ true
passes_at zero f e k h = absurd (omega arith)
passes_at (suc n) f e k h = go (f n) refl (λ p j. passes_at n f p k j) e
  where
    go : (x : Bool) → f n ≡ x → (passes n f ≡ true → k < n → f k ≡ true) → (x && passes n f) ≡ true → f k ≡ true
    go false y ih p = impossible cc
    go true y ih p = by_bool (eqb k n) (λ q. ap f (eqb-true k n q) ∙ y) (λ q. let d = eqb-false k n q in ih p (omega arith))

-- ---- the table, row by row: what the rows from one on say

module _ (c row : ℕ) where
  pub listed_here : row < 25 → get_or blanks row 0 ≡ c → one_of (drop row blanks) c ≡ true
  listed_here h e = rw (here blanks row h, eq-eqb c (get_or blanks row 0) (sym e))

  pub listed_later : row < 25 → (get_or blanks row 0 ≡ c → ⊥) → one_of (drop row blanks) c ≡ one_of (drop (row + 1) blanks) c
  listed_later h d = rw (here blanks row h, ne_eqb c (get_or blanks row 0) (λ e. d (sym e)))

  pub listed_never : 25 ≤ row → one_of (drop row blanks) c ≡ false
  listed_never h = rw (past blanks row h)

-- ---- the first run

pub low_run : (c : ℕ) → 0x09 ≤ c → c ≤ 0x0D → is_blank c ≡ true
unfolding is_blank
low_run c l h =
    let e : c ≡ 0x09 + (c - 0x09) = omega arith in
    ap is_blank e ∙ passes_at 5 (λ k. is_blank (0x09 + k)) refl (c - 0x09) (omega arith)

-- ---- what lies between it and U+2000, none of the single ones

is_above : (c l : ℕ) → l ≤ c → (k : ℕ) → T (ltb k l) → eqb c k ≡ false
is_above c l h k t = ne_eqb c k (λ e. omega (arith, leb→le (suc k) l t))

is_below : (c m : ℕ) → c < m → (k : ℕ) → T (leb m k) → eqb c k ≡ false
is_below c m h k t = ne_eqb c k (λ e. omega (arith, leb→le m k t))

pub between_blanks : (c : ℕ) → 0x0D < c → c < 0x2000 → (c ≡ 0x20 → ⊥) → (c ≡ 0x85 → ⊥) → (c ≡ 0xA0 → ⊥) → (c ≡ 0x1680 → ⊥) → is_blank c ≡ false
unfolding is_blank
between_blanks c l h d1 d2 d3 d4 =
    search (is_above c 0x0E l, ne_eqb c 0x20 d1, ne_eqb c 0x85 d2, ne_eqb c 0xA0 d3, ne_eqb c 0x1680 d4, is_below c 0x2000 h)

-- ---- past the last of them

pub past_blanks : (c : ℕ) → 0x3000 < c → is_blank c ≡ false
unfolding is_blank
past_blanks c l = search (is_above c 0x3001 l)
