-- Where a line starts, and what stands first on it, one byte on and one byte back.
use Prim.Native.Nat.{ℕ, zero, suc, ◌+◌, ◌-◌, ◌≤◌, ◌<◌}
use mathlib.Core.Path.{◌≡◌, sym, ap, ◌∙◌}
use mathlib.Core.Bool.{true, false}
use mathlib.Core.List.{List}
use native.Mathlib.Omega.{arith}
use native.Mathlib.Numerals.{add-one}
use borrow.Author.Tests.{eq-eqb, ne_eqb}
use Rattle.laws.specs.Quoted.{code}
use Rattle.laws.proofs.Choice.{if_all}
use Rattle.findings.specs.Rows.{byte_at}
use Rattle.findings.specs.Lines.{is_newline, is_space, line_start, first_on_line}

module _ (s : List ℕ) (i : ℕ) {b : ℕ} (e : b ≡ byte_at s i) where
  -- a newline starts a line behind it
  pub line_next : b ≡ code "\n" → line_start s (i + 1) ≡ i + 1
  unfolding line_start
  line_next h = rw add-one (rw (eq-eqb (byte_at s i) (code "\n") (sym e ∙ h)))

  pub line_same : (b ≡ code "\n" → ⊥) → line_start s (i + 1) ≡ line_start s i
  unfolding line_start
  line_same h = rw add-one (rw (ne_eqb (byte_at s i) (code "\n") (λ k. h (e ∙ k))))

-- a line starts at or before its places
pub line_le : (s : List ℕ) (a : ℕ) → line_start s a ≤ a
unfolding line_start
line_le s zero = omega arith
line_le s (suc a) =
    if_all (λ (n : ℕ). n ≤ suc a) (is_newline (byte_at s a)) (omega arith) (omega (arith, line_le s a))

-- the loop that goes back from the place a stands at i
module _ (s : List ℕ) (a i : ℕ) (on : first_on_line s a ≡ first_on_line s i) where
  pub first_end : i ≤ 0 → true ≡ first_on_line s a
  unfolding first_on_line
  first_end h = let z : i ≡ 0 = omega arith in sym (on ∙ ap (first_on_line s) z)

  module _ (h : 0 < i) {b : ℕ} (e : b ≡ byte_at s (i - 1)) where
    back : first_on_line s a ≡ first_on_line s (suc (i - 1))
    back = let z : i ≡ suc (i - 1) = omega arith in on ∙ ap (first_on_line s) z

    pub first_newline : b ≡ code "\n" → true ≡ first_on_line s a
    unfolding first_on_line
    first_newline k = sym (back ∙ rw (eq-eqb (byte_at s (i - 1)) (code "\n") (sym e ∙ k)))

    module _ (n : b ≡ code "\n" → ⊥) where
      no_newline : is_newline (byte_at s (i - 1)) ≡ false
      no_newline = ne_eqb (byte_at s (i - 1)) (code "\n") (λ k. n (e ∙ k))

      pub first_solid : is_space b ≡ false → false ≡ first_on_line s a
      unfolding first_on_line
      first_solid k = sym (back ∙ rw (no_newline, sym (ap is_space e) ∙ k))

      pub first_space : is_space b ≡ true → first_on_line s a ≡ first_on_line s (i - 1)
      unfolding first_on_line
      first_space k = back ∙ rw (no_newline, sym (ap is_space e) ∙ k)
