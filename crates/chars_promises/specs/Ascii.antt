-- The blanks of ASCII, which runs of bytes are tested for (`blank` of `byte_runs/specs/Runs`; in code `byte_runs::classes` and `lexer::reading`), are the
-- part of the one table of blanks that is ASCII.
use Rattle.std.specs.Prelude.{ℕ, zero, suc, ◌≤◌, ◌<◌, ◌≡◌, refl, Bool, true, false, not, ◌&&◌, eqb, ltb}
use Rattle.std.proofs.Common.{sym, subst, arith, ltb-true, ltb-false, ne_eqb}
use Rattle.laws.specs.Quoted.{within}
use Rattle.laws.proofs.Choice.{by_bool, no_yes, and_true, within_is}
use Rattle.chars.specs.Blank.{is_blank}
use Rattle.byte_runs.specs.Runs.{blank}

-- whether two tests go alike
abbrev alike : Bool → Bool → Bool
alike true b = b
alike false b = not b

alike_is : (a b : Bool) → alike a b ≡ true → a ≡ b
alike_is true b e = sym e
alike_is false false e = refl
alike_is false true e = no_yes e

-- whether a test passes at all numbers below n
unfoldable below : ℕ → (ℕ → Bool) → Bool
below zero f = true
below (suc n) f = f n && below n f

below_is : (n : ℕ) (f : ℕ → Bool) → below n f ≡ true → (c : ℕ) → c < n → f c ≡ true
unfolding below
below_is zero f e c h = absurd (omega arith)
below_is (suc n) f e c h =
    let g = and_true (f n) (below n f) e in
    by_bool (ltb c n) (λ l. below_is n f g.1 c (ltb-true c n l))
    (λ l. let z : n ≡ c = omega (arith, ltb-false c n l) in subst (λ (k : ℕ). f k ≡ true) z g.0)

-- the table, computed over ASCII
computed : below 0x80 (λ c. alike (blank c) (is_blank c)) ≡ true
unfolding below within is_blank
computed = refl

pub ascii_blanks : (c : ℕ) → blank c ≡ (ltb c 0x80 && is_blank c)
ascii_blanks c = by_bool (ltb c 0x80)
    (λ e. rw e (alike_is (blank c) (is_blank c) (below_is 0x80 (λ k. alike (blank k) (is_blank k)) computed c (ltb-true c 0x80 e))))
    (λ e. rw e (past (ltb-false c 0x80 e)))
  where
    past : 0x80 ≤ c → blank c ≡ false
    past h =
        let space : eqb c 0x20 ≡ false = ne_eqb c 0x20 (λ z. omega arith) in
        let others : within 0x09 0x0D c ≡ false
        = by_bool (within 0x09 0x0D c) (λ e. absurd (omega (arith, (within_is 0x09 0x0D c e).1))) (λ e. e) in
        rw (space, others)
