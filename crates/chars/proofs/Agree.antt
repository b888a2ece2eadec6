-- One character: the byte machine reads what the table says.
use Prim.Native.Nat.{ℕ, zero, suc, ◌+◌, ◌*◌, ◌%◌, ◌≤◌, ◌<◌}
use native.Mathlib.Omega.{arith}
use native.Mathlib.Nat.{add_assoc}
use native.Mathlib.Numerals.{sub-one, add-one}
use mathlib.Core.Path.{◌≡◌, refl}
use mathlib.Core.List.{List, [], ◌∷◌}
use mathlib.Core.Bool.{Bool, true, false}
use lib.ListN.{length, get_or, drop}
use lib.Seq.{drop-cons}
use lib.Dec.{eqb-suc-zero}
use borrow.Author.Tests.{le-leb, ne_eqb}
use Rattle.std.specs.Prelude.{if◌then◌else◌}
use Rattle.chars.specs.declared.Begun.{Begun}
use Rattle.chars.specs.declared.Step.{Step}
use Rattle.chars.specs.declared.Step.TheVariants as steps
use Rattle.chars.specs.declared.Decoded.TheVariants as decoded
use Rattle.laws.specs.Quoted.{within}
use Rattle.laws.proofs.Choice.{and_yes}
use Rattle.chars.specs.Utf8.{more, first, bad, rest, after, front, placed}
use Rattle.chars.specs.Machine.{step, start, told, reads}
use Rattle.chars.proofs.Table.{Small, Wanting, Fine, first_fine}

pub small_next : (n c b : ℕ) → Small (suc n) c → Small n (c * 64 + b % 64)
small_next zero c b h = tt
small_next (suc zero) c b h = omega arith
small_next (suc (suc zero)) c b h = omega arith
small_next (suc (suc (suc n))) c b h = absurd h

small_top : (n c : ℕ) → Small (suc n) c → c ≤ 0x7FFF
small_top zero c h = omega arith
small_top (suc zero) c h = omega arith
small_top (suc (suc zero)) c h = omega arith
small_top (suc (suc (suc n))) c h = absurd h

abbrev pub at_state : ℕ → ℕ → ℕ → ℕ → Begun
at_state n lo hi c = record { need = n; low = lo; high = hi; code = c }

-- after a byte within its range n bytes are still to come
abbrev pub goes_on : ℕ → ℕ → Step
goes_on zero d = steps.Char d
goes_on (suc n) d = more (suc n) 0x80 0xBF d

-- the step within a character that a text leads to
pub step-within : (n lo hi c b : ℕ) → Small (suc n) c
    → step (at_state (suc n) lo hi c) b ≡ (if within lo hi b then goes_on n (c * 64 + b % 64) else steps.Bad)
unfolding step
step-within zero lo hi c b h = simp (le-leb c 0x7FFF h, and_yes)
step-within (suc n) lo hi c b h =
    simp (eqb-suc-zero (suc n), le-leb c 0x7FFF (small_top (suc n) c h), and_yes, ne_eqb (suc (suc n)) 1 (λ e. omega arith), sub-one)

-- within a character that starts at f, k bytes into it
inner : (s : List ℕ) (n lo hi c f k : ℕ) → Small (suc n) c → reads (at_state (suc n) lo hi c) (f + k) s ≡ placed f (rest (suc n) lo hi c k s)
unfolding reads rest
inner [] n lo hi c f k h = refl
inner (b ∷ s) n lo hi c f k h =
    rw (step-within n lo hi c b h, add_assoc) (go (c * 64 + b % 64) (λ m t. inner s m 0x80 0xBF (c * 64 + b % 64) f (k + 1) t) (within lo hi b) n (small_next n c b h))
  where
    go : (d : ℕ) → ((m : ℕ) → Small (suc m) d → reads (at_state (suc m) 0x80 0xBF d) (f + (k + 1)) s ≡ placed f (rest (suc m) 0x80 0xBF d (k + 1) s))
        → (x : Bool) (m : ℕ) → Small m d
        → told (if x then goes_on m d else steps.Bad) (λ u. reads u (f + (k + 1)) s) (λ e. decoded.Char e (f + (k + 1))) decoded.Bad
        ≡ placed f (if x then rest m 0x80 0xBF d (k + 1) s else bad (k + 1))
    go d ih false m t = refl
    go d ih true zero t = refl
    go d ih true (suc m) t = ih m t

-- From the start of a character on, the machine reads what the table says.
pub reads-front : (at b : ℕ) (s : List ℕ) → reads start at (b ∷ s) ≡ placed at (front (b ∷ s))
unfolding reads front step
reads-front at b s = go (first b) (first_fine b)
  where
    from : (n lo hi c : ℕ) → Wanting n c → reads (at_state n lo hi c) (at + 1) s ≡ placed at (rest n lo hi c 1 s)
    from zero lo hi c h = absurd h
    from (suc n) lo hi c h = inner s n lo hi c at 1 h

    go : (o : Step) → Fine o → told o (λ u. reads u (at + 1) s) (λ c. decoded.Char c (at + 1)) decoded.Bad ≡ placed at (after o s)
    go (steps.Char c) h = refl
    go (steps.More u) h = from u.need u.low u.high u.code h.0
    go steps.Bad h = refl

-- the machine at place i of a text, where the byte does o
pub reads_at : (s : List ℕ) (t : Begun) (i : ℕ) {o : Step} → i < length s → o ≡ step t (get_or s i 0)
    → reads t i (drop i s) ≡ told o (λ u. reads u (i + 1) (drop (i + 1) s)) (λ c. decoded.Char c (i + 1)) decoded.Bad
unfolding reads
reads_at s t i h e = rw (drop-cons s i 0 h, e, add-one)
