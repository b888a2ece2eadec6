-- Over a whole text the byte machine gives what the table gives: the same characters at the same places, and it stops at the same bad
-- sequence, at the byte that shows it.
use Prim.Native.Nat.{ℕ, zero, suc, ◌+◌, ◌*◌, ◌%◌}
use native.Mathlib.Omega.{arith}
use native.Mathlib.Nat.{add_assoc}
use mathlib.Core.Path.{◌≡◌, refl, ap, ◌∙◌}
use mathlib.Core.List.{List, [], ◌∷◌}
use mathlib.Core.Bool.{Bool, true, false}
use lib.Dec.{eqb-suc-zero}
use Rattle.std.specs.Prelude.{if◌then◌else◌}
use Rattle.chars.specs.declared.Step.{Step}
use Rattle.chars.specs.declared.Step.TheVariants as steps
use Rattle.laws.specs.Quoted.{within}
use Rattle.chars.specs.Utf8.{first, Front, char, bad, cut, none, rest, after, front, Sequence, read, broken, onward, sequences, verdict, first_bad, code_points, chars}
use Rattle.chars.specs.Machine.{step, start, told, run}
use Rattle.chars.proofs.Table.{Small, Wanting, Fine, first_fine}
use Rattle.chars.proofs.Agree.{small_next, at_state, goes_on, step-within}
use Rattle.chars.proofs.Sequences.{Ends, rest_ends}

-- at the start of a character, and within one that starts at f, k bytes into it
abbrev Starts : List ℕ → Type 0
Starts s = (at : ℕ) → run start at at s ≡ sequences 0 at s

abbrev Within : List ℕ → Type 0
Within s = (n lo hi c f k : ℕ) → Small (suc n) c
    → run (at_state (suc n) lo hi c) f (f + k) s ≡ onward f (rest (suc n) lo hi c k s) (λ _. sequences (suc n) (f + k) s)

starts : (b : ℕ) (s : List ℕ) → Starts s → Within s → Starts (b ∷ s)
unfolding run sequences front step
starts b s ih inner at = go (first b) (first_fine b)
  where
    same : (n : ℕ) (F : Front) → Ends (1 + n) F → onward at F (λ _. sequences n (at + 1) s) ≡ onward at F (λ k. sequences k (at + 1) s)
    same n (char c m) h = ap (λ (j : ℕ). read c at (at + m) ∷ sequences j (at + 1) s) (omega arith)
    same n (bad m) h = refl
    same n cut h = refl
    same n none h = refl

    from : (n lo hi c : ℕ) → Wanting n c → run (at_state n lo hi c) at (at + 1) s ≡ onward at (rest n lo hi c 1 s) (λ k. sequences k (at + 1) s)
    from zero lo hi c h = absurd h
    from (suc n) lo hi c h = inner n lo hi c at 1 h ∙ same (suc n) (rest (suc n) lo hi c 1 s) (rest_ends (suc n) s lo hi c 1)

    go : (o : Step) → Fine o
        → told o (λ u. run u at (at + 1) s) (λ c. read c at (at + 1) ∷ run start (at + 1) (at + 1) s) (broken at (at + 1) ∷ [])
        ≡ onward at (after o s) (λ k. sequences k (at + 1) s)
    go (steps.Char c) h = ap (λ (l : List Sequence). read c at (at + 1) ∷ l) (ih (at + 1))
    go (steps.More u) h = from u.need u.low u.high u.code h.0
    go steps.Bad h = refl

withins : (b : ℕ) (s : List ℕ) → Starts s → Within s → Within (b ∷ s)
unfolding run sequences rest
withins b s starts ih n lo hi c f k h =
    rw (step-within n lo hi c b h, add_assoc) (go (c * 64 + b % 64) (within lo hi b) n (small_next n c b h))
  where
    go : (d : ℕ) (x : Bool) (m : ℕ) → Small m d
        → told (if x then goes_on m d else steps.Bad) (λ u. run u f (f + (k + 1)) s)
        (λ e. read e f (f + (k + 1)) ∷ run start (f + (k + 1)) (f + (k + 1)) s) (broken f (f + (k + 1)) ∷ [])
        ≡ onward f (if x then rest m 0x80 0xBF d (k + 1) s else bad (k + 1)) (λ _. sequences m (f + (k + 1)) s)
    go d false m t = refl
    go d true zero t = ap (λ (l : List Sequence). read d f (f + (k + 1)) ∷ l) (starts (f + (k + 1)))
    go d true (suc m) t = ih m 0x80 0xBF d f (k + 1) t

both : (s : List ℕ) → Starts s × Within s
unfolding run sequences rest
both [] = ((λ at. refl), (λ n lo hi c f k h. rw (eqb-suc-zero n)))
both (b ∷ s) = let ih = both s in (starts b s ih.0 ih.1, withins b s ih.0 ih.1)

pub run-sequences : (s : List ℕ) (at : ℕ) → run start at at s ≡ sequences 0 at s
run-sequences s = (both s).0

-- So it gives the text's characters, and stops where the text's first bad sequence starts.
pub run-chars : (s : List ℕ) → code_points (run start 0 0 s) ≡ chars s
unfolding chars
run-chars s = ap code_points (run-sequences s 0)

pub run_bad : (s : List ℕ) → verdict (run start 0 0 s) ≡ first_bad s
unfolding first_bad
run_bad s = ap verdict (run-sequences s 0)
