-- One sequence: it is known bad at the right byte. With that byte no character can come of the bytes, and without it one still can.
use Prim.Native.Nat.{ℕ, zero, suc, ◌+◌, ◌-◌, ◌*◌, ◌%◌, ◌≤◌, ◌<◌}
use native.Mathlib.Omega.{arith}
use mathlib.Core.Path.{◌≡◌, refl, ap, sym, subst, ◌∙◌}
use mathlib.Core.List.{List, [], ◌∷◌, ◌++◌}
use mathlib.Core.Bool.{Bool, true, false}
use lib.ListN.{length, get_or, take, drop}
use lib.Seq.{split_at, length-take-le}
use Rattle.std.specs.Prelude.{if◌then◌else◌}
use Rattle.laws.proofs.Choice.{if_all, impossible}
use Rattle.chars.specs.declared.Step.{Step}
use Rattle.chars.specs.declared.Step.TheVariants as steps
use Rattle.laws.specs.Quoted.{within}
use Rattle.chars.specs.Utf8.{first, Front, char, bad, cut, none, rest, after, front}
use Rattle.chars.proofs.Table.{within_in, Fine, first_fine}

-- ---- the byte that shows a bad sequence is one of the text's

-- a sequence that is bad is so past its first k bytes, and within j
abbrev Shown : ℕ → ℕ → Front → Type 0
Shown k j (bad m) = (k < m) × (m ≤ j)
Shown k j (char c m) = Unit {0}
Shown k j cut = Unit {0}
Shown k j none = Unit {0}

shown_less : (k j : ℕ) (F : Front) → Shown (k + 1) j F → Shown k j F
shown_less k j (bad m) h = (omega arith, h.1)
shown_less k j (char c m) h = tt
shown_less k j cut h = tt
shown_less k j none h = tt

rest_shown : (n : ℕ) (s : List ℕ) (lo hi c k : ℕ) → Shown k (k + length s) (rest n lo hi c k s)
unfolding rest
rest_shown zero s lo hi c k = tt
rest_shown (suc n) [] lo hi c k = tt
rest_shown (suc n) (b ∷ s) lo hi c k =
    let F : Front = rest n 0x80 0xBF (c * 64 + b % 64) (k + 1) s in
    if_all (Shown k (k + suc (length s))) (within lo hi b)
    (shown_less k (k + suc (length s)) F (subst (λ (j : ℕ). Shown (k + 1) j F) (omega arith) (rest_shown n s 0x80 0xBF (c * 64 + b % 64) (k + 1))))
    (omega arith, omega arith)

front_shown : (s : List ℕ) → Shown 0 (length s) (front s)
unfolding front
front_shown [] = tt
front_shown (b ∷ s) = go (first b)
  where
    go : (o : Step) → Shown 0 (suc (length s)) (after o s)
    go (steps.Char c) = tt
    go (steps.More u) =
        let F : Front = rest u.need u.low u.high u.code 1 s in
        shown_less 0 (suc (length s)) F (subst (λ (j : ℕ). Shown 1 j F) (omega arith) (rest_shown u.need s u.low u.high u.code 1))
    go steps.Bad = (omega arith, omega arith)

pub shown : (s : List ℕ) (n : ℕ) → front s ≡ bad n
    → (p : List ℕ) × (b : ℕ) × (q : List ℕ) × (s ≡ p ++ b ∷ q) × (n ≡ length p + 1)
shown s n e =
    let h : Shown 0 (length s) (bad n) = subst (Shown 0 (length s)) e (front_shown s) in
    (take (n - 1) s, get_or s (n - 1) 0, drop (suc (n - 1)) s, split_at s (n - 1) 0 (omega arith), omega (arith, length-take-le (n - 1) s (omega arith)))

-- ---- with that byte

not_there : {A : Type 0} (F : Front) (k j m : ℕ) → Shown k j F → m ≤ k → F ≡ bad m → A
not_there F k j m h l e = absurd (at (subst (Shown k j) e h))
  where
    at : Shown k j (bad m) → ⊥
    at g = omega arith

-- where one byte is the same, what follows it decides
same_byte : (n lo hi c k b : ℕ) (q t : List ℕ) (B : Front)
    → (rest n 0x80 0xBF (c * 64 + b % 64) (k + 1) q ≡ B → rest n 0x80 0xBF (c * 64 + b % 64) (k + 1) t ≡ B)
    → rest (suc n) lo hi c k (b ∷ q) ≡ B → rest (suc n) lo hi c k (b ∷ t) ≡ B
unfolding rest
same_byte n lo hi c k b q t B f = go (within lo hi b)
  where
    go : (x : Bool) → (if x then rest n 0x80 0xBF (c * 64 + b % 64) (k + 1) q else bad (k + 1)) ≡ B
        → (if x then rest n 0x80 0xBF (c * 64 + b % 64) (k + 1) t else bad (k + 1)) ≡ B
    go true e = f e
    go false e = e

rest_dead : (p : List ℕ) (n lo hi c k b : ℕ) (q t : List ℕ) → rest n lo hi c k (p ++ b ∷ q) ≡ bad (k + (length p + 1))
    → rest n lo hi c k (p ++ b ∷ t) ≡ bad (k + (length p + 1))
unfolding rest
rest_dead [] zero lo hi c k b q t e = impossible cc
rest_dead (a ∷ p) zero lo hi c k b q t e = impossible cc
rest_dead [] (suc n) lo hi c k b q t e =
    same_byte n lo hi c k b q t (bad (k + (0 + 1)))
    (not_there (rest n 0x80 0xBF (c * 64 + b % 64) (k + 1) q) (k + 1) (k + 1 + length q) (k + (0 + 1)) (rest_shown n q 0x80 0xBF (c * 64 + b % 64) (k + 1)) (omega arith)) e
rest_dead (a ∷ p) (suc n) lo hi c k b q t e =
    let z : k + (suc (length p) + 1) ≡ (k + 1) + (length p + 1) = omega arith in
    same_byte n lo hi c k a (p ++ b ∷ q) (p ++ b ∷ t) (bad (k + (suc (length p) + 1)))
    (λ g. rest_dead p n 0x80 0xBF (c * 64 + a % 64) (k + 1) b q t (g ∙ ap bad z) ∙ ap bad (sym z)) e

-- Whatever follows the byte that shows a bad sequence, the sequence stays bad.
pub dead : (p : List ℕ) (b : ℕ) (q t : List ℕ) → front (p ++ b ∷ q) ≡ bad (length p + 1) → front (p ++ b ∷ t) ≡ bad (length p + 1)
unfolding front
dead [] b q t = go (first b)
  where
    go : (o : Step) → after o q ≡ bad 1 → after o t ≡ bad 1
    go (steps.Char c) e = impossible cc
    go (steps.More u) e =
        not_there (rest u.need u.low u.high u.code 1 q) 1 (1 + length q) 1 (rest_shown u.need q u.low u.high u.code 1) (omega arith) e
    go steps.Bad e = refl
dead (a ∷ p) b q t = go (first a)
  where
    go : (o : Step) → after o (p ++ b ∷ q) ≡ bad (suc (length p) + 1) → after o (p ++ b ∷ t) ≡ bad (suc (length p) + 1)
    go (steps.Char c) e = impossible cc
    go (steps.More u) e =
        let z : suc (length p) + 1 ≡ 1 + (length p + 1) = omega arith in
        rest_dead p u.need u.low u.high u.code 1 b q t (e ∙ ap bad z) ∙ ap bad (sym z)
    go steps.Bad e = e

-- ---- without that byte

bads : (m n : ℕ) → bad m ≡ bad n → m ≡ n
bads m n e = cc

-- some bytes make the rest of a character out of p
abbrev Whole : (List ℕ → Front) → ℕ → List ℕ → Type 0
Whole f k p = (t : List ℕ) × (c : ℕ) × (f (p ++ t) ≡ char c (k + length (p ++ t)))

-- a range that is not empty has its lowest byte
rest_fill : (n lo hi c k : ℕ) → lo ≤ hi → Whole (rest n lo hi c k) k []
unfolding rest
rest_fill zero lo hi c k h = ([], c, ap (char c) (omega arith))
rest_fill (suc n) lo hi c k h =
    let r = rest_fill n 0x80 0xBF (c * 64 + lo % 64) (k + 1) (omega arith) in
    (lo ∷ r.0, r.1, rw (within_in lo hi lo (omega arith) h) (r.2 ∙ ap (char r.1) (omega arith)))

rest_open : (p : List ℕ) (n lo hi c k b : ℕ) (q : List ℕ) → lo ≤ hi → rest n lo hi c k (p ++ b ∷ q) ≡ bad (k + (length p + 1))
    → Whole (rest n lo hi c k) k p
unfolding rest
rest_open [] n lo hi c k b q h e = rest_fill n lo hi c k h
rest_open (a ∷ p) zero lo hi c k b q h e = impossible cc
rest_open (a ∷ p) (suc n) lo hi c k b q h e =
    go (λ g. rest_open p n 0x80 0xBF (c * 64 + a % 64) (k + 1) b q (omega arith) (g ∙ ap bad (omega arith))) (within lo hi a) refl e
  where
    go : (rest n 0x80 0xBF (c * 64 + a % 64) (k + 1) (p ++ b ∷ q) ≡ bad (k + (suc (length p) + 1)) → Whole (rest n 0x80 0xBF (c * 64 + a % 64) (k + 1)) (k + 1) p)
        → (x : Bool) → within lo hi a ≡ x
        → (if x then rest n 0x80 0xBF (c * 64 + a % 64) (k + 1) (p ++ b ∷ q) else bad (k + 1)) ≡ bad (k + (suc (length p) + 1))
        → Whole (rest (suc n) lo hi c k) k (a ∷ p)
    go ih false ex e = absurd (omega (arith, bads (k + 1) (k + (suc (length p) + 1)) e))
    go ih true ex e =
        let r = ih e in
        (r.0, r.1, rw ex (r.2 ∙ ap (char r.1) (omega arith)))

-- Without that byte, the bytes before it can still become one character.
pub alive : (p : List ℕ) (b : ℕ) (q : List ℕ) → front (p ++ b ∷ q) ≡ bad (length p + 1)
    → (t : List ℕ) × (c : ℕ) × (front (p ++ t) ≡ char c (length (p ++ t)))
unfolding front first within
alive [] b q e = (0x41 ∷ [], 0x41, refl)
alive (a ∷ p) b q e = go (first a) (first_fine a) e
  where
    go : (o : Step) → Fine o → after o (p ++ b ∷ q) ≡ bad (suc (length p) + 1)
        → (t : List ℕ) × (c : ℕ) × (after o (p ++ t) ≡ char c (suc (length (p ++ t))))
    go (steps.Char c) h e = impossible cc
    go (steps.More u) h e =
        let r = rest_open p u.need u.low u.high u.code 1 b q h.1 (e ∙ ap bad (omega arith)) in
        (r.0, r.1, r.2 ∙ ap (char r.1) (omega arith))
    go steps.Bad h e = absurd (omega (arith, bads 1 (suc (length p) + 1) e))

-- ---- a whole character does not hang on what follows it

pub rest_local : (p : List ℕ) (n lo hi c k d m : ℕ) (x y : List ℕ) → n ≤ length p → rest n lo hi c k (p ++ x) ≡ char d m → rest n lo hi c k (p ++ y) ≡ char d m
unfolding rest
rest_local p zero lo hi c k d m x y h e = e
rest_local [] (suc n) lo hi c k d m x y h e = absurd (omega arith)
rest_local (a ∷ p) (suc n) lo hi c k d m x y h e =
    same_byte n lo hi c k a (p ++ x) (p ++ y) (char d m) (λ g. rest_local p n 0x80 0xBF (c * 64 + a % 64) (k + 1) d m x y (omega arith) g) e
