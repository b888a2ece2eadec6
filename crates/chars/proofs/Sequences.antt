-- The sequences of a text one after the other: what a loop over `decode_at` leans on.
use Rattle.std.proofs.Common.{None, Option, Some}
use Prim.Native.Nat.{ℕ, zero, suc, ◌+◌, ◌*◌, ◌%◌, ◌≤◌, ◌<◌}
use native.Mathlib.Omega.{arith}
use native.Mathlib.Nat.{add-zero}
use native.Mathlib.Numerals.{sub-one}
use mathlib.Core.Path.{◌≡◌, refl, ap, sym, subst, ◌∙◌}
use mathlib.Core.List.{List, [], ◌∷◌}
use lib.ListN.{drop}
use lib.Seq.{drop-drop}
use Rattle.laws.proofs.Choice.{if_all, impossible}
use Rattle.chars.specs.declared.Step.{Step}
use Rattle.chars.specs.declared.Step.TheVariants as steps
use Rattle.chars.specs.declared.Decoded.{Decoded}
use Rattle.chars.specs.declared.Decoded.TheVariants as decoded
use Rattle.laws.specs.Quoted.{within}
use Rattle.chars.specs.Utf8.{first, Front, char, bad, cut, none, rest, after, front, placed, Sequence, read, broken, short, sequences, verdict}

-- something stands there, and if it is a character, it has j bytes
abbrev pub Ends : ℕ → Front → Type 0
Ends j (char c m) = m ≡ j
Ends j (bad m) = Unit {0}
Ends j cut = Unit {0}
Ends j none = ⊥

pub rest_ends : (n : ℕ) (s : List ℕ) (lo hi c k : ℕ) → Ends (k + n) (rest n lo hi c k s)
unfolding rest
rest_ends zero s lo hi c k = sym (add-zero k)
rest_ends (suc n) [] lo hi c k = tt
rest_ends (suc n) (b ∷ s) lo hi c k =
    if_all (Ends (k + suc n)) (within lo hi b)
    (subst (λ (j : ℕ). Ends j (rest n 0x80 0xBF (c * 64 + b % 64) (k + 1) s)) (omega arith) (rest_ends n s 0x80 0xBF (c * 64 + b % 64) (k + 1)))
    tt

-- the bytes that a first byte asks for, itself among them
abbrev pub wants : Step → ℕ
wants (steps.Char c) = 1
wants (steps.More u) = 1 + u.need
wants steps.Bad = 1

wants_some : (o : Step) → 1 ≤ wants o
wants_some (steps.Char c) = omega arith
wants_some (steps.More u) = omega arith
wants_some steps.Bad = omega arith

pub after_ends : (o : Step) (s : List ℕ) → Ends (wants o) (after o s)
after_ends (steps.Char c) s = refl
after_ends (steps.More u) s = rest_ends u.need s u.low u.high u.code 1
after_ends steps.Bad s = tt

-- a character has a byte
pub char_some : (l : List ℕ) (c n : ℕ) → front l ≡ char c n → 1 ≤ n
unfolding front
char_some [] c n e = impossible cc
char_some (b ∷ l) c n e = omega (arith, wants_some (first b), subst (Ends (wants (first b))) e (after_ends (first b) l))

-- something stands at the front of a text that is not empty
pub not_none : (b : ℕ) (l : List ℕ) → front (b ∷ l) ≡ none → ⊥
unfolding front
not_none b l e = subst (Ends (wants (first b))) e (after_ends (first b) l)

pub skips : (s : List ℕ) (k at : ℕ) → sequences k at s ≡ sequences 0 (at + k) (drop k s)
unfolding sequences
skips [] zero at = refl
skips [] (suc k) at = refl
skips (b ∷ s) zero at = rw add-zero
skips (b ∷ s) (suc k) at = skips s k (at + 1) ∙ ap (λ (j : ℕ). sequences 0 j (drop k s)) (omega arith)

-- ---- by what stands at the front

module _ (at : ℕ) where
  pub sequences-char : (l : List ℕ) (c n : ℕ) → front l ≡ char c n → sequences 0 at l ≡ read c at (at + n) ∷ sequences 0 (at + n) (drop n l)
  unfolding sequences front
  sequences-char l c n e = go l n e (char_some l c n e)
    where
      go : (l : List ℕ) (n : ℕ) → front l ≡ char c n → 1 ≤ n → sequences 0 at l ≡ read c at (at + n) ∷ sequences 0 (at + n) (drop n l)
      go [] n e h = impossible cc
      go (b ∷ l) zero e h = absurd (omega arith)
      go (b ∷ l) (suc m) e h =
          rw (e, sub-one) (ap (λ (x : List Sequence). read c at (at + suc m) ∷ x) (skips l m (at + 1) ∙ ap (λ (j : ℕ). sequences 0 j (drop m l)) (omega arith)))

  pub sequences-bad : (l : List ℕ) (n : ℕ) → front l ≡ bad n → sequences 0 at l ≡ broken at (at + n) ∷ []
  unfolding sequences front
  sequences-bad [] n e = impossible cc
  sequences-bad (b ∷ l) n e = rw e

  pub sequences-cut : (l : List ℕ) → front l ≡ cut → sequences 0 at l ≡ short at ∷ []
  unfolding sequences front
  sequences-cut [] e = impossible cc
  sequences-cut (b ∷ l) e = rw e

  pub sequences-none : (l : List ℕ) → front l ≡ none → sequences 0 at l ≡ []
  unfolding sequences
  sequences-none [] e = refl
  sequences-none (b ∷ l) e = absurd (not_none b l e)

-- ---- by what `decode_at` answers

-- the verdict on a text from place `at` on
abbrev pub said : List ℕ → ℕ → Decoded → Option ℕ
said s at (decoded.Char c next) = verdict (sequences 0 next (drop next s))
said s at decoded.Bad = Some at
said s at decoded.Cut = Some at
said s at decoded.End = None

-- one turn of a loop over `decode_at`
pub turns : (s : List ℕ) (at : ℕ) {o : Decoded} → o ≡ placed at (front (drop at s)) → verdict (sequences 0 at (drop at s)) ≡ said s at o
turns s at e = rw e (go (front (drop at s)) refl)
  where
    go : (F : Front) → front (drop at s) ≡ F → verdict (sequences 0 at (drop at s)) ≡ said s at (placed at F)
    go (char c n) f = ap verdict (sequences-char at (drop at s) c n f) ∙ ap (λ (l : List ℕ). verdict (sequences 0 (at + n) l)) (drop-drop n at s)
    go (bad n) f = ap verdict (sequences-bad at (drop at s) n f)
    go cut f = ap verdict (sequences-cut at (drop at s) f)
    go none f = ap verdict (sequences-none at (drop at s) f)

-- a character moves the place on
pub further : (s : List ℕ) (at c next : ℕ) → decoded.Char c next ≡ placed at (front (drop at s)) → at < next
further s at c next = go (front (drop at s)) refl
  where
    go : (F : Front) → front (drop at s) ≡ F → decoded.Char c next ≡ placed at F → at < next
    go (char d n) f e = let p : next ≡ at + n = cc in omega (arith, char_some (drop at s) d n f)
    go (bad n) f e = impossible cc
    go cut f e = impossible cc
    go none f e = impossible cc
