-- A whole text: its first bad sequence is known at the first byte that shows it. With the text up to and including that byte, no text
-- that goes on from there is UTF-8; without that byte, some text is.
use Rattle.std.proofs.Common.{None, Some}
use Prim.Native.Nat.{ℕ, zero, suc, ◌+◌, ◌-◌, ◌≤◌}
use native.Mathlib.Omega.{arith}
use mathlib.Core.Path.{◌≡◌, refl, ap, sym, subst, ◌∙◌}
use mathlib.Core.List.{List, [], ◌∷◌, ◌++◌}
use lib.ListN.{length}
use lib.Seq.{drop-length}
use Rattle.chars.specs.declared.Step.{Step}
use Rattle.chars.specs.declared.Step.TheVariants as steps
use Rattle.chars.specs.Utf8.{first, Front, char, bad, cut, none, after, front, Sequence, read, broken, short, onward, sequences, verdict, first_bad}
use Rattle.chars.specs.Machine.{start, run}
use Rattle.chars.proofs.Sequences.{Ends, wants, after_ends, sequences-char, sequences-bad}
use Rattle.chars.proofs.Run.{run-sequences}
use Rattle.chars.proofs.Sharp.{shown, dead, alive, rest_local}

-- the bad sequence that the sequences end with starts at f, and t is past the byte that shows it
abbrev pub Breaks : ℕ → ℕ → List Sequence → Type 0
Breaks f t [] = ⊥
Breaks f t (read c g u ∷ l) = Breaks f t l
Breaks f t (broken g u ∷ l) = (g ≡ f) × (u ≡ t)
Breaks f t (short g ∷ l) = ⊥

-- the same from place `at` on, where `skip` bytes are still to pass: the bytes before the one that shows it, it, and those after it
record Shows (skip at : ℕ) (s : List ℕ) (f t : ℕ) : Type 0 where
  pub before : List ℕ
  pub byte : ℕ
  pub after : List ℕ
  pub text : s ≡ before ++ byte ∷ after
  pub place : t ≡ at + length before + 1
  pub passed : skip ≤ length before
  pub with : (q : List ℕ) → verdict (sequences skip at (before ++ byte ∷ q)) ≡ Some f
  pub rest : List ℕ
  pub without : verdict (sequences skip at (before ++ rest)) ≡ None

-- a byte that is to pass
passes : (k at b : ℕ) (s : List ℕ) (f t : ℕ) → Shows k (at + 1) s f t → Shows (suc k) at (b ∷ s) f t
unfolding sequences
passes k at b s f t r =
    record {
      before = b ∷ r.before;
      byte = r.byte;
      after = r.after;
      text = ap (λ (l : List ℕ). b ∷ l) r.text;
      place = omega (arith, r.place);
      passed = omega (arith, r.passed);
      with = r.with;
      rest = r.rest;
      without = r.without;
    }

-- a whole character does not hang on what follows it
front_local : (b : ℕ) (p x y : List ℕ) (c n : ℕ) → n - 1 ≤ length p → front (b ∷ p ++ x) ≡ char c n → front (b ∷ p ++ y) ≡ char c n
unfolding front
front_local b p x y c n = go (first b)
  where
    go : (o : Step) → n - 1 ≤ length p → after o (p ++ x) ≡ char c n → after o (p ++ y) ≡ char c n
    go (steps.Char d) h e = e
    go (steps.More u) h e =
        let k : n ≡ 1 + u.need = subst (Ends (wants (steps.More u))) e (after_ends (steps.More u) (p ++ x)) in
        rest_local p u.need u.low u.high u.code 1 c n x y (omega arith) e
    go steps.Bad h e = e

-- a character, whose bytes but the first are to pass
reads_one : (at b : ℕ) (s : List ℕ) (c n f t : ℕ) → front (b ∷ s) ≡ char c n → Shows (n - 1) (at + 1) s f t → Shows 0 at (b ∷ s) f t
unfolding sequences
reads_one at b s c n f t e r =
    record {
      before = b ∷ r.before;
      byte = r.byte;
      after = r.after;
      text = ap (λ (l : List ℕ). b ∷ l) r.text;
      place = omega (arith, r.place);
      passed = omega arith;
      with = λ q. rw (front_local b r.before (r.byte ∷ r.after) (r.byte ∷ q) c n r.passed k) (r.with q);
      rest = r.rest;
      without = rw (front_local b r.before (r.byte ∷ r.after) r.rest c n r.passed k) r.without;
    }
  where
    k : front (b ∷ r.before ++ r.byte ∷ r.after) ≡ char c n
    k = sym (ap (λ (l : List ℕ). front (b ∷ l)) r.text) ∙ e

-- a text that is one character is good
one_good : (at : ℕ) (l : List ℕ) (c : ℕ) → front l ≡ char c (length l) → verdict (sequences 0 at l) ≡ None
unfolding sequences
one_good at l c e = ap verdict (sequences-char at l c (length l) e) ∙ ap (λ (m : List ℕ). verdict (sequences 0 (at + length l) m)) (drop-length l)

-- the bad sequence itself
breaks : (at : ℕ) (s : List ℕ) (n : ℕ) → front s ≡ bad n → Shows 0 at s at (at + n)
breaks at s n e =
    let w = shown s n e in
    let p = w.0 in
    let b = w.1 in
    let q = w.2 in
    let k : front (p ++ b ∷ q) ≡ bad (length p + 1) = sym (ap front w.3) ∙ e ∙ ap bad w.4 in
    let a = alive p b q k in
    record {
      before = p;
      byte = b;
      after = q;
      text = w.3;
      place = omega (arith, w.4);
      passed = omega arith;
      with = λ q. ap verdict (sequences-bad at (p ++ b ∷ q) (length p + 1) (dead p b _ q k));
      rest = a.0;
      without = one_good at (p ++ a.0) a.1 a.2;
    }

shows : (s : List ℕ) (skip at f t : ℕ) → Breaks f t (sequences skip at s) → Shows skip at s f t
unfolding sequences
shows [] skip at f t h = absurd h
shows (b ∷ s) (suc k) at f t h = passes k at b s f t (shows s k (at + 1) f t h)
shows (b ∷ s) zero at f t h = go (λ k. shows s k (at + 1) f t) (front (b ∷ s)) refl h
  where
    go : ((k : ℕ) → Breaks f t (sequences k (at + 1) s) → Shows k (at + 1) s f t) → (F : Front) → front (b ∷ s) ≡ F
        → Breaks f t (onward at F (λ k. sequences k (at + 1) s)) → Shows 0 at (b ∷ s) f t
    go ih (char c n) e h = reads_one at b s c n f t e (ih (n - 1) h)
    go ih (bad n) e h = subst (λ (g : ℕ). Shows 0 at (b ∷ s) g t) h.0 (subst (λ (u : ℕ). Shows 0 at (b ∷ s) at u) h.1 (breaks at (b ∷ s) n e))
    go ih cut e h = absurd h
    go ih none e h = absurd h

-- The text's first bad sequence starts at f, and the byte that shows it is the one before the place t.
pub record FirstShown (s : List ℕ) (f t : ℕ) : Type 0 where
  pub before : List ℕ
  pub byte : ℕ
  pub after : List ℕ
  pub text : s ≡ before ++ byte ∷ after
  pub place : t ≡ length before + 1
  -- with that byte, whatever follows it, the text is bad, and at the same place
  pub with : (q : List ℕ) → first_bad (before ++ byte ∷ q) ≡ Some f
  -- without it, the text can still become good
  pub rest : List ℕ
  pub without : first_bad (before ++ rest) ≡ None

pub first_shown : (s : List ℕ) (f t : ℕ) → Breaks f t (sequences 0 0 s) → FirstShown s f t
unfolding first_bad
first_shown s f t h =
    let r = shows s 0 0 f t h in
    record {
      before = r.before;
      byte = r.byte;
      after = r.after;
      text = r.text;
      place = omega (arith, r.place);
      with = r.with;
      rest = r.rest;
      without = r.without;
    }

-- So the byte machine stops at the first byte after which no valid text can follow.
pub run_first_shown : (s : List ℕ) (f t : ℕ) → Breaks f t (run start 0 0 s) → FirstShown s f t
run_first_shown s f t h = first_shown s f t (subst (Breaks f t) (run-sequences s 0) h)
