-- A text in two pieces, cut anywhere, is read as the text in one.
use Prim.Native.Nat.{ℕ, suc, ◌+◌}
use native.Mathlib.Omega.{arith}
use native.Mathlib.Nat.{add-zero}
use mathlib.Core.Path.{◌≡◌, refl, ap, sym, ◌∙◌}
use mathlib.Core.List.{List, [], ◌∷◌, ◌++◌}
use lib.ListN.{length}
use Rattle.chars.specs.declared.Begun.{Begun}
use Rattle.chars.specs.declared.Step.{Step}
use Rattle.chars.specs.declared.Step.TheVariants as steps
use Rattle.chars.specs.Utf8.{Sequence, read, broken, sequences}
use Rattle.chars.specs.Machine.{step, start, told, run, Fed, going, stopped, along, feed, continued}
use Rattle.chars.proofs.Run.{run-sequences}

continued-along : (i : Sequence) (l : List Sequence) (F : Fed) (k : Begun → ℕ → List Sequence) → l ≡ continued F k → i ∷ l ≡ continued (along i F) k
continued-along i l (going m u g) k e = ap (λ (x : List Sequence). i ∷ x) e
continued-along i l (stopped m) k e = ap (λ (x : List Sequence). i ∷ x) e

-- from any state of the machine
pub run_append : (p q : List ℕ) (t : Begun) (f at : ℕ) → run t f at (p ++ q) ≡ continued (feed t f at p) (λ u g. run u g (at + length p) q)
unfolding run feed
run_append [] q t f at = rw add-zero
run_append (b ∷ p) q t f at =
    let z : at + suc (length p) ≡ at + 1 + length p = omega arith in
    rw z (go (step t b) (λ u g. run_append p q u g (at + 1)))
  where
    go : (o : Step) → ((u : Begun) (g : ℕ) → run u g (at + 1) (p ++ q) ≡ continued (feed u g (at + 1) p) (λ v h. run v h (at + 1 + length p) q))
        → told o (λ u. run u f (at + 1) (p ++ q)) (λ c. read c f (at + 1) ∷ run start (at + 1) (at + 1) (p ++ q)) (broken f (at + 1) ∷ [])
        ≡ continued (told o (λ u. feed u f (at + 1) p) (λ c. along (read c f (at + 1)) (feed start (at + 1) (at + 1) p)) (stopped (broken f (at + 1) ∷ [])))
        (λ v h. run v h (at + 1 + length p) q)
    go (steps.More u) ih = ih u f
    go (steps.Char c) ih =
        continued-along (read c f (at + 1)) (run start (at + 1) (at + 1) (p ++ q)) (feed start (at + 1) (at + 1) p) (λ v h. run v h (at + 1 + length p) q) (ih start (at + 1))
    go steps.Bad ih = refl

-- In pieces the machine reads what the table says of the whole.
pub pieces : (p q : List ℕ) → sequences 0 0 (p ++ q) ≡ continued (feed start 0 0 p) (λ u g. run u g (0 + length p) q)
pieces p q = sym (run-sequences (p ++ q) 0) ∙ run_append p q start 0 0
