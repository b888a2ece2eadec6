-- A law of places that holds between the characters of a text holds where an item starts and where it ends, since an item is read
-- character by character. `M` is the law: what it says does not matter here.
use Prim.Native.Nat.{ℕ, suc, ◌+◌}
use mathlib.Core.Path.{◌≡◌, sym, subst}
use mathlib.Core.Bool.{Bool}
use mathlib.Core.List.{List, [], ◌∷◌}
use lib.ListN.{length, take}
use native.Mathlib.Omega.{arith}
use native.Mathlib.Nat.{add-zero}
use Rattle.chars.specs.Encode.{width, bytes_of}
use Rattle.items.specs.declared.Phase.{Phase}
use Rattle.items.specs.Classes.{first_of}
use Rattle.items.specs.Machine.{step_of, on_first, scan_of}
use Rattle.items.specs.Readers.{SoFar, so_far, eat, read_item}
use Rattle.items.proofs.Cases.{by_next}
use Rattle.items.proofs.Same.{item_same}
use Rattle.lines.proofs.Back.{length_bytes}

-- M holds at the start of the characters, which is the place `at`, and after each of them
abbrev pub Along : (ℕ → Type 0) → ℕ → List ℕ → Type 0
Along M at [] = M at
Along M at (c ∷ cs) = M at × Along M (at + width c) cs

-- it is enough that it holds after any number of them
pub along : (M : ℕ → Type 0) (at : ℕ) (cs : List ℕ) → ((k : ℕ) → M (at + length (bytes_of (take k cs)))) → Along M at cs
unfolding bytes_of
along M at [] f = subst M (add-zero at) (f 0)
along M at (c ∷ cs) f = (subst M (add-zero at) (f 0), along M (at + width c) cs (λ k. subst M (next k) (f (suc k))))
  where
    next : (k : ℕ) → at + length (bytes_of (take (suc k) (c ∷ cs))) ≡ at + width c + length (bytes_of (take k cs))
    next k = omega (arith, length_bytes c (take k cs))

module _ (M : ℕ → Type 0) where
  pub at_start : (at : ℕ) (cs : List ℕ) → Along M at cs → M at
  at_start at [] h = h
  at_start at (c ∷ cs) h = h.0

  pub at_end_case : (at : ℕ) (cs : List ℕ) → Along M at cs → M (at + length (bytes_of cs))
  unfolding bytes_of
  at_end_case at [] h = subst M (sym (add-zero at)) h
  at_end_case at (c ∷ cs) h =
      let z : at + width c + length (bytes_of cs) ≡ at + length (bytes_of (c ∷ cs)) = omega (arith, length_bytes c cs) in
      subst M z (at_end_case (at + width c) cs h.1)

  module _ (report : Bool) where
    scan_along : (p : Phase) (i : SoFar) (cs : List ℕ) → Along M i.at cs → Along M (scan_of report p i cs).item.at (scan_of report p i cs).rest
    unfolding scan_of
    scan_along p i [] h = h
    scan_along p i (c ∷ cs) h =
        by_next (step_of report p i c)
        (λ q e. rw (e, scan_of) (scan_along q (eat i c) cs h.1))
        (λ o e. rw (e, scan_of) h)

    -- from where an item ends, M goes on
    pub read_along : (at c : ℕ) (cs : List ℕ) → Along M at (c ∷ cs) → Along M (read_item report at c cs).item.at (read_item report at c cs).rest
    read_along at c cs h = rw (item_same report at c cs) at (scan_along (on_first (first_of c)) (eat (so_far [] at) c) cs h.1)
