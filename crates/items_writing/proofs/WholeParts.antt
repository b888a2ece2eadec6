-- A text whose characters were passed to its end is whole, and so is a part of whole characters between two places that lie in no character.
use Rattle.std.proofs.Common.{None}
use Prim.Native.Nat.{ℕ, ◌+◌, ◌-◌, ◌≤◌}
use native.Mathlib.Omega.{arith}
use mathlib.Core.Path.{◌≡◌, sym, ap, ◌∙◌}
use mathlib.Core.Bool.{true, false}
use mathlib.Core.List.{List}
use lib.Dec.{ltb}
use lib.ListN.{length, get_or, take, drop, drop_of_length-le, get_or-eq_default}
use lib.Seq.{get_or-take, get_or-drop, take-take, drop-drop}
use borrow.Author.Tests.{le-leb, ltb-true, ltb-false}
use Rattle.laws.specs.Quoted.{within}
use Rattle.laws.proofs.Choice.{by_bool, within_below}
use Rattle.laws.proofs.Places.{drop-take, take_short}
use Rattle.chars.specs.Utf8.{first_bad, sequences}
use Rattle.chars.specs.Wide.{Passed}
use Rattle.chars.proofs.Cuts.{good_cut}
use Rattle.items_writing.specs.Written.{part}
use Rattle.items_writing.specs.Records.{is_whole}
use Rattle.items_writing.proofs.RightRecords.{Whole, whole_is}

pub all_passed : (t : List ℕ) (r : ℕ) → length t ≤ r → Passed t 0 r → first_bad t ≡ None
unfolding first_bad sequences
all_passed t r h p = sym (rw (drop_of_length-le t h) at p.1)

-- no byte from inside a character stands at a place
abbrev Border : List ℕ → ℕ → Type 0
Border s n = within 0x80 0xBF (get_or s n 0) ≡ false

-- the same place of a part
border : (s : List ℕ) (a b at : ℕ) → a ≤ at → Border s at → Border (part a b s) (at - a)
border s a b at h e =
    let q : a + (at - a) ≡ at = omega arith in
    by_bool (ltb (at - a) (b - a))
    (λ l. rw (get_or-take (b - a) (drop a s) (at - a) 0 (ltb-true (at - a) (b - a) l), get_or-drop a s (at - a) 0, q) e)
    (λ l. rw (get_or-eq_default {A = ℕ} (part a b s) 0 {n = at - a} (omega (arith, take_short (b - a) (drop a s), ltb-false (at - a) (b - a) l)))
    (sym (within_below 0x80 0xBF 0 (omega arith))))

-- a part of a part
part-part : (s : List ℕ) (a f p : ℕ) → a ≤ f → f ≤ p → drop (f - a) (part a p s) ≡ part f p s
part-part s a f p l m =
    let q : p - a ≡ (f - a) + (p - f) = omega arith in
    let r : a + (f - a) ≡ f = omega arith in
    ap (λ (n : ℕ). drop (f - a) (take n (drop a s))) q
    ∙ drop-take (f - a) (p - f) (drop a s)
    ∙ ap (take (p - f)) (drop-drop (f - a) a s)
    ∙ ap (λ (n : ℕ). take (p - f) (drop n s)) r

module _ (s : List ℕ) (a b f p : ℕ) (l : a ≤ f) (m : f ≤ p) (h : p ≤ b) (e : Border s f) (g : Border s p) (k : Whole s a b) where
  front_good : first_bad (part a p s) ≡ None
  front_good =
      ap first_bad (sym (take-take (p - a) (b - a) (drop a s) (omega arith)))
      ∙ (good_cut (part a b s) k.good (p - a) (border s a b p (omega arith) g)).0

  inside_good : first_bad (part f p s) ≡ None
  inside_good = ap first_bad (sym (part-part s a f p l m)) ∙ (good_cut (part a p s) front_good (f - a) (border s a p f l e)).1

  inside_is : is_whole s f p ≡ true
  unfolding is_whole
  inside_is = rw (le-leb f p m, le-leb p (length s) (omega (arith, k.inside)), inside_good)

pub inside_whole : (s : List ℕ) (a b f p : ℕ) → a ≤ f → f ≤ p → p ≤ b → Border s f → Border s p → is_whole s a b ≡ true → is_whole s f p ≡ true
inside_whole s a b f p l m h e g w = inside_is s a b f p l m h e g (whole_is s a b w)
