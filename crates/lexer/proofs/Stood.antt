-- Where an item stands that comes next: its first character is the one that reading starts with.
use Rattle.chars.specs.Utf8.{chars}
use Rattle.items.specs.Classes.{first_of}
use Rattle.items.specs.Machine.{on_first, depth_of}
use Rattle.items.specs.declared.Phase.{Phase}
use Rattle.steps.specs.Scan.{answer}
use Rattle.lexer.specs.Inner as inner
use Rattle.lexer.specs.Reading.{start_from, first_at}
use Rattle.lexer.specs.Begun.{Stands}
use Rattle.lexer.proofs.Turns.{Started, started}
use Rattle.lexer.proofs.Scans.{first_depth, inside}
use Prim.Native.Nat.{ℕ}
use mathlib.Core.Path.{◌≡◌, refl, ap, ◌∙◌}
use mathlib.Core.Bool.{false}
use mathlib.Core.List.{List}
use lib.ListN.{drop}
use native.Mathlib.Omega.{arith}

first_of_case : (s : List ℕ) (at c a n : ℕ) → Started s at (chars (drop at s)) c a n → inner.First s a c n
first_of_case s at c a n S = record { first = S.first; on = S.next; solid = S.solid }

-- right behind that character
pub first_stands : (s : List ℕ) (at c a n : ℕ) (p : Phase) → start_from at (chars (drop at s)) ≡ first_at c a n → p ≡ on_first (first_of c) → Stands s at a n p
first_stands s at c a n p e f =
    let i = inside s false a c n (first_of_case s at c a n (started s (chars (drop at s)) at refl c a n e)) in
    record {
      c = c;
      next = n;
      starts = e;
      ahead = i.0;
      inside = i.1;
      deep = omega (arith, ap depth_of f ∙ first_depth (first_of c));
      same = λ report. ap (λ (q : Phase). answer s report a q n) f;
    }

module _ (s : List ℕ) (at a from : ℕ) (p : Phase) (S : Stands s at a from p) where
  pub stands_started : Started s at (chars (drop at s)) S.c a S.next
  stands_started = started s (chars (drop at s)) at refl S.c a S.next S.starts

  pub stands_first : inner.First s a S.c S.next
  stands_first = first_of_case s at S.c a S.next stands_started
