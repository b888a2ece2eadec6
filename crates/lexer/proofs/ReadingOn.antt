-- Reading on: the items that are done, and those from a spot on. It serves the counting loop and the writing loop.
use Rattle.std.proofs.Common.{None}
use Rattle.items.specs.Items.{Item, memory_of, texts}
use Rattle.items.specs.declared.Nine.{Nine}
use Rattle.meaning.specs.Records.{packed}
use Rattle.lexer.specs.Reading.{gives, size_of, next_at, all_from, all_items, found_of, one_found}
use Rattle.lexer.specs.Inner.{free_after, needed_of}
use Rattle.lexer.specs.Writing.{Going}
use Rattle.lexer.specs.declared.Spot.{Spot}
use Rattle.lexer.specs.declared.Needed.{Needed}
use Rattle.lexer.proofs.AllItems.{all_gives, all_ends, next_all}
use Rattle.lexer.proofs.Moves.{Moved}
use Rattle.lexer.proofs.Nexts.{found_gives, found_ends, next_moved}
use Rattle.lexer.proofs.Memory.{free_packed, texts_more}
use Prim.Native.Nat.{ℕ, zero, suc, ◌+◌, ◌*◌, ◌≤◌}
use mathlib.Core.Bool.{Bool, true, false}
use Rattle.std.specs.Prelude.{if◌then◌else◌}
use mathlib.Core.Path.{◌≡◌, refl, sym, ap, ◌∙◌}
use mathlib.Core.List.{List, [], ◌∷◌, ◌++◌, append_assoc, append-nil}
use lib.ListN.{length, length-append}
use native.Mathlib.Omega.{arith}

pub going : (s : List ℕ) (start : Spot) → Going s start start 0 []
unfolding all_items texts
going s start = record { left = suc (size_of s start); enough = omega arith; few = omega arith; behind = omega arith; bytes = refl; items = refl }

abbrev needs : ℕ → ℕ → Needed
needs n b = record { items = n; text = b }

module _ (s : List ℕ) (start p : Spot) (free : ℕ) (done : List Item) (g : Going s start p free done) where
  pub going_end : None ≡ found_of free (next_at s p) → all_items s start ≡ done
  going_end e = go g.left refl
    where
      go : (n : ℕ) → g.left ≡ n → all_items s start ≡ done
      go zero z = absurd (omega (arith, g.enough))
      go (suc n) z =
          g.items ∙ ap (λ (m : ℕ). done ++ all_from m s p) z
          ∙ ap (λ (l : List Item). done ++ l) (all_ends s n p (found_ends free (next_at s p) e)) ∙ append-nil done

  pub counted : (n : ℕ) → length done ≡ n → None ≡ found_of free (next_at s p) → needs n free ≡ needed_of (all_items s start)
  counted n h e =
      let a : all_items s start ≡ done = going_end e in
      ap (λ (x : ℕ). needs x free) (sym h) ∙ ap (needs (length done)) (sym g.bytes) ∙ ap needed_of (sym a)

  -- a spot further on with the same next item
  pub going_past : (q : Spot) → next_at s p ≡ next_at s q → size_of s q ≤ size_of s p → p.at ≤ q.at → Going s start q free done
  going_past q e h k = go g.left refl
    where
      go : (n : ℕ) → g.left ≡ n → Going s start q free done
      go zero z = absurd (omega (arith, g.enough))
      go (suc n) z = record {
        left = suc n;
        enough = omega (arith, g.enough);
        few = omega (arith, g.few);
        behind = omega (arith, g.behind);
        bytes = g.bytes;
        items = g.items ∙ ap (λ (m : ℕ). done ++ all_from m s p) z ∙ ap (λ (l : List Item). done ++ l) (next_all s n p q e);
      }

  module _ (r : Nine) (q : Spot) (e : one_found r q ≡ found_of free (next_at s p)) where
    abbrev pub it : Item
    it = (found_gives free (next_at s p) r q e).0

    pub it_given : next_at s p ≡ gives it q
    it_given = (found_gives free (next_at s p) r q e).1.0

    pub it-packed : r ≡ packed free it
    it-packed = (found_gives free (next_at s p) r q e).1.1

    pub it_moved : Moved s p it q
    it_moved = next_moved s p q it it_given

    pub it-free : free_after free r ≡ free + length (memory_of it.text)
    it-free = ap (free_after free) it-packed ∙ free_packed free it

    pub going_on : Going s start q (free_after free r) (done ++ (it ∷ []))
    going_on = go g.left refl
      where
        go : (n : ℕ) → g.left ≡ n → Going s start q (free_after free r) (done ++ (it ∷ []))
        go zero z = absurd (omega (arith, g.enough))
        go (suc n) z = record {
          left = n;
          enough = omega (arith, g.enough, it_moved.smaller);
          few = omega (arith, g.few, it_moved.smaller, length-append done (it ∷ []));
          behind = omega (arith, g.behind, it_moved.memory, it-free);
          bytes = omega (arith, ap length (texts_more done it), length-append (texts done) (memory_of it.text), g.bytes, it-free);
          items = g.items ∙ ap (λ (m : ℕ). done ++ all_from m s p) z ∙ ap (λ (l : List Item). done ++ l) (all_gives s n p q it it_given)
              ∙ sym (append_assoc done (it ∷ []) (all_from n s q));
        }

-- how many turns there are at most
half_le : (b : Bool) → ◌≤◌ (if b then 0 else 1) 1
half_le true = omega arith
half_le false = omega arith

pub size_le : (s : List ℕ) (p : Spot) → size_of s p ≤ 2 * length s + 1
size_le s p = omega (arith, half_le p.second)
