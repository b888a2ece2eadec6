-- The item that a text breaks off in is the one that the machine is in: what was given before ended before the end, and what the end adds
-- ends there and starts where the machine says.
use Rattle.items.specs.declared.Outcome.{Outcome}
use Rattle.items.specs.declared.Phase.TheVariants.{AfterHash}
use Rattle.items.specs.Items.{Place, Item, items_of, range_after, standing, extent_items, items, byte_count, ends_before}
use Rattle.items.specs.Machine.{finish_of}
use Rattle.items.specs.Meaning.{Meaning, meaning_of}
use Rattle.items.specs.Readers.{SoFar, so_far}
use Rattle.items.specs.Run.{Mode, opening, pound, skipping, idle, busy, state, fresh, pounded, last_mode, finish, advance}
use Rattle.items.proofs.Run.{run_items}
use Rattle.items.proofs.Ready.{ready}
use Rattle.laws.proofs.Choice.{by_bool}
use Rattle.pieces.specs.Expected.{Unfinished, nothing, from, unfinished}
use Rattle.pieces.proofs.Pairs.{Shape, alone, pair, shape}
use Prim.Native.Nat.{ℕ}
use mathlib.Core.Path.{◌≡◌, refl, sym, ap, ◌∙◌}
use mathlib.Core.Bool.{Bool, true}
use mathlib.Core.List.{List, [], ◌∷◌, ◌++◌, append-nil}
use lib.Dec.{ltb}
use native.Mathlib.Omega.{arith}
use borrow.Author.Tests.{ltb-true, eq-eqb, ne_eqb}

-- where the machine's item started
abbrev pub start_of : Mode → Unfinished
start_of opening = nothing
start_of pound = from 0
start_of skipping = nothing
start_of idle = nothing
start_of (busy s p raw) = from s

-- only the last item counts
of_last : (n : ℕ) (is : List Item) (j : Item) (js : List Item) → unfinished n (is ++ (j ∷ js)) ≡ unfinished n (j ∷ js)
unfolding unfinished
of_last n [] j js = refl
of_last n (i ∷ []) j js = refl
of_last n (i ∷ k ∷ is) j js = of_last n (k ∷ is) j js

-- what ended before is finished
one_more : (n : ℕ) (i : Item) (is : List Item) → ltb i.end n ≡ true → unfinished n is ≡ nothing → unfinished n (i ∷ is) ≡ nothing
unfolding unfinished
one_more n i [] e h = rw (ne_eqb i.end n (λ z. omega (arith, ltb-true i.end n e)))
one_more n i (j ∷ is) e h = h

ended_finished : (n : ℕ) (is : List Item) → unfinished n (ends_before n is) ≡ nothing
unfolding unfinished ends_before
ended_finished n [] = refl
ended_finished n (i ∷ is) = by_bool (ltb i.end n)
    (λ e. rw (e, ends_before) (one_more n i (ends_before n is) e (ended_finished n is)))
    (λ e. rw (e, ends_before) (ended_finished n is))

-- the items of the extent that the end cuts off
cut_off : (r : Bool) (set : Place) (s n : ℕ) (raw : List ℕ) (is : List Item) (ms : List Meaning) → Shape s n raw ms
    → unfinished n (is ++ items_of r set s n ms) ≡ from s
unfolding unfinished
cut_off r set s n raw is ms (alone m) = of_last n is _ [] ∙ rw (eq-eqb n n refl)
cut_off r set s n raw is ms (pair h) = of_last n is _ _ ∙ rw (eq-eqb n n refl)

module _ (report : Bool) where
  extent_off : (is : List Item) (last : Place) (s : ℕ) (o : Outcome) (i : SoFar) → unfinished i.at (is ++ extent_items report last s o i) ≡ from s
  unfolding extent_items
  extent_off is last s o i =
      cut_off report (range_after report (standing report last) s o i) s i.at i.bytes is (meaning_of report o s i.at i.bytes) (shape s i.at i.bytes report o)

  -- the machine stands at n after the characters q
  pub breaks_off : (q : List ℕ) (m : Mode) (n : ℕ) (last : Place) → (advance report fresh q).after ≡ state m n last → n ≡ byte_count q
      → unfinished n (items report q) ≡ start_of m
  breaks_off q m n last e p =
      ap (unfinished n) (sym (run_items report q))
      ∙ ap (λ (l : List Item). unfinished n ((advance report fresh q).out ++ l)) (ap (finish report) e)
      ∙ go m
    where
      given : unfinished n (advance report fresh q).out ≡ nothing
      given = ap (unfinished n) (ready report q) ∙ ap (λ (k : ℕ). unfinished n (ends_before k (items report q))) (sym p) ∙ ended_finished n (items report q)

      none : unfinished n ((advance report fresh q).out ++ []) ≡ nothing
      none = ap (unfinished n) (append-nil (advance report fresh q).out) ∙ given

      go : (m : Mode) → unfinished n ((advance report fresh q).out ++ last_mode report m n last) ≡ start_of m
      go opening = none
      go pound = extent_off (advance report fresh q).out last 0 (finish_of AfterHash (pounded n).bytes) (pounded n)
      go skipping = none
      go idle = none
      go (busy s p raw) = extent_off (advance report fresh q).out last s (finish_of p raw) (so_far raw n)
