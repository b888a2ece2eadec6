-- What holds of the machine whatever its phases are: a text may be cut anywhere, and the machine gives the items of the text. One
-- induction over an item (`busy_run`), one over the items (`idle_run`), and the first line before them.
use Rattle.items.specs.declared.Phase.{Phase}
use Rattle.items.specs.Classes.{first_of}
use Rattle.items.specs.Items.{unset, range_after, extent_items, items_from, items_at, past_line, after_pound, items, Place, Item}
use Rattle.items.specs.Machine.{step_of, on_first, scan_of}
use Rattle.items.specs.Readers.{so_far, eat, read_item, SoFar, Read}
use Rattle.items.specs.Run.{state, fresh, feed, advance, machine_items, pound, skipping, idle, busy, Running}
use Rattle.items.proofs.Cases.{by_next}
use Rattle.items.proofs.Same.{item_same}
use Rattle.laws.specs.Quoted.{code}
use Rattle.laws.proofs.Choice.{by_bool}
use Rattle.chars.specs.Blank.{is_blank}
use Rattle.chars.specs.Encode.{utf8, width}
use Prim.Native.Nat.{ℕ, zero, suc, ◌+◌, ◌≤◌}
use mathlib.Core.Path.{◌≡◌, refl, sym, ap, ◌∙◌}
use mathlib.Core.Bool.{Bool}
use mathlib.Core.List.{List, [], ◌∷◌, ◌++◌, append_assoc, append-nil}
use lib.ListN.{length}
use lib.Dec.{eqb}
use native.Mathlib.Omega.{arith}
use native.Mathlib.Nat.{le_refl, le_trans, le_of_suc-le-suc, not-suc-le-zero}
use borrow.Author.Tests.{eqb-true}
use Rattle.items.specs.declared.Phase.TheVariants as ph

module _ (report : Bool) where
  -- ---- running on after some characters

  pub advance_on : (s : Running) (xs ys : List ℕ)
      → (advance report s (xs ++ ys)).out ≡ (advance report s xs).out ++ (advance report (advance report s xs).after ys).out
  unfolding advance
  advance_on s [] ys = refl
  advance_on s (c ∷ xs) ys =
      ap (λ (l : List Item). (feed report s c).out ++ l) (advance_on (feed report s c).after xs ys) ∙ sym (append_assoc (feed report s c).out _ _)

  pub advance-after : (s : Running) (xs ys : List ℕ) → (advance report s (xs ++ ys)).after ≡ (advance report (advance report s xs).after ys).after
  unfolding advance
  advance-after s [] ys = refl
  advance-after s (c ∷ xs) ys = advance-after (feed report s c).after xs ys

  -- a text may be cut anywhere
  pub cut : (s : Running) (xs ys : List ℕ)
      → machine_items report s (xs ++ ys) ≡ (advance report s xs).out ++ machine_items report (advance report s xs).after ys
  cut s xs ys = rw (advance_on s xs ys, advance-after s xs ys) (append_assoc (advance report s xs).out _ _)

  -- ---- an item

  -- an item leaves no more characters than there were
  scan_left : (p : Phase) (i : SoFar) (cs : List ℕ) → length (scan_of report p i cs).rest ≤ length cs
  unfolding scan_of
  scan_left p i [] = le_refl 0
  scan_left p i (c ∷ cs) = by_next (step_of report p i c)
      (λ q e. rw (e, scan_of) (omega (arith, scan_left q (eat i c) cs)))
      (λ o e. rw (e, scan_of) (le_refl _))

  pub read_left : (at c : ℕ) (cs : List ℕ) → length (read_item report at c cs).rest ≤ length cs
  read_left at c cs = rw (item_same report at c cs) at (scan_left (on_first (first_of c)) (eat (so_far [] at) c) cs)

  -- the items of the extent that was read from s on, and those that the machine gives after it
  abbrev following : Place → ℕ → Read → List Item
  following last s r =
      extent_items report last s r.what r.item
      ++ machine_items report (state idle r.item.at (range_after report last s r.what r.item)) r.rest

  busy_run : (last : Place) (s : ℕ) (p : Phase) (i : SoFar) (cs : List ℕ)
      → machine_items report (state (busy s p i.bytes) i.at last) cs ≡ following last s (scan_of report p i cs)
  unfolding advance scan_of
  busy_run last s p i [] = sym (append-nil _)
  busy_run last s p i (c ∷ cs) = by_next (step_of report p i c)
      (λ q e. rw (e, advance, scan_of) (busy_run last s q (eat i c) cs))
      (λ o e. rw (e, advance, scan_of) (append_assoc (extent_items report last s o i) _ _))

  -- ---- the items

  -- as many turns as there are characters are enough
  idle_run : (turns : ℕ) (last : Place) (at : ℕ) (cs : List ℕ) → length cs ≤ turns
      → machine_items report (state idle at last) cs ≡ items_from report turns last at cs
  unfolding advance items_from
  idle_run zero last at [] h = refl
  idle_run zero last at (c ∷ cs) h = absurd (not-suc-le-zero h)
  idle_run (suc n) last at [] h = refl
  idle_run (suc n) last at (c ∷ cs) h = by_bool (is_blank c)
      (λ e. rw (e, advance, items_from) (idle_run n last (at + width c) cs (le_of_suc-le-suc h)))
      (λ e. rw (e, advance, items_from)
      (busy_run last at (on_first (first_of c)) (eat (so_far [] at) c) cs
      ∙ ap (following last at) (item_same report at c cs)
      ∙ (let r : Read = read_item report at c cs in
      ap (λ (l : List Item). extent_items report last at r.what r.item ++ l)
      (idle_run n (range_after report last at r.what r.item) r.item.at r.rest (le_trans (read_left at c cs) (le_of_suc-le-suc h))))))

  pub turns_enough : (n k : ℕ) (last : Place) (at : ℕ) (cs : List ℕ) → length cs ≤ n → length cs ≤ k
      → items_from report n last at cs ≡ items_from report k last at cs
  turns_enough n k last at cs h g = sym (idle_run n last at cs h) ∙ idle_run k last at cs g

  -- ---- the first line

  skipping_run : (at : ℕ) (cs : List ℕ) → machine_items report (state skipping at unset) cs ≡ past_line report at cs
  unfolding advance past_line
  skipping_run at [] = refl
  skipping_run at (c ∷ cs) = by_bool (eqb c (code "\n"))
      (λ e. rw (e, advance, past_line) (idle_run (suc (length cs)) unset at (c ∷ cs) (le_refl _)))
      (λ e. rw (e, advance, past_line) (skipping_run (at + width c) cs))

  -- a pound sign begins an item like any other, unless a first line
  pound_run : (cs : List ℕ) → machine_items report (state (busy 0 ph.AfterHash (code "#" ∷ [])) 1 unset) cs ≡ items_at report 0 (code "#" ∷ cs)
  unfolding advance width utf8 first_of is_blank
  pound_run cs = idle_run (suc (length cs)) unset 0 (code "#" ∷ cs) (le_refl _)

  after_pound_lem : (cs : List ℕ) → machine_items report (state pound 1 unset) cs ≡ after_pound report cs
  unfolding advance after_pound width
  after_pound_lem [] = pound_run []
  after_pound_lem (c ∷ cs) = by_bool (eqb c (code "!"))
      (λ e. rw (e, advance, after_pound) (ap (λ (k : ℕ). machine_items report (state skipping (1 + width k) unset) cs) (eqb-true c (code "!") e) ∙ skipping_run 2 cs))
      (λ e. rw (e, advance, after_pound) (pound_run (c ∷ cs)))

  -- the machine gives the items of the text
  pub run_items : (cs : List ℕ) → machine_items report fresh cs ≡ items report cs
  unfolding advance items width
  run_items [] = refl
  run_items (c ∷ cs) = by_bool (eqb c (code "#"))
      (λ e. rw (e, advance, items) (ap (λ (k : ℕ). machine_items report (state pound (0 + width k) unset) cs) (eqb-true c (code "#") e) ∙ after_pound_lem cs))
      (λ e. rw (e, advance, items) (idle_run (suc (length cs)) unset 0 (c ∷ cs) (le_refl _)))
