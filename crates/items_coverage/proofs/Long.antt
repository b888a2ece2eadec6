-- Stop 23 drops the item that it names: an item longer than any character was begun before its last one, so the text before that character
-- breaks off in the same item.
use Rattle.items.specs.declared.Next.{Next}
use Rattle.items.specs.declared.Next.TheVariants.{Eat, Stop}
use Rattle.items.specs.declared.Phase.TheVariants.{AfterHash}
use Rattle.items.specs.Items.{Place, items, byte_count}
use Rattle.items.specs.Machine.{step_of}
use Rattle.items.specs.Readers.{SoFar, so_far}
use Rattle.items.specs.Run.{Mode, opening, pound, skipping, idle, busy, Running, state, fresh, begin, pounded, on_next, Fed, feed, feed_mode, advance}
use Rattle.items.proofs.Ready.{place_after}
use Rattle.items.proofs.Run.{advance-after}
use Rattle.laws.specs.Quoted.{code}
use Rattle.laws.proofs.Choice.{if_all, impossible}
use Rattle.chars.specs.Blank.{is_blank}
use Rattle.chars.specs.Encode.{width}
use Rattle.chars.proofs.Width.{width_le}
use Rattle.pieces.specs.Expected.{longest, Unfinished, nothing, from, unfinished}
use Rattle.pieces.proofs.Kept.{count_snoc}
use Rattle.pieces.proofs.Unfinished.{start_of, breaks_off}
use Prim.Native.Nat.{ℕ, ◌+◌, ◌-◌, ◌<◌}
use mathlib.Core.Path.{◌≡◌, refl, sym, ap, ◌∙◌}
use mathlib.Core.Bool.{Bool, true, false, true≢false}
use mathlib.Core.List.{List, [], ◌∷◌, ◌++◌}
use lib.Dec.{eqb}
use native.Mathlib.Omega.{arith}

-- where an item starts, if there is one
abbrev start_or : ℕ → Unfinished → ℕ
start_or n nothing = n
start_or n (from s) = s

nowhere : {s : ℕ} → nothing ≡ from s → ⊥
nowhere e = impossible cc

abbrev at_start : Mode → Bool
at_start opening = true
at_start pound = false
at_start skipping = false
at_start idle = false
at_start (busy s p raw) = false

-- What a character that ends at t makes of the machine's mode m: an item in which it then stands, longer than any character, is the one in
-- which it stood; and it stands no longer at the start of the text
record Moved (m : Mode) (t : ℕ) (u : Running) : Type 0 where
  was : (s : ℕ) → start_of u.mode ≡ from s → longest < t - s → start_of m ≡ from s
  later : at_start u.mode ≡ false

module _ (report : Bool) where
  begin_moved : (m : Mode) (at : ℕ) (last : Place) (c : ℕ) → Moved m (at + width c) (begin at last c)
  begin_moved m at last c = if_all (λ (k : Mode). Moved m (at + width c) (state k (at + width c) last)) (is_blank c)
      (record { was = λ s e l. absurd (nowhere e); later = refl })
      (record { was = λ s e l. absurd (omega (arith, ap (start_or 0) e, width_le c)); later = refl })

  next_moved : (m : Mode) (s : ℕ) → start_of m ≡ from s → (n : Next) (last : Place) (i : SoFar) (c : ℕ)
      → Moved m (i.at + width c) (on_next report n last s i c).after
  next_moved m s e (Eat q) last i c = record { was = λ k f l. e ∙ f; later = refl }
  next_moved m s e (Stop o) last i c = begin_moved m i.at _ c

  feed_moved : (m : Mode) (at : ℕ) (last : Place) (c : ℕ) → (at_start m ≡ true → at ≡ 0) → Moved m (at + width c) (feed_mode report m at last c).after
  feed_moved opening at last c h = if_all (Moved opening (at + width c)) (eqb c (code "#"))
      (record { was = λ s e l. absurd (omega (arith, ap (start_or 0) e, h refl, width_le c)); later = refl })
      (begin_moved opening at last c)
  feed_moved pound at last c h = if_all (λ (f : Fed). Moved pound (at + width c) f.after) (eqb c (code "!"))
      (record { was = λ s e l. absurd (nowhere e); later = refl })
      (next_moved pound 0 refl (step_of report AfterHash (pounded at) c) last (pounded at) c)
  feed_moved skipping at last c h = if_all (Moved skipping (at + width c)) (eqb c (code "\n"))
      (begin_moved skipping at last c)
      (record { was = λ s e l. absurd (nowhere e); later = refl })
  feed_moved idle at last c h = begin_moved idle at last c
  feed_moved (busy s p raw) at last c h = next_moved (busy s p raw) s refl (step_of report p (so_far raw at) c) last (so_far raw at) c

  -- only before the first character does it stand at the start of the text
  only_first : (s : Running) (cs : List ℕ) → (at_start s.mode ≡ true → s.at ≡ 0)
      → at_start (advance report s cs).after.mode ≡ true → (advance report s cs).after.at ≡ 0
  unfolding advance
  only_first s [] h = h
  only_first s (c ∷ cs) h =
      only_first (feed report s c).after cs (λ e. absurd (true≢false (sym e ∙ (feed_moved s.mode s.at s.last c h).later)))

  -- the item that the text q with c breaks off in, if it is too long, is the one that q breaks off in
  pub begun_before : (q : List ℕ) (c t s : ℕ) → t ≡ byte_count (q ++ (c ∷ [])) → unfinished t (items report (q ++ (c ∷ []))) ≡ from s → longest < t - s
      → unfinished (byte_count q) (items report q) ≡ from s
  unfolding advance
  begun_before q c t s h e l =
      let k : List ℕ = q ++ (c ∷ []) in
      let a : Running = (advance report fresh q).after in
      let b : Running = (advance report fresh k).after in
      let before : a.at ≡ byte_count q = omega (arith, place_after report opening 0 fresh.last q) in
      let after : b.at ≡ byte_count k = omega (arith, place_after report opening 0 fresh.last k) in
      let next : b ≡ (feed report a c).after = advance-after report fresh q (c ∷ []) in
      let stands : start_of (feed report a c).after.mode ≡ from s
      = ap (λ (u : Running). start_of u.mode) (sym next)
      ∙ sym (breaks_off report k b.mode (byte_count k) b.last (ap (λ (n : ℕ). state b.mode n b.last) after) refl)
      ∙ ap (λ (n : ℕ). unfinished n (items report k)) (sym h)
      ∙ e in
      breaks_off report q a.mode (byte_count q) a.last (ap (λ (n : ℕ). state a.mode n a.last) before) refl
      ∙ (feed_moved a.mode a.at a.last c (only_first fresh q (λ _. refl))).was s stands (omega (arith, count_snoc q c))
