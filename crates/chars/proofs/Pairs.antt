-- A block whose bytes are paired is of whole characters: after each byte either a character ends, or the first byte of two stands and its
-- second follows.
use Prim.Native.Nat.{ℕ, zero, suc, ◌+◌, ◌≤◌, ◌<◌}
use native.Mathlib.Omega.{arith}
use mathlib.Core.Path.{◌≡◌, sym, subst, ◌∙◌}
use mathlib.Core.Bool.{Bool, true, false, ◌||◌}
use mathlib.Core.List.{List}
use lib.Dec.{leb, ltb}
use lib.ListN.{length, get_or}
use borrow.Author.Tests.{leb-true, leb-false, ltb-true, lt-leb, not-true}
use Rattle.laws.proofs.Choice.{by_bool, and_true, no_yes, if_all}
use Rattle.byte_runs.specs.Pairs.{lead, tail, agree, paired, Paired, pairs}
use Rattle.chars.specs.Wide.{Passed}
use Rattle.chars.proofs.Table.{within_in}
use Rattle.chars.proofs.Wide.{at_two, passed_none, passed_on, passed_wide, passed_small}

-- ---- the kinds of bytes

leads : (p : ℕ) → lead p ≡ true → (0xC2 ≤ p) × (p < 0xE0)
leads p e = let k = and_true (leb 0xC2 p) (ltb p 0xE0) e in (leb-true 0xC2 p k.0, ltb-true p 0xE0 k.1)

tails : (p : ℕ) → tail p ≡ true → (0x80 ≤ p) × (p < 0xC0)
tails p e = let k = and_true (leb 0x80 p) (ltb p 0xC0) e in (leb-true 0x80 p k.0, ltb-true p 0xC0 k.1)

-- a second byte is no first
no_lead : (p : ℕ) → tail p ≡ true → lead p ≡ false
no_lead p e = let k = tails p e in rw (lt-leb 0xC2 p (omega arith))

-- a byte that is neither is a character of ASCII
small : (p : ℕ) → (lead p || ltb p 0xC0) ≡ true → lead p ≡ false → tail p ≡ false → p < 0x80
small p e l t =
    let h : ltb p 0xC0 ≡ true = rw l at e in
    by_bool (leb 0x80 p)
    (λ k. no_yes (sym t ∙ rw (k, h)))
    (λ k. omega (arith, leb-false 0x80 p k))

-- ---- byte by byte

module _ (s : List ℕ) (at : ℕ) where
  -- after i bytes: a character ends, and the next byte is no second one; or a first byte of two was the last, and its second follows
  abbrev State : ℕ → Bool → Type 0
  State i false = Passed s at (at + i) × (tail (get_or s (at + i) 0) ≡ false)
  State zero true = ⊥
  State (suc j) true = Passed s at (at + j) × (lead (get_or s (at + j) 0) ≡ true) × (tail (get_or s (at + j + 1) 0) ≡ true)

  -- a character of two bytes
  two : (j : ℕ) → at + j + 1 < length s → State (suc j) true → Passed s at (at + j + 2)
  two j h x =
      let l = leads (get_or s (at + j) 0) x.1 in
      let t = tails (get_or s (at + j + 1) 0) x.2 in
      passed_on s at (at + j) (at + j + 2) x.0
      (passed_wide s (at + j) 2 (at_two s (at + j) h l.0 l.1 (within_in 0x80 0xBF (get_or s (at + j + 1) 0) t.0 (omega arith))))

  -- a state at a place that is written in another way
  ended : (n i : ℕ) → n ≡ at + i → Passed s at n → tail (get_or s n 0) ≡ false → State i false
  ended n i q x t = subst (λ (m : ℕ). Passed s at m × (tail (get_or s m 0) ≡ false)) q (x, t)

  -- a byte more
  step : (i : ℕ) (x : Bool) → at + i + 1 < length s → State i x → paired (get_or s (at + i) 0) (get_or s (at + i + 1) 0) ≡ true
      → State (suc i) (lead (get_or s (at + i) 0))
  step i false h x e =
      let p : ℕ = get_or s (at + i) 0 in
      let c : ℕ = get_or s (at + i + 1) 0 in
      let k = and_true (agree (lead p) (tail c)) (lead p || ltb p 0xC0) e in
      by_bool (lead p)
      (λ l. subst (State (suc i)) (sym l) (x.0, l, subst (λ (y : Bool). agree y (tail c) ≡ true) l k.0))
      (λ l. subst (State (suc i)) (sym l) (ended (at + i + 1) (suc i) (omega arith)
      (passed_on s at (at + i) (at + i + 1) x.0 (passed_small s (at + i) (omega arith) (small p k.1 l x.1)))
      (not-true (tail c) (subst (λ (y : Bool). agree y (tail c) ≡ true) l k.0))))
  step zero true h x e = absurd x
  step (suc j) true h x e =
      let p : ℕ = get_or s (at + suc j) 0 in
      let c : ℕ = get_or s (at + suc j + 1) 0 in
      let k = and_true (agree (lead p) (tail c)) (lead p || ltb p 0xC0) e in
      let q : at + j + 1 ≡ at + suc j = omega arith in
      let l = no_lead p (subst (λ (n : ℕ). tail (get_or s n 0) ≡ true) q x.2) in
      let r : at + j + 2 ≡ at + suc j + 1 = omega arith in
      subst (State (suc (suc j))) (sym l) (ended (at + suc j + 1) (suc (suc j)) (omega arith)
      (subst (λ (n : ℕ). Passed s at n) r (two j (omega arith) x)) (not-true (tail c) (subst (λ (y : Bool). agree y (tail c) ≡ true) l k.0)))

  -- the state after some bytes, by the last of them
  abbrev last : ℕ → Bool
  last zero = false
  last (suc m) = lead (get_or s (at + m) 0)

  run : (n : ℕ) → at + n < length s → tail (get_or s at 0) ≡ false
      → ((k : ℕ) → k < n → paired (get_or s (at + k) 0) (get_or s (at + k + 1) 0) ≡ true) → State n (last n)
  run zero h b e = ended at 0 (omega arith) (passed_none s at) b
  run (suc m) h b e = step m (last m) (omega arith) (run m (omega arith) b (λ k l. e k (omega arith))) (e m (omega arith))

  pub passed_pairs : Paired s at → Passed s at (at + pairs s at)
  passed_pairs w =
      let x : State (suc 15) (lead (get_or s (at + 15) 0)) = run (suc 15) w.room w.begins w.each in
      let q : at + 15 + 2 ≡ at + 17 = omega arith in
      by_bool (lead (get_or s (at + 15) 0))
      (λ l. rw l (subst (λ (n : ℕ). Passed s at n) q (two 15 (omega (arith, w.room)) (subst (State (suc 15)) l x))))
      (λ l. rw l (subst (State (suc 15)) l x).0)

  pub pairs_room : Paired s at → (1 ≤ pairs s at) × (at + pairs s at ≤ length s)
  pairs_room w = if_all (λ (n : ℕ). (1 ≤ n) × (at + n ≤ length s)) (lead (get_or s (at + 15) 0))
      (omega arith, omega (arith, w.room))
      (omega arith, omega (arith, w.room))
