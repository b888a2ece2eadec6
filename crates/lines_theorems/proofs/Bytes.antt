-- Which bytes start a character: those of ASCII and those from 0xC0 on, since the bytes within a character are those from 0x80 to 0xBF.
-- So a law M of the places between characters holds wherever such a byte stands, and after a byte of ASCII one stands or the text ends.
use Prim.Native.Nat.{ℕ, zero, suc, ◌+◌, ◌/◌, ◌%◌, ◌≤◌, ◌<◌}
use mathlib.Core.Path.{◌≡◌, ap, subst}
use mathlib.Core.List.{List, [], ◌∷◌, ◌++◌}
use mathlib.Core.Logic.{◌⊎◌, inl, inr}
use lib.ListN.{length, get_or, take, drop}
use lib.Dec.{ltb}
use native.Mathlib.Omega.{arith}
use borrow.Author.Tests.{ltb-true, ltb-false}
use Rattle.laws.proofs.Choice.{by_bool}
use Rattle.chars.specs.Encode.{utf8, width, bytes_of}
use Rattle.chars.proofs.Width.{width-utf8, utf8-one, utf8-two, utf8-three, utf8-four}
use Rattle.items.proofs.Every.{Every}
use Rattle.lines_theorems.proofs.Along.{Along}

-- b starts a character
abbrev pub Starts : ℕ → Type 0
Starts b = (b < 0x80) ⊎ (0xC0 ≤ b)

-- b stands within a character
abbrev pub Within : ℕ → Type 0
Within b = (0x80 ≤ b) × (b < 0xC0)

within_starts : {P : Type 0} (b : ℕ) → Within b → Starts b → P
within_starts b h (inl g) = absurd (omega arith)
within_starts b h (inr g) = absurd (omega arith)

-- the bytes of the character c
pub data Spelt (c : ℕ) : List ℕ → Type 0 where
  low : c < 0x80 → Spelt c (c ∷ [])
  high : (x : ℕ) (u : List ℕ) → 0xC0 ≤ x → Every Within u → Spelt c (x ∷ u)

-- a first byte of two, three or four, and the others
shaped : (c x : ℕ) (u : List ℕ) → utf8 c ≡ x ∷ u → 0xC0 ≤ x → Every Within u → Spelt c (utf8 c)
shaped c x u e h r = rw e (high x u h r)

within : (y : ℕ) → Within (0x80 + y % 64)
within y = (omega arith, omega arith)

pub spelt : (c : ℕ) → Spelt c (utf8 c)
spelt c =
    by_bool (ltb c 0x80)
    (λ e. let h : c < 0x80 = ltb-true c 0x80 e in rw (utf8-one c h) (low h))
    (λ e. let h : 0x80 ≤ c = ltb-false c 0x80 e in by_bool (ltb c 0x800)
    (λ f. shaped c (0xC0 + c / 64) _ (utf8-two c h (ltb-true c 0x800 f)) (omega arith) (within c, tt))
    (λ f. let g : 0x800 ≤ c = ltb-false c 0x800 f in by_bool (ltb c 0x10000)
    (λ k. shaped c (0xE0 + c / 4096) _ (utf8-three c g (ltb-true c 0x10000 k)) (omega arith) (within (c / 64), (within c, tt)))
    (λ k. shaped c (0xF0 + c / 262144) _ (utf8-four c (ltb-false c 0x10000 k)) (omega arith) (within (c / 4096), (within (c / 64), (within c, tt))))))

-- but for its first byte, no byte of a character starts one
pub inner_byte : {P : Type 0} (c n : ℕ) → 0 < n → n < length (utf8 c) → Starts (get_or (utf8 c) n 0) → P
inner_byte {P} c n some h g = go (utf8 c) (spelt c) n some h g
  where
    later : (u : List ℕ) (n : ℕ) → Every Within u → n < length u → Starts (get_or u n 0) → P
    later [] n r h g = absurd (omega arith)
    later (b ∷ u) zero r h g = within_starts b r.0 g
    later (b ∷ u) (suc n) r h g = later u n r.1 (omega arith) g

    go : (u : List ℕ) → Spelt c u → (n : ℕ) → 0 < n → n < length u → Starts (get_or u n 0) → P
    go u s zero some h g = absurd (omega arith)
    go u (low l) (suc n) some h g = absurd (omega arith)
    go u (high x v l r) (suc n) some h g = later v n r (omega arith) g

-- ---- bytes in a row

-- M holds where a byte stands that starts a character; the first byte stands at the place `at`
abbrev pub Placed : (ℕ → Type 0) → ℕ → List ℕ → Type 0
Placed M at [] = Unit {0}
Placed M at (b ∷ l) = (Starts b → M at) × Placed M (at + 1) l

-- the first byte, where there is one, starts a character
abbrev pub Fresh : List ℕ → Type 0
Fresh [] = Unit {0}
Fresh (b ∷ l) = Starts b

-- after a byte of ASCII comes one that starts a character
abbrev pub Tidy : List ℕ → Type 0
Tidy [] = Unit {0}
Tidy (b ∷ l) = (b < 0x80 → Fresh l) × Tidy l

-- of the bytes of characters all three hold
pub fresh_char : (c : ℕ) (l : List ℕ) → Fresh (utf8 c ++ l)
fresh_char c l = go (utf8 c) (spelt c)
  where
    go : (u : List ℕ) → Spelt c u → Fresh (u ++ l)
    go u (low h) = inl h
    go u (high x v h r) = inr h

fresh : (cs : List ℕ) → Fresh (bytes_of cs)
unfolding bytes_of
fresh [] = tt
fresh (c ∷ cs) = fresh_char c (bytes_of cs)

pub tidy : (cs : List ℕ) → Tidy (bytes_of cs)
unfolding bytes_of
tidy [] = tt
tidy (c ∷ cs) = go (utf8 c) (spelt c) (tidy cs)
  where
    inner : (u : List ℕ) → Every Within u → Tidy (bytes_of cs) → Tidy (u ++ bytes_of cs)
    inner [] r t = t
    inner (b ∷ u) r t = (λ h. absurd (omega (arith, r.0.0)), inner u r.1 t)

    go : (u : List ℕ) → Spelt c u → Tidy (bytes_of cs) → Tidy (u ++ bytes_of cs)
    go u (low h) t = (λ _. fresh cs, t)
    go u (high x v h r) t = (λ l. absurd (omega arith), inner v r t)

module _ (M : ℕ → Type 0) where
  pub placed : (at : ℕ) (cs : List ℕ) → Along M at cs → Placed M at (bytes_of cs)
  unfolding bytes_of
  placed at [] h = tt
  placed at (c ∷ cs) h = go (utf8 c) (spelt c) (ap (λ (n : ℕ). at + n) (width-utf8 c)) (placed (at + width c) cs h.1)
    where
      inner : (u : List ℕ) (p : ℕ) → Every Within u → p + length u ≡ at + width c → Placed M (at + width c) (bytes_of cs) → Placed M p (u ++ bytes_of cs)
      inner [] p r e l = let z : p ≡ at + width c = omega (arith, e) in rw z l
      inner (b ∷ u) p r e l = (λ g. within_starts b r.0 g, inner u (p + 1) r.1 (omega (arith, e)) l)

      go : (u : List ℕ) → Spelt c u → at + length u ≡ at + width c → Placed M (at + width c) (bytes_of cs) → Placed M at (u ++ bytes_of cs)
      go u (low k) e l = (λ _. h.0, inner [] (at + 1) tt (omega (arith, e)) l)
      go u (high x v k r) e l = (λ _. h.0, inner v (at + 1) r (omega (arith, e)) l)

-- ---- parts of them

pub fresh_take : (n : ℕ) (l : List ℕ) → Fresh l → Fresh (take n l)
fresh_take zero l h = tt
fresh_take (suc n) [] h = tt
fresh_take (suc n) (b ∷ l) h = h

pub tidy_take : (n : ℕ) (l : List ℕ) → Tidy l → Tidy (take n l)
tidy_take zero l h = tt
tidy_take (suc n) [] h = tt
tidy_take (suc n) (b ∷ l) h = (λ g. fresh_take n l (h.0 g), tidy_take n l h.1)

pub tidy_drop : (n : ℕ) (l : List ℕ) → Tidy l → Tidy (drop n l)
tidy_drop zero l h = h
tidy_drop (suc n) [] h = tt
tidy_drop (suc n) (b ∷ l) h = tidy_drop n l h.1

-- what follows a byte of ASCII
pub fresh_after : (n : ℕ) (l : List ℕ) → n < length l → Tidy l → get_or l n 0 < 0x80 → Fresh (drop (suc n) l)
fresh_after n [] k h g = tt
fresh_after zero (b ∷ l) k h g = h.0 g
fresh_after (suc n) (b ∷ l) k h g = fresh_after n l (omega arith) h.1 g

pub fresh_at : (n : ℕ) (l : List ℕ) → n < length l → Fresh (drop n l) → Starts (get_or l n 0)
fresh_at n [] k h = absurd (omega arith)
fresh_at zero (b ∷ l) k h = h
fresh_at (suc n) (b ∷ l) k h = fresh_at n l (omega arith) h

pub placed_take : (M : ℕ → Type 0) (n at : ℕ) (l : List ℕ) → Placed M at l → Placed M at (take n l)
placed_take M zero at l h = tt
placed_take M (suc n) at [] h = tt
placed_take M (suc n) at (b ∷ l) h = (h.0, placed_take M n (at + 1) l h.1)

pub placed_at : (M : ℕ → Type 0) (n at : ℕ) (l : List ℕ) → n < length l → Placed M at l → Starts (get_or l n 0) → M (at + n)
placed_at M n at [] k h g = absurd (omega arith)
placed_at M zero at (b ∷ l) k h g = let z : at ≡ at + 0 = omega arith in subst M z (h.0 g)
placed_at M (suc n) at (b ∷ l) k h g = let z : at + 1 + n ≡ at + suc n = omega arith in subst M z (placed_at M n (at + 1) l (omega arith) h.1 g)
