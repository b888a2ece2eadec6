-- The front of a text of characters is whole characters where characters follow it: only a character's first byte can begin one.
use Prim.Native.Nat.{ℕ, ◌+◌, ◌/◌, ◌%◌, ◌≤◌, ◌<◌}
use mathlib.Core.Path.{◌≡◌, refl, sym, subst}
use mathlib.Core.Bool.{true}
use mathlib.Core.List.{List, [], ◌∷◌, ◌++◌}
use mathlib.Core.Logic.{◌⊎◌, inl, inr, ⊎_elim}
use lib.Dec.{ltb}
use native.Mathlib.Omega.{arith}
use borrow.Author.Tests.{ltb-true}
use Rattle.laws.proofs.Choice.{if_is, if_all, impossible}
use Rattle.chars.specs.Encode.{is_scalar, utf8, bytes_of}
use Rattle.chars.proofs.Good.{Scalars}
use Rattle.items_r7rs.specs.Repeated.{Many, done, more}
use Rattle.items_writing_theorems.proofs.Characters.{Texty, texty_none, texty_more}

-- a character's first byte, and each further one
abbrev Lead : ℕ → Type 0
Lead x = (x < 0x80) ⊎ (0xC0 ≤ x)

abbrev Tail : ℕ → Type 0
Tail x = (0x80 ≤ x) × (x < 0xC0)

data Spelt : List ℕ → Type 0 where
  spelt : {x : ℕ} {xs : List ℕ} → Lead x → Many Tail xs → Spelt (x ∷ xs)

tail_is : (n : ℕ) → Tail (0x80 + n % 64)
tail_is n = (omega arith, omega arith)

utf8_spelt : (c : ℕ) → Spelt (utf8 c)
unfolding utf8
utf8_spelt c =
    if_is Spelt (ltb c 0x80) (λ e. spelt (inl (ltb-true c 0x80 e)) done)
    (λ _. if_all Spelt (ltb c 0x800) (spelt (inr (omega arith)) (more (tail_is c) done))
    (if_all Spelt (ltb c 0x10000) (spelt (inr (omega arith)) (more (tail_is (c / 64)) (more (tail_is c) done)))
    (spelt (inr (omega arith)) (more (tail_is (c / 4096)) (more (tail_is (c / 64)) (more (tail_is c) done))))))

lead_or_tail : {x : ℕ} → Lead x → Tail x → ⊥
lead_or_tail l t = ⊎_elim (λ h. omega arith) (λ h. omega arith) l

-- what is left of the front after some bytes of a character
abbrev Left : List ℕ → List ℕ → List ℕ → List ℕ → Type 0
Left xs r p d = (q : List ℕ) × ((p ≡ xs ++ q) × (r ≡ q ++ d))

-- no text of characters starts with a later byte of one
no_tail : (z : ℕ) (l d : List ℕ) → Tail z → z ∷ l ≡ bytes_of d → ⊥
unfolding bytes_of
no_tail z l [] t e = impossible cc
no_tail z l (c ∷ d) t e = go (utf8_spelt c) e
  where
    go : {bs : List ℕ} → Spelt bs → z ∷ l ≡ bs ++ bytes_of d → ⊥
    go (spelt {x = x} h m) f = let y : z ≡ x = cc in lead_or_tail h (subst Tail y t)

peel : (xs : List ℕ) → Many Tail xs → (r p d : List ℕ) → xs ++ r ≡ p ++ bytes_of d → Left xs r p (bytes_of d)
peel [] m r p d e = (p, (refl, e))
peel (z ∷ xs) (more h m) r [] d e = absurd (no_tail z (xs ++ r) d h e)
peel (z ∷ xs) (more h m) r (y ∷ p) d e =
    let f : z ≡ y = cc in
    let g : xs ++ r ≡ p ++ bytes_of d = cc in
    let k = peel xs m r p d g in
    (k.0, (cc k.1.0, k.1.1))

one_peeled : {bs : List ℕ} → Spelt bs → (r : List ℕ) (y : ℕ) (p d : List ℕ) → bs ++ r ≡ y ∷ p ++ bytes_of d → Left bs r (y ∷ p) (bytes_of d)
one_peeled (spelt {x = x} {xs = xs} h m) r y p d e =
    let f : x ≡ y = cc in
    let g : xs ++ r ≡ p ++ bytes_of d = cc in
    let k = peel xs m r p d g in
    (k.0, (cc k.1.0, k.1.1))

no_front : (p d : List ℕ) → [] ≡ p ++ d → Texty p
no_front [] d e = texty_none
no_front (y ∷ p) d e = impossible cc

-- one character more
more_front : (c : ℕ) (b : List ℕ) → is_scalar c ≡ true → ((p d : List ℕ) → bytes_of b ≡ p ++ bytes_of d → Texty p)
    → (p d : List ℕ) → utf8 c ++ bytes_of b ≡ p ++ bytes_of d → Texty p
more_front c b h f [] d e = texty_none
more_front c b h f (y ∷ p) d e =
    let k = one_peeled (utf8_spelt c) (bytes_of b) y p d e in
    subst Texty (sym k.1.0) (texty_more c h (f k.0 d k.1.1))

pub whole_front : (b : List ℕ) → Scalars b → (p d : List ℕ) → bytes_of b ≡ p ++ bytes_of d → Texty p
unfolding bytes_of
whole_front [] h p d e = no_front p (bytes_of d) e
whole_front (c ∷ b) h p d e = more_front c b h.0 (λ q g k. whole_front b h.1 q g k) p d e
