-- Characters as bytes: which byte a character starts with, and where a newline may stand.
use Prim.Native.Nat.{ℕ, zero, suc, ◌+◌, ◌≤◌, ◌<◌}
use mathlib.Core.Path.{◌≡◌, sym, ap, ◌∙◌}
use mathlib.Core.Bool.{false}
use mathlib.Core.List.{List, [], ◌∷◌, ◌++◌}
use lib.ListN.{length, get_or, drop, length-append, get_or-append}
use lib.Seq.{drop-drop, drop-append_seam}
use lib.Dec.{eqb, ltb}
use native.Mathlib.Omega.{arith}
use borrow.Author.Tests.{ltb-true, ltb-false, ne_eqb, eqb-false}
use Rattle.laws.specs.Texts.{span, before, begins}
use Rattle.laws.proofs.Choice.{by_bool}
use Rattle.chars.specs.Encode.{two, three, four, utf8, bytes_of}
use Rattle.items.proofs.Every.{Every}
use Rattle.chars.proofs.Width.{wide, width-utf8, utf8-one, utf8-two, utf8-three, utf8-four}

-- in a text: bytes that stand at a place, and what follows them
pub passed : (whole : List ℕ) (at : ℕ) (u bs : List ℕ) → drop at whole ≡ u ++ bs → drop (at + length u) whole ≡ bs
passed whole at u bs e = sym (drop-drop (length u) at whole) ∙ ap (drop (length u)) e ∙ drop-append_seam u bs

-- a character has a byte
pub bytes_some : (c : ℕ) (t : List ℕ) → 0 < length (bytes_of (c ∷ t))
unfolding bytes_of
bytes_some c t = omega (arith, length-append (utf8 c) (bytes_of t), width-utf8 c, wide c)

-- a character of ASCII is its byte; every other has bytes past ASCII alone
abbrev pub High : ℕ → Type 0
High b = 0x80 ≤ b

pub data Spelt (c : ℕ) : List ℕ → Type 0 where
  low : c < 0x80 → Spelt c (c ∷ [])
  high : (x : ℕ) (u : List ℕ) → 0x80 ≤ c → Every High (x ∷ u) → Spelt c (x ∷ u)

pub spelt : (c : ℕ) → Spelt c (utf8 c)
spelt c = by_bool (ltb c 0x80)
    (λ e. let h : c < 0x80 = ltb-true c 0x80 e in rw (utf8-one c h) (low h))
    (λ e. let h : 0x80 ≤ c = ltb-false c 0x80 e in by_bool (ltb c 0x800)
    (λ f. let r : Every High (two c) = (omega arith, (omega arith, tt)) in rw (utf8-two c h (ltb-true c 0x800 f)) (high _ _ h r))
    (λ f. let g : 0x800 ≤ c = ltb-false c 0x800 f in by_bool (ltb c 0x10000)
    (λ k. let r : Every High (three c) = (omega arith, (omega arith, (omega arith, tt))) in rw (utf8-three c g (ltb-true c 0x10000 k)) (high _ _ h r))
    (λ k. let r : Every High (four c) = (omega arith, (omega arith, (omega arith, (omega arith, tt)))) in
    rw (utf8-four c (ltb-false c 0x10000 k)) (high _ _ h r))))

module _ (b : ℕ) (ascii : b < 0x80) where
  not_high : (x : ℕ) → High x → eqb x b ≡ false
  not_high x h = ne_eqb x b (λ z. omega arith)

  -- where b is a byte of a character, it is that character
  pub byte_char : (c k : ℕ) → k < length (utf8 c) → get_or (utf8 c) k 0 ≡ b → c ≡ b
  byte_char c k h e = go (utf8 c) (spelt c) h e
    where
      no_b : (k : ℕ) (u : List ℕ) → Every High u → k < length u → get_or u k 0 ≡ b → ⊥
      no_b k [] g h e = omega arith
      no_b zero (x ∷ u) g h e = omega (arith, g.0)
      no_b (suc k) (x ∷ u) g h e = no_b k u g.1 (omega arith) e

      go : (u : List ℕ) → Spelt c u → k < length u → get_or u k 0 ≡ b → c ≡ b
      go u (low g) h e = let z : k ≡ 0 = omega arith in rw z at e
      go u (high x v g r) h e = absurd (no_b k (x ∷ v) r h e)

  -- what starts with b starts with that character
  pub first_char : (c : ℕ) (l : List ℕ) → get_or (utf8 c ++ l) 0 0 ≡ b → c ≡ b
  first_char c l e =
      let some : 0 < length (utf8 c) = omega (arith, width-utf8 c, wide c) in
      byte_char c 0 some (sym (get_or-append (utf8 c) l 0 0 some) ∙ e)

  -- bytes up to the first b: another character's are among them
  pub before_char : (c : ℕ) (l : List ℕ) → eqb c b ≡ false → before b (utf8 c ++ l) ≡ length (utf8 c) + before b l
  unfolding span
  before_char c l e = go (utf8 c) (spelt c)
    where
      pass : (u : List ℕ) → Every High u → before b (u ++ l) ≡ length u + before b l
      pass [] h = omega arith
      pass (x ∷ u) h = rw (not_high x h.0) (omega (arith, pass u h.1))

      go : (u : List ℕ) → Spelt c u → before b (u ++ l) ≡ length u + before b l
      go u (low g) = rw e (omega arith)
      go u (high x v g r) = pass (x ∷ v) r

  -- a text that starts with another character does not start with b
  pub begins_other : (c : ℕ) (p l : List ℕ) → eqb c b ≡ false → begins (b ∷ p) (utf8 c ++ l) ≡ false
  unfolding begins
  begins_other c p l e = go (utf8 c) (spelt c)
    where
      go : (u : List ℕ) → Spelt c u → begins (b ∷ p) (u ++ l) ≡ false
      go u (low g) = rw (ne_eqb b c (λ z. eqb-false c b e (sym z)))
      go u (high x v g r) = let h : High x = r.0 in rw (ne_eqb b x (λ z. omega arith))
