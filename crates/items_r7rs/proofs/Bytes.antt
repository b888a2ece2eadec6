-- The bytes of characters: an ASCII character is its byte, and the bytes of any other are past ASCII.
use Prim.Native.Nat.{ℕ, ◌+◌, ◌-◌, ◌≤◌}
use mathlib.Core.Path.{◌≡◌, refl, ap}
use mathlib.Core.Bool.{true, false}
use mathlib.Core.List.{List, [], ◌∷◌, ◌++◌}
use lib.ListN.{length}
use lib.Seq.{take_all}
use lib.Dec.{eqb, leb, ltb}
use native.Mathlib.Omega.{arith}
use native.Mathlib.Nat.{le_refl}
use borrow.Author.Tests.{lt-ltb, ne_eqb, ltb-true, leb-true}
use Rattle.laws.proofs.Choice.{by_bool, if_all}
use Rattle.items.proofs.Splits.{length_bytes}
use Rattle.chars.specs.Encode.{two, three, four, utf8, width, bytes_of}
use Rattle.chars.proofs.Width.{wide}
use Rattle.items.specs.Items.{byte_count}
use Rattle.items.specs.Meaning.{source}
use Rattle.items.specs.Readers.{first_is}
use Rattle.items_r7rs.specs.Reading.{spelling, bytes}
use Rattle.items_r7rs.specs.Repeated.{Many, done, more}

-- a byte past ASCII
abbrev pub High : ℕ → Type 0
High b = 0x80 ≤ b

pub utf8_low : (c : ℕ) → ltb c 0x80 ≡ true → utf8 c ≡ c ∷ []
unfolding utf8
utf8_low c h = rw h

-- bytes past ASCII, one at least
pub data Beyond : List ℕ → Type 0 where
  all_high : {b : ℕ} {bs : List ℕ} → High b → Many High bs → Beyond (b ∷ bs)

high_from : (k x : ℕ) → leb 0x80 k ≡ true → High (k + x)
high_from k x h = omega (arith, leb-true 0x80 k h)

module _ (c : ℕ) where
  two_high : Beyond (two c)
  two_high = all_high (high_from 0xC0 _ refl) (more (high_from 0x80 _ refl) done)

  three_high : Beyond (three c)
  three_high = all_high (high_from 0xE0 _ refl) (more (high_from 0x80 _ refl) (more (high_from 0x80 _ refl) done))

  four_high : Beyond (four c)
  four_high = all_high (high_from 0xF0 _ refl) (more (high_from 0x80 _ refl) (more (high_from 0x80 _ refl) (more (high_from 0x80 _ refl) done)))

  pub utf8_high : ltb c 0x80 ≡ false → Beyond (utf8 c)
  unfolding utf8
  utf8_high h = rw h (if_all Beyond (ltb c 0x800) two_high (if_all Beyond (ltb c 0x10000) three_high four_high))

pub bytes_ascii : (c : ℕ) (t : List ℕ) → ltb c 0x80 ≡ true → bytes_of (c ∷ t) ≡ c ∷ bytes_of t
unfolding bytes_of
bytes_ascii c t h = rw (utf8_low c h)

pub bytes_some : (c : ℕ) (t : List ℕ) → ltb 0 (length (bytes_of (c ∷ t))) ≡ true
bytes_some c t = rw (length_bytes (c ∷ t)) (lt-ltb 0 (width c + byte_count t) (omega (arith, wide c)))

-- the text of an item that is the item
pub spells_whole : (at : ℕ) (t : List ℕ) → spelling at (bytes_of t) (source at (at + byte_count t)) ≡ bytes (bytes_of t)
spells_whole at t =
    let e : at + byte_count t - at ≡ byte_count t = omega arith in
    let f : at - at ≡ 0 = omega arith in
    rw (e, f) (ap bytes (take_all (byte_count t) (bytes_of t) (rw (length_bytes t) (le_refl (byte_count t)))))

-- whether a text starts with an ASCII character is seen by its first byte
high_differs : (b : ℕ) (t : List ℕ) {bs : List ℕ} → ltb b 0x80 ≡ true → Beyond bs → first_is b (bs ++ t) ≡ false
high_differs b t h (all_high {b = x} l m) = ne_eqb x b (λ e. omega (arith, ltb-true b 0x80 h))

pub high_first : (b : ℕ) {bs : List ℕ} → ltb b 0x80 ≡ true → Beyond bs → first_is b bs ≡ false
high_first b h (all_high {b = x} l m) = ne_eqb x b (λ e. omega (arith, ltb-true b 0x80 h))

pub first_differs : (b c : ℕ) (t : List ℕ) → ltb b 0x80 ≡ true → eqb c b ≡ false → first_is b (bytes_of (c ∷ t)) ≡ false
unfolding bytes_of
first_differs b c t h e = by_bool (ltb c 0x80) (λ l. rw (utf8_low c l) e) (λ l. high_differs b (bytes_of t) h (utf8_high c l))
