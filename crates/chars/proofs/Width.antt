-- How wide a character is: from one byte to four, and as many as its encoding has. And the line of the encoding's table that a code
-- point is on.
use Prim.Native.Nat.{ℕ, ◌≤◌, ◌<◌}
use native.Mathlib.Omega.{arith}
use mathlib.Core.Path.{◌≡◌}
use lib.Dec.{ltb}
use lib.ListN.{length}
use borrow.Author.Tests.{lt-ltb, le-ltb}
use Rattle.laws.proofs.Choice.{by_bool, if_all}
use Rattle.chars.specs.Encode.{one, two, three, four, utf8, width}

pub wide : (c : ℕ) → 0 < width c
unfolding width
wide c =
    let P : ℕ → Type 0 = λ n. 0 < n in
    if_all P (ltb c 0x80) (omega arith) (if_all P (ltb c 0x800) (omega arith) (if_all P (ltb c 0x10000) (omega arith) (omega arith)))

pub width_le : (c : ℕ) → width c ≤ 4
unfolding width
width_le c =
    let P : ℕ → Type 0 = λ n. n ≤ 4 in
    if_all P (ltb c 0x80) (omega arith) (if_all P (ltb c 0x800) (omega arith) (if_all P (ltb c 0x10000) (omega arith) (omega arith)))

module _ (c : ℕ) where
  pub utf8-one : c < 0x80 → utf8 c ≡ one c
  unfolding utf8
  utf8-one h = rw (lt-ltb c 0x80 h)

  pub utf8-two : 0x80 ≤ c → c < 0x800 → utf8 c ≡ two c
  unfolding utf8
  utf8-two g h = rw (le-ltb c 0x80 g, lt-ltb c 0x800 h)

  pub utf8-three : 0x800 ≤ c → c < 0x10000 → utf8 c ≡ three c
  unfolding utf8
  utf8-three g h = rw (le-ltb c 0x80 (omega arith), le-ltb c 0x800 g, lt-ltb c 0x10000 h)

  pub utf8-four : 0x10000 ≤ c → utf8 c ≡ four c
  unfolding utf8
  utf8-four g = rw (le-ltb c 0x80 (omega arith), le-ltb c 0x800 (omega arith), le-ltb c 0x10000 g)

pub width-utf8 : (c : ℕ) → length (utf8 c) ≡ width c
unfolding utf8 width
width-utf8 c =
    by_bool (ltb c 0x80) (λ e. rw e) (λ e. rw e (by_bool (ltb c 0x800) (λ f. rw f) (λ f. rw f (by_bool (ltb c 0x10000) (λ g. rw g) (λ g. rw g)))))

-- how wide a code point is at least, by the first of each width
module _ (c : ℕ) where
  pub width_two : 0x80 ≤ c → 2 ≤ width c
  unfolding width
  width_two h = rw (le-ltb c 0x80 h) (if_all P (ltb c 0x800) (omega arith) (if_all P (ltb c 0x10000) (omega arith) (omega arith)))
    where
      P : ℕ → Type 0
      P n = 2 ≤ n

  pub width_three : 0x800 ≤ c → 3 ≤ width c
  unfolding width
  width_three h = rw (le-ltb c 0x80 (omega arith), le-ltb c 0x800 h) (if_all P (ltb c 0x10000) (omega arith) (omega arith))
    where
      P : ℕ → Type 0
      P n = 3 ≤ n

  pub width_four : 0x10000 ≤ c → 4 ≤ width c
  unfolding width
  width_four h = rw (le-ltb c 0x80 (omega arith), le-ltb c 0x800 (omega arith), le-ltb c 0x10000 h) (omega arith)
