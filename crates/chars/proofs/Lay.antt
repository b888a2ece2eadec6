-- Bytes stored one after the other from the front of a memory on are `lay`'s; one law for every count.
use Prim.Native.Nat.{ℕ, ◌≤◌, ◌<◌}
use native.Mathlib.Omega.{arith}
use native.Mathlib.Nat.{zero-add}
use mathlib.Core.Path.{◌≡◌, ap, ◌∙◌}
use mathlib.Core.Bool.{true, false}
use mathlib.Core.List.{List, []}
use lib.ListN.{length}
use lib.Seq.{sets, sets-eq}
use borrow.Author.Tests.{lt-ltb, le-ltb}
use Rattle.chars.specs.Encode.{is_scalar, utf8, width, encode, lay, laid}
use Rattle.chars.proofs.Width.{width-utf8}
use Rattle.chars.proofs.Round.{encode_scalar, encode_other}

pub lay_room : (w memory : List ℕ) → length w ≤ length memory → (length w ≡ laid w memory) × (sets memory 0 w ≡ lay w memory)
unfolding lay laid
lay_room w memory h =
    (simp (le-ltb (length memory) (length w) h), simp (le-ltb (length memory) (length w) h) (sets-eq w memory 0 (omega arith) ∙ rw zero-add))

pub lay_full : (w memory : List ℕ) → length memory < length w → (0 ≡ laid w memory) × (memory ≡ lay w memory)
unfolding lay laid
lay_full w memory h = (simp (lt-ltb (length memory) (length w) h), simp (lt-ltb (length memory) (length w) h))

-- ---- of a number's encoding, in a memory that has room for n bytes, as many as it is wide

module _ (c : ℕ) (memory : List ℕ) where
  -- no character
  pub lay_none : is_scalar c ≡ false → (0 ≡ laid (encode c) memory) × (memory ≡ lay (encode c) memory)
  lay_none e = rw (encode_other c e) (lay_room [] memory (omega arith))

  -- no room
  pub lay_short : (n : ℕ) → is_scalar c ≡ true → n ≡ width c → length memory < n → (0 ≡ laid (encode c) memory) × (memory ≡ lay (encode c) memory)
  lay_short n e k h = rw (encode_scalar c e) (lay_full (utf8 c) memory (omega (arith, width-utf8 c, k)))

  -- its bytes are w
  pub lay_bytes : (n : ℕ) (w : List ℕ) → is_scalar c ≡ true → n ≡ width c → n ≤ length memory → utf8 c ≡ w
      → (length w ≡ laid (encode c) memory) × (sets memory 0 w ≡ lay (encode c) memory)
  lay_bytes n w e k h u = rw (encode_scalar c e, u) (lay_room w memory (omega (arith, ap length u, width-utf8 c, k)))
