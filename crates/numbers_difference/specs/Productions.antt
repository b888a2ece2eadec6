-- The productions of R7RS 7.1.1 below <number> that have no parts of their own: letters, digits, signs and prefixes. A type for a
-- production, a constructor for an alternative. No reader's definition is used here.
use Rattle.std.specs.Prelude.{ℕ, ◌<◌, ◌≡◌, Bool, true, false, List, [], ◌∷◌}
use Prim.Native.String.{String}
use Rattle.laws.specs.Quoted.{code, codes}
use Rattle.digits.specs.Digits.{digit_of}
use Rattle.laws.specs.Letters.{lower}

-- "case is not significant": c is the letter x, in either case
pub data Letter (x : String) (c : ℕ) : Type 0 where
  letter : lower c ≡ code x → Letter x c

-- <digit R>*
pub data Digits (R : ℕ) : List ℕ → Type 0 where
  none : Digits R []
  more : {c : ℕ} {s : List ℕ} → digit_of c < R → Digits R s → Digits R (c ∷ s)

-- <uinteger R> → <digit R>+
pub data UInteger (R : ℕ) : List ℕ → Type 0 where
  uint : {c : ℕ} {s : List ℕ} → digit_of c < R → Digits R s → UInteger R (c ∷ s)

-- <sign> → <empty> | + | -, and whether it is -
pub data Sign : List ℕ → Bool → Type 0 where
  empty : Sign [] false
  positive : Sign (codes "+") false
  negative : Sign (codes "-") true

-- <prefix R> → <radix R>; <radix 2> → #b, <radix 8> → #o, <radix 10> → <empty> | #d, <radix 16> → #x
pub data Prefix : ℕ → List ℕ → Type 0 where
  empty : Prefix 10 []
  binary : {c : ℕ} → Letter "b" c → Prefix 2 (code "#" ∷ c ∷ [])
  octal : {c : ℕ} → Letter "o" c → Prefix 8 (code "#" ∷ c ∷ [])
  decimal : {c : ℕ} → Letter "d" c → Prefix 10 (code "#" ∷ c ∷ [])
  hex : {c : ℕ} → Letter "x" c → Prefix 16 (code "#" ∷ c ∷ [])
