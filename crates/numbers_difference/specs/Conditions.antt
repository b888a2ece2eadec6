-- On which texts the two number readers differ: three conditions on the text's characters and their order. No reader's definition is
-- used here. What a <number> of R7RS 7.1.1 is stands first, as a shape of text: the productions without parts and places.
use Rattle.std.specs.Prelude.{ℕ, ◌≡◌, Bool, true, false, ◌&&◌, ◌||◌, List, [], ◌∷◌, ◌++◌, map, ◌⊎◌, eqb, if◌then◌else◌}
use Rattle.laws.specs.Quoted.{code, codes}
use Rattle.laws.specs.Letters.{lower, is_sign}
use Rattle.numbers_difference.specs.Productions.{Letter, Digits, UInteger, Sign, Prefix}

-- <suffix>
pub data SuffixText : List ℕ → Type 0 where
  empty : SuffixText []
  exponent : {c : ℕ} {g d : List ℕ} {n : Bool} → Letter "e" c → Sign g n → UInteger 10 d → SuffixText (c ∷ (g ++ d))

-- <decimal 10>
pub data DecimalText : List ℕ → Type 0 where
  whole : {d : List ℕ} {c : ℕ} {x : List ℕ} → UInteger 10 d → SuffixText (c ∷ x) → DecimalText (d ++ c ∷ x)
  point : {f x : List ℕ} → UInteger 10 f → SuffixText x → DecimalText (code "." ∷ (f ++ x))
  both : {d f x : List ℕ} → UInteger 10 d → Digits 10 f → SuffixText x → DecimalText (d ++ code "." ∷ (f ++ x))

-- <ureal R>
pub data URealText (R : ℕ) : List ℕ → Type 0 where
  integer : {s : List ℕ} → UInteger R s → URealText R s
  rational : {a b : List ℕ} → UInteger R a → UInteger R b → URealText R (a ++ code "/" ∷ b)
  decimal : {s : List ℕ} → R ≡ 10 → DecimalText s → URealText R s

-- <infnan>, letters in either case
abbrev pub InfnanText : List ℕ → Type 0
InfnanText s =
    (map lower s ≡ codes "+inf.0") ⊎ ((map lower s ≡ codes "-inf.0") ⊎ ((map lower s ≡ codes "+nan.0") ⊎ (map lower s ≡ codes "-nan.0")))

-- <real R>
pub data RealText (R : ℕ) : List ℕ → Type 0 where
  ureal : {g s : List ℕ} {n : Bool} → Sign g n → URealText R s → RealText R (g ++ s)
  infnan : {s : List ℕ} → InfnanText s → RealText R s

-- + <ureal R>, - <ureal R>, <infnan>, + or -, before an i
pub data ImaginaryText (R : ℕ) : List ℕ → Type 0 where
  positive : {s : List ℕ} → URealText R s → ImaginaryText R (code "+" ∷ s)
  negative : {s : List ℕ} → URealText R s → ImaginaryText R (code "-" ∷ s)
  infnan : {s : List ℕ} → InfnanText s → ImaginaryText R s
  one : ImaginaryText R (codes "+")
  minus_one : ImaginaryText R (codes "-")

-- <complex R>
pub data ComplexText (R : ℕ) : List ℕ → Type 0 where
  real : {s : List ℕ} → RealText R s → ComplexText R s
  polar : {a b : List ℕ} → RealText R a → RealText R b → ComplexText R (a ++ code "@" ∷ b)
  rectangular : {a b : List ℕ} {c : ℕ} → RealText R a → ImaginaryText R b → Letter "i" c → ComplexText R (a ++ (b ++ c ∷ []))
  imaginary : {b : List ℕ} {c : ℕ} → ImaginaryText R b → Letter "i" c → ComplexText R (b ++ c ∷ [])

-- <number> → <prefix R> <complex R>
pub data NumberText : List ℕ → Type 0 where
  num : {R : ℕ} {g s : List ℕ} → Prefix R g → ComplexText R s → NumberText (g ++ s)

-- whether some character c of s passes `hit b c`, where b is what `next` says of the characters before it
unfoldable pub somewhere : (Bool → ℕ → Bool) → (Bool → ℕ → Bool) → Bool → List ℕ → Bool
somewhere hit next b [] = false
somewhere hit next b (c ∷ s) = if hit b c then true else somewhere hit next (next b c) s

-- an upper-case I or N, or an upper-case F or A right after an n: the letters of i, inf and nan that are no digits there
unfoldable pub is_capital : Bool → ℕ → Bool
is_capital after_n c = eqb c (code "I") || (eqb c (code "N") || (after_n && (eqb c (code "F") || eqb c (code "A"))))

unfoldable pub is_n : Bool → ℕ → Bool
is_n before c = eqb c (code "n")

abbrev pub capital : Bool → List ℕ → Bool
capital = somewhere is_capital is_n

-- a sign right after an odd number of e's, in either case
unfoldable pub sign_after : Bool → ℕ → Bool
sign_after odd c = odd && is_sign c

unfoldable pub odd_e : Bool → ℕ → Bool
odd_e odd c = if odd then false else eqb c (code "e") || eqb c (code "E")

abbrev pub sign_after_odd_e : Bool → List ℕ → Bool
sign_after_odd_e = somewhere sign_after odd_e

-- digits, a slash, a sign, digits, after an optional sign: `1/-2`
pub data SignedBelow (R : ℕ) : List ℕ → Type 0 where
  ratio : {g a b : List ℕ} {n : Bool} → Sign g n → UInteger R a → (c : ℕ) → is_sign c ≡ true → UInteger R b
      → SignedBelow R (g ++ (a ++ code "/" ∷ c ∷ b))

-- a side of an @: a <real R> without such a capital, or one with a sign below the slash
pub data SideText (R : ℕ) (s : List ℕ) : Type 0 where
  plain : RealText R s → capital false s ≡ false → SideText R s
  slashed : SignedBelow R s → SideText R s

-- 1. two sides around an @, one or both with a sign below the slash: `1@1/-2`
pub data SignBelowSlash : List ℕ → Type 0 where
  polar : {R : ℕ} {g a b : List ℕ} → Prefix R g → SideText R a → SideText R b → SignedBelow R a ⊎ SignedBelow R b
      → SignBelowSlash (g ++ (a ++ code "@" ∷ b))

-- 2. a <number> with an upper-case I or N, or an F or A right after an n: `+I`
pub record UpperCase (s : List ℕ) : Type 0 where
  pub number : NumberText s
  pub upper : capital false s ≡ true

-- 3. a <number> that begins with #x and has a sign right after an odd number of e's: `#xe+1i`
pub data OddE : List ℕ → Type 0 where
  odd : {c : ℕ} {s : List ℕ} → Letter "x" c → NumberText (code "#" ∷ c ∷ s) → sign_after_odd_e false s ≡ true → OddE (code "#" ∷ c ∷ s)

abbrev pub Differs : List ℕ → Type 0
Differs s = SignBelowSlash s ⊎ (UpperCase s ⊎ OddE s)
