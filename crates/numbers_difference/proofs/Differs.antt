-- The theorem: the two readers differ on a text exactly if it meets one of the three conditions, over shapes of text alone.
use mathlib.Core.Bool.{Bool, false, true}
use mathlib.Core.List.{List}
use Prim.Native.Nat.{◌+◌, ℕ}
use mathlib.Core.Logic.{◌⊎◌, ◌↔◌, inl, inr}
use mathlib.Core.Path.{◌≡◌}
use lib.ListN.{length}
use Rattle.numbers.specs.declared.Exponent.{Exponent}
use Rattle.numbers.specs.declared.Parts.{Parts}
use Rattle.numbers.specs.declared.Real.{Real}
use Rattle.numbers.specs.Grammar.{parse_number}
use Rattle.numbers_standard.specs.Grammar.{parse_standard}
use Rattle.numbers_difference.proofs.WithParts.{BelowSlash, Condition, HexE, Side, Upper}
use Rattle.numbers_difference.specs.R7rs.{ComplexAt, DecimalAt, ImaginaryAt, Infnan, Number, RealAt, SuffixAt, URealAt}
use Rattle.numbers_difference.specs.Conditions.{ComplexText, DecimalText, Differs, ImaginaryText, InfnanText, NumberText, OddE, RealText, SideText}
use Rattle.numbers_difference.specs.Conditions.{SignBelowSlash, SuffixText, URealText, UpperCase}
use Rattle.numbers_difference.proofs.Compare.{differ, BoughtAlone, below_alone, StandardAlone, other_alone}

-- parts taken off
tail : {p : ℕ} {s : List ℕ} {e : Exponent} → SuffixAt p s e → SuffixText s
tail SuffixAt.empty = SuffixText.empty
tail (SuffixAt.exponent m g u) = SuffixText.exponent m g u

dotted : {neg : Bool} {p : ℕ} {s : List ℕ} {r : Real} → DecimalAt neg p s r → DecimalText s
dotted (DecimalAt.whole u z) = DecimalText.whole u (tail z)
dotted (DecimalAt.point u z) = DecimalText.point u (tail z)
dotted (DecimalAt.both u v z) = DecimalText.both u v (tail z)

unsigned : {R : ℕ} {neg : Bool} {p : ℕ} {s : List ℕ} {r : Real} → URealAt R neg p s r → URealText R s
unsigned (URealAt.integer u) = URealText.integer u
unsigned (URealAt.rational u v) = URealText.rational u v
unsigned (URealAt.decimal e d) = URealText.decimal e (dotted d)

word : {s : List ℕ} {r : Real} → Infnan s r → InfnanText s
word (Infnan.inf e) = inl e
word (Infnan.minus_inf e) = inr (inl e)
word (Infnan.nan e) = inr (inr (inl e))
word (Infnan.minus_nan e) = inr (inr (inr e))

real_text : {R p : ℕ} {s : List ℕ} {r : Real} → RealAt R p s r → RealText R s
real_text (RealAt.ureal g u) = RealText.ureal g (unsigned u)
real_text (RealAt.infnan i) = RealText.infnan (word i)

signed_text : {R p : ℕ} {s : List ℕ} {r : Real} → ImaginaryAt R p s r → ImaginaryText R s
signed_text (ImaginaryAt.positive u) = ImaginaryText.positive (unsigned u)
signed_text (ImaginaryAt.negative u) = ImaginaryText.negative (unsigned u)
signed_text (ImaginaryAt.infnan i) = ImaginaryText.infnan (word i)
signed_text ImaginaryAt.one = ImaginaryText.one
signed_text ImaginaryAt.minus_one = ImaginaryText.minus_one

complex_text : {R p : ℕ} {s : List ℕ} {a : Parts} → ComplexAt R p s a → ComplexText R s
complex_text (ComplexAt.real d) = ComplexText.real (real_text d)
complex_text (ComplexAt.polar d e) = ComplexText.polar (real_text d) (real_text e)
complex_text (ComplexAt.rectangular d e m) = ComplexText.rectangular (real_text d) (signed_text e) m
complex_text (ComplexAt.imaginary e m) = ComplexText.imaginary (signed_text e) m

pub number_text : {s : List ℕ} {a : Parts} → Number s a → NumberText s
number_text (Number.num m d) = NumberText.num m (complex_text d)

-- parts found
tail_at : {s : List ℕ} (p : ℕ) → SuffixText s → (e : Exponent) × SuffixAt p s e
tail_at p SuffixText.empty = (_, SuffixAt.empty)
tail_at p (SuffixText.exponent m g u) = (_, SuffixAt.exponent m g u)

dotted_at : {s : List ℕ} (neg : Bool) (p : ℕ) → DecimalText s → (r : Real) × DecimalAt neg p s r
dotted_at neg p (DecimalText.whole {d = d} u z) = let t = tail_at (p + length d) z in (_, DecimalAt.whole u t.1)
dotted_at neg p (DecimalText.point {f = f} u z) = let t = tail_at (p + 1 + length f) z in (_, DecimalAt.point u t.1)
dotted_at neg p (DecimalText.both {d = d} {f = f} u v z) = let t = tail_at (p + length d + 1 + length f) z in (_, DecimalAt.both u v t.1)

unsigned_at : {R : ℕ} {s : List ℕ} (neg : Bool) (p : ℕ) → URealText R s → (r : Real) × URealAt R neg p s r
unsigned_at neg p (URealText.integer u) = (_, URealAt.integer u)
unsigned_at neg p (URealText.rational u v) = (_, URealAt.rational u v)
unsigned_at neg p (URealText.decimal e d) = let t = dotted_at neg p d in (t.0, URealAt.decimal e t.1)

word_at : {s : List ℕ} → InfnanText s → (r : Real) × Infnan s r
word_at (inl e) = (_, Infnan.inf e)
word_at (inr (inl e)) = (_, Infnan.minus_inf e)
word_at (inr (inr (inl e))) = (_, Infnan.nan e)
word_at (inr (inr (inr e))) = (_, Infnan.minus_nan e)

real_at : {R : ℕ} {s : List ℕ} (p : ℕ) → RealText R s → (r : Real) × RealAt R p s r
real_at p (RealText.ureal {g = g} {n = n} z u) = let t = unsigned_at n (p + length g) u in (t.0, RealAt.ureal z t.1)
real_at p (RealText.infnan {s = s} i) = let t = word_at {s = s} i in (t.0, RealAt.infnan t.1)

signed_at : {R : ℕ} {s : List ℕ} (p : ℕ) → ImaginaryText R s → (r : Real) × ImaginaryAt R p s r
signed_at p (ImaginaryText.positive u) = let t = unsigned_at false (p + 1) u in (t.0, ImaginaryAt.positive t.1)
signed_at p (ImaginaryText.negative u) = let t = unsigned_at true (p + 1) u in (t.0, ImaginaryAt.negative t.1)
signed_at p (ImaginaryText.infnan {s = s} i) = let t = word_at {s = s} i in (t.0, ImaginaryAt.infnan t.1)
signed_at p ImaginaryText.one = (_, ImaginaryAt.one)
signed_at p ImaginaryText.minus_one = (_, ImaginaryAt.minus_one)

complex_at : {R : ℕ} {s : List ℕ} (p : ℕ) → ComplexText R s → (a : Parts) × ComplexAt R p s a
complex_at p (ComplexText.real d) = let t = real_at p d in (_, ComplexAt.real t.1)
complex_at p (ComplexText.polar {a = a} d e) = let t = real_at p d in let u = real_at (p + length a + 1) e in (_, ComplexAt.polar t.1 u.1)
complex_at p (ComplexText.rectangular {a = a} d e m) = let t = real_at p d in let u = signed_at (p + length a) e in (_, ComplexAt.rectangular t.1 u.1 m)
complex_at p (ComplexText.imaginary e m) = let u = signed_at p e in (_, ComplexAt.imaginary u.1 m)

-- a text has the shape of a number exactly if <number> derives it with some parts
pub number_at : {s : List ℕ} → NumberText s → (a : Parts) × Number s a
number_at (NumberText.num {g = g} m d) = let t = complex_at (length g) d in (t.0, Number.num m t.1)

-- the conditions
side_text : {R p : ℕ} {s : List ℕ} → Side R p s → SideText R s
side_text (Side.plain d c) = SideText.plain (real_text d) c
side_text (Side.slashed d) = SideText.slashed d

side_at : {R : ℕ} {s : List ℕ} (p : ℕ) → SideText R s → Side R p s
side_at p (SideText.plain d c) = Side.plain (real_at p d).1 c
side_at p (SideText.slashed d) = Side.slashed d

shape_slash : {s : List ℕ} → BelowSlash s → SignBelowSlash s
shape_slash (BelowSlash.polar m x y w) = SignBelowSlash.polar m (side_text x) (side_text y) w

slash_at : {s : List ℕ} → SignBelowSlash s → BelowSlash s
slash_at (SignBelowSlash.polar {g = g} {a = a} m x y w) = BelowSlash.polar m (side_at (length g) x) (side_at (length g + length a + 1) y) w

shape_odd : {s : List ℕ} → HexE s → OddE s
shape_odd (HexE.hex_e m n o) = OddE.odd m (number_text n) o

odd_at : {s : List ℕ} → OddE s → HexE s
odd_at (OddE.odd m n o) = HexE.hex_e m (number_at n).1 o

upper_at : {s : List ℕ} → UpperCase s → Upper s
upper_at c = record { parts = (number_at c.number).0; number = (number_at c.number).1; upper = c.upper }

shape : (s : List ℕ) → Condition s → Differs s
shape s (inl c) = inl (shape_slash c)
shape s (inr (inl c)) = inr (inl (record { number = number_text c.number; upper = c.upper }))
shape s (inr (inr c)) = inr (inr (shape_odd c))

shape_at : (s : List ℕ) → Differs s → Condition s
shape_at s (inl c) = inl (slash_at c)
shape_at s (inr (inl c)) = inr (inl (upper_at c))
shape_at s (inr (inr c)) = inr (inr (odd_at c))

-- The two readers' answers differ on a text exactly if it meets one of the three conditions.
pub differs : (s : List ℕ) → (parse_number s ≡ parse_standard s → ⊥) ↔ Differs s
differs s = ((λ h. shape s ((differ s).0 h)), (λ c. (differ s).1 (shape_at s c)))

-- Which reader alone accepts the text: by the first condition the bought one, by the others the standard's.
pub bought_alone : (s : List ℕ) → SignBelowSlash s → BoughtAlone s
bought_alone s c = below_alone (slash_at c)

pub standard_alone : (s : List ℕ) → UpperCase s ⊎ OddE s → StandardAlone s
standard_alone s c = other_alone s (go c)
  where
    go : UpperCase s ⊎ OddE s → Upper s ⊎ HexE s
    go (inl u) = inl (upper_at u)
    go (inr o) = inr (odd_at o)

-- So the first condition and the others exclude each other.
pub exclusive : (s : List ℕ) → SignBelowSlash s → UpperCase s ⊎ OddE s → ⊥
exclusive s c d = (standard_alone s d).0 (bought_alone s c).1
