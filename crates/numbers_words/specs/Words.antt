-- The number call's answer as a number, and a number's parts as words: what C passes on.
use Rattle.std.specs.Prelude.{ℕ, Bool, true, false, ◌||◌, List, [], ◌∷◌, ◌++◌, length, ltb, eqb, ℤ, pos, negsuc, nat_abs, if◌then◌else◌}
use Rattle.refusal.specs.Refusals.{over_long, not_utf8, too_few}
use Rattle.digits.specs.declared.Span.{Span}
use Rattle.digits.specs.declared.Int.{Int}
use Rattle.digits.specs.declared.Int.TheVariants.{Small, Big}
use Rattle.numbers.specs.declared.Real.{Real}
use Rattle.numbers.specs.declared.Real.TheVariants.{Integer, Rational, Decimal, PosInf, NegInf, PosNan, NegNan, ImpliedZero, ImpliedOne}
use Rattle.numbers.specs.declared.Parts.{Parts}
use Rattle.numbers.specs.declared.Parts.TheVariants.{Just, Complex, Polar}
use Rattle.numbers.specs.Call.{Answer, parts, no_number, error, refused}
use Rattle.numbers_words.specs.declared.Figure.{Figure}
use Rattle.numbers_words.specs.declared.Flat.{Flat}

abbrev pub bit : Bool → ℕ
bit true = 1
bit false = 0

-- whether a value is negative
abbrev pub minus : ℤ → ℕ
minus (pos n) = 0
minus (negsuc n) = 1

-- A figure, four words: what it has (0 nothing, 1 a value, 2 places), 1 for a minus sign, then the value's magnitude and 0, or where
-- the digits start and end. So -2^63 is 1, 1, 2^63, 0.
abbrev pub sign : Bool → List ℕ
sign neg = 0 ∷ bit neg ∷ 0 ∷ 0 ∷ []

abbrev pub nothing : List ℕ
nothing = sign false

abbrev pub value : ℤ → List ℕ
value v = 1 ∷ minus v ∷ nat_abs v ∷ 0 ∷ []

abbrev pub places : Bool → Span → List ℕ
places neg d = 2 ∷ bit neg ∷ d.start ∷ d.end ∷ []

unfoldable pub int_words : Int → List ℕ
int_words (Small v) = value v
int_words (Big neg d) = places neg d

-- A real, thirteen words: its form and three figures. No real is all zeros.
unfoldable pub formed : ℕ → List ℕ → List ℕ → List ℕ → List ℕ
formed form a b c = form ∷ (a ++ (b ++ c))

abbrev pub no_real : List ℕ
no_real = formed 0 nothing nothing nothing

unfoldable pub real_words : Real → List ℕ
real_words (Integer n) = formed 1 (int_words n) nothing nothing
real_words (Rational n d) = formed 2 (int_words n) (int_words d) nothing
real_words (Decimal d) = formed 3 (places d.negative d.whole) (places false d.fraction) (places d.exponent.negative d.exponent.digits)
real_words PosInf = formed 4 (sign false) nothing nothing
real_words NegInf = formed 4 (sign true) nothing nothing
real_words PosNan = formed 5 (sign false) nothing nothing
real_words NegNan = formed 5 (sign true) nothing nothing
real_words ImpliedZero = formed 6 nothing nothing nothing
real_words (ImpliedOne neg) = formed 7 (sign neg) nothing nothing

-- An answer to a text that is not refused, twenty-seven words: its first one, the number's form, and two reals.
unfoldable pub joined : ℕ → List ℕ → List ℕ → List ℕ
joined first a b = first ∷ (a ++ b)

unfoldable pub parts_words : Parts → List ℕ
parts_words (Just a) = joined 0 (real_words a) no_real
parts_words (Complex a b) = joined 1 (real_words a) (real_words b)
parts_words (Polar a b) = joined 2 (real_words a) (real_words b)

-- A refusal has just the word that it comes with: 20 the limit, 21 the place of the bad sequence. Any other has none.
unfoldable pub refusal_words : ℕ → ℕ → List ℕ
refusal_words n v = if eqb n over_long || eqb n not_utf8 then v ∷ [] else []

-- The words of an answer. Where there are so many they are written at the front, and every other word stays; else every word stays.
unfoldable pub flattened : Answer → List ℕ
flattened (parts p) = parts_words p
flattened no_number = joined 0 no_real no_real
flattened (error n) = joined 0 no_real no_real
flattened (refused n v) = refusal_words n v

-- how many words an answer has
abbrev pub number_words : ℕ
number_words = 27

-- "22: records or text memory are too few" (01): here fewer words than an answer has that is no refusal
abbrev pub room_or : List ℕ → ℕ → ℕ
room_or memory n = if ltb (length memory) number_words then too_few else n

-- The number that the call tells: 0 for a number, 1 for none, else document 01's. 22 goes last: a refused text is told as one, however
-- few the words are.
unfoldable pub number_or : List ℕ → Answer → ℕ
number_or memory (parts p) = room_or memory 0
number_or memory no_number = room_or memory 1
number_or memory (error n) = room_or memory n
number_or memory (refused n v) = n

-- the words of the code's structs, in order
abbrev pub figure : Figure → List ℕ
figure f = f.has ∷ f.minus ∷ f.first ∷ f.second ∷ []

unfoldable pub real : Flat → List ℕ
real r = formed r.form (figure r.one) (figure r.two) (figure r.three)
