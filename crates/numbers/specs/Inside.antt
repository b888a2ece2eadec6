-- That the places in a number's parts lie in a text of n bytes.
use Rattle.std.specs.Prelude.{ℕ, ◌≤◌}
use Rattle.digits.specs.declared.Span.{Span}
use Rattle.digits.specs.declared.Int.{Int}
use Rattle.digits.specs.declared.Int.TheVariants.{Small, Big}
use Rattle.numbers.specs.declared.Point.{Point}
use Rattle.numbers.specs.declared.Real.{Real}
use Rattle.numbers.specs.declared.Real.TheVariants.{Integer, Rational, Decimal, PosInf, NegInf, PosNan, NegNan, ImpliedZero, ImpliedOne}
use Rattle.numbers.specs.declared.Parts.{Parts}
use Rattle.numbers.specs.declared.Parts.TheVariants.{Just, Complex, Polar}

module _ (n : ℕ) where
  abbrev pub InSpan : Span → Type 0
  InSpan s = (s.start ≤ s.end) × (s.end ≤ n)

  abbrev pub InInt : Int → Type 0
  InInt (Small v) = Unit {0}
  InInt (Big neg d) = InSpan d

  abbrev pub InPoint : Point → Type 0
  InPoint d = InSpan d.whole × InSpan d.fraction × InSpan d.exponent.digits

  abbrev pub InReal : Real → Type 0
  InReal (Integer a) = InInt a
  InReal (Rational a b) = InInt a × InInt b
  InReal (Decimal d) = InPoint d
  InReal PosInf = Unit {0}
  InReal NegInf = Unit {0}
  InReal PosNan = Unit {0}
  InReal NegNan = Unit {0}
  InReal ImpliedZero = Unit {0}
  InReal (ImpliedOne neg) = Unit {0}

  abbrev pub InParts : Parts → Type 0
  InParts (Just a) = InReal a
  InParts (Complex a b) = InReal a × InReal b
  InParts (Polar a b) = InReal a × InReal b
