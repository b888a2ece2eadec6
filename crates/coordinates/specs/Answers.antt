-- What the coordinate calls may say, and document 01's and the request's numbers for each case of the code's answer.
use Rattle.std.specs.Prelude.{ℕ, Float, Result, Ok, Err}
use Rattle.refusal.specs.Refusals.{over_long, not_utf8, out_of_bounds, limit, no_coordinate}
use Rattle.coordinates.specs.declared.CoordinateError.{CoordinateError}
use Rattle.coordinates.specs.declared.CoordinateError.TheVariants as answer

-- a value, or a refusal by its number with what it comes with
pub data Answer : Type 0 where
  float : Float → Answer
  refused : ℕ → ℕ → Answer

-- the code's answer
abbrev pub CoordinateAnswer : Type 0
CoordinateAnswer = Result Float CoordinateError

abbrev pub answered : CoordinateAnswer → Answer
answered (Ok x) = float x
answered (Err answer.TooLong) = refused over_long limit
answered (Err (answer.NotUtf8 at)) = refused not_utf8 at
answered (Err answer.NoExtent) = refused out_of_bounds 0
answered (Err answer.NoCoordinate) = refused no_coordinate 0
