-- What an arm of a match tells of an answer: it is an error, and the error is one of its kinds.
use Rattle.std.proofs.Common.{Err}
use Rattle.numbers.specs.declared.ParseError.{ParseError}
use Rattle.numbers.specs.declared.NumberError.{NumberError}
use Rattle.numbers.specs.Grammar.{Parsed}
use Rattle.numbers.specs.Call.{NumberAnswer}
use mathlib.Core.Path.{◌≡◌, ap, ◌∙◌}

pub unparsed : (a : Parsed) (e x : ParseError) → a ≡ Err e → e ≡ x → a ≡ Err x
unparsed a e x h k = h ∙ ap (λ (y : ParseError). Err y) k

pub refused_as : (a : NumberAnswer) (e x : NumberError) → a ≡ Err e → e ≡ x → a ≡ Err x
refused_as a e x h k = h ∙ ap (λ (y : NumberError). Err y) k
