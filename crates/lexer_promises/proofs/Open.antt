-- Programs that meet no promise of the calls, whatever else they do: a row of specs/Open, where the definition answers otherwise, contradicts each.
use Rattle.std.specs.Prelude.{ℕ, ◌≡◌, true, false}
use Rattle.std.proofs.Common.{◌∙◌}
use Rattle.laws.proofs.Choice.{impossible}
use Rattle.chars.specs.Encode.{spelled}
use Rattle.lexer.specs.Opening.{opened, refused, open_of}
use Rattle.lexer_promises.specs.Open.{position, rows}

-- no program that refuses everything meets the promise
never_refused : (n m : ℕ) → refused n m ≡ open_of (spelled "a") 0 true → ⊥
never_refused n m h =
    let e : refused n m ≡ opened (position 0 false true) = h ∙ rows.plain in impossible cc
