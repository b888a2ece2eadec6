-- Programs that meet no promise of the calls, whatever else they do: a row of specs/Whole, where the definition answers otherwise, contradicts each.
use Rattle.std.specs.Prelude.{ℕ, ◌≡◌, List, get_or}
use Rattle.std.proofs.Common.{ap, ◌∙◌, arith}
use Rattle.laws.proofs.Choice.{impossible}
use Rattle.lines.specs.Starts.{Told, Served, Refused, Outcome, outcome, build_of}
use Rattle.lines.specs.Place.{locate_of}
use Rattle.lines.specs.Place as located
use Rattle.lines_promises.specs.Whole.{text, index, room, built, at_start}

-- no program that refuses everything meets the promise
never_refused : (n v : ℕ) (m : List ℕ) → outcome (Refused n v) m ≡ build_of text room → ⊥
never_refused n v m h =
    let e : Refused n v ≡ Served 3 = ap (λ (o : Outcome). o.answer) (h ∙ built) in impossible cc

-- nor does one that leaves the index as it was
never_unwritten : (a : Told) → outcome a room ≡ build_of text room → ⊥
never_unwritten a h = let e : get_or room 0 0 ≡ 0 = ap (λ (o : Outcome). get_or o.memory 0 0) (h ∙ built) in omega (arith, e)

never_34 : (n v : ℕ) → located.Refused n v ≡ locate_of text index 2 → ⊥
never_34 n v h = let e : located.Refused n v ≡ located.At 2 1 = h ∙ at_start in impossible cc
