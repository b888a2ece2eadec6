-- Programs that meet no promise of the calls, whatever else they do: a row of specs/Pieces, where the definition answers otherwise, contradicts each.
use Rattle.std.specs.Prelude.{◌≡◌, get_or}
use Rattle.std.proofs.Common.{ap, ◌∙◌, arith}
use Rattle.lines.specs.Pieces.{Fed, fed, open_of, pieces}
use Rattle.lines.specs.declared.LineState.{LineState}
use Rattle.lines_promises.specs.Pieces.{room, parts, fed-all}

-- no program that notes nothing meets the promise, whatever state it gives
never_unwritten : (t : LineState) → fed t room ≡ pieces (open_of room) parts → ⊥
never_unwritten t h = let e : get_or room 0 0 ≡ 0 = ap (λ (f : Fed). get_or f.memory 0 0) (h ∙ fed-all) in omega (arith, e)
