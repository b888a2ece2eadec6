-- Programs that meet no promise of the calls, whatever else they do: a row of specs/Next, where the definition answers otherwise, contradicts each.
use Rattle.std.specs.Prelude.{ℕ, ◌<◌, ◌≡◌, List, [], get_or}
use Rattle.std.proofs.Common.{ap, ◌∙◌, arith}
use Rattle.std.specs.Borrow.{Bor}
use Rattle.items_promises.specs.Shapes.{room}
use Rattle.laws.specs.Quoted.{code}
use Rattle.chars.specs.Encode.{utf8, bytes_of, spelled}
use Rattle.reader.specs.Reading.{What, Moved, moved, next_for}
use Rattle.reader.specs.declared.Reader.{Reader}
use Rattle.reader_promises.specs.Next.{reads, rows}

-- no program that leaves every reader where it stands meets the promise
never_stays : (r : Bor (List ℕ)) (w : What) (text : List ℕ) → moved w (reads r (spelled "a [") 0) text ≡ next_for (reads r (spelled "a [") 0) [] → ⊥
never_stays r w text h = let e : ◌≡◌ {A = ℕ} 0 1 = ap (λ (m : Moved). m.reader.position.spot.at) (h ∙ (rows r).first_item) in omega (arith, e)

-- nor one that moves every reader
never_goes : (r : Bor (List ℕ)) (w : What) (n : ℕ) (text : List ℕ) → 0 < n → moved w (reads r (spelled "\"\\n\\n\"") n) text ≡ next_for (reads r (spelled "\"\\n\\n\"") 0) (room 1) → ⊥
never_goes r w n text l h = let e : n ≡ 0 = ap (λ (m : Moved). m.reader.position.spot.at) (h ∙ (rows r).no_room) in omega (arith, e, l)

-- nor one that leaves the text memory as it was
never_unwritten : (r : Bor (List ℕ)) (w : What) (to : Reader) → moved w to (room 2) ≡ next_for (reads r (spelled "\"\\n\"") 0) (room 2) → ⊥
unfolding bytes_of utf8
never_unwritten r w to h = let e : 7 ≡ code "\n" = ap (λ (m : Moved). get_or m.text 0 0) (h ∙ (rows r).decoded) in omega (arith, e)
