-- Programs that meet no promise of the calls, whatever else they do: a row of specs/Write, where the definition answers otherwise, contradicts each.
use Rattle.std.specs.Prelude.{ℕ, ◌≡◌, List, [], get_or}
use Rattle.std.proofs.Common.{ap, ◌∙◌, arith}
use Rattle.laws.specs.Quoted.{code}
use Rattle.laws.proofs.Choice.{impossible}
use Rattle.refusal.specs.Refusals as refusal
use Rattle.chars.specs.Encode.{utf8, bytes_of, spelled}
use Rattle.items_writing.specs.Call.{Answer, served, refused, Call, call, write_of}
use Rattle.items_writing_promises.specs.Shapes.{room}
use Rattle.items_writing_promises.specs.Write.{brackets, rows}

-- no program that refuses everything meets the promise, whatever it says and leaves: these records are served
never_refused : (n p : ℕ) (out : List ℕ) → call (refused n p) out ≡ write_of brackets (spelled "()") [] (room 5) → ⊥
never_refused n p out h =
    let e : refused n p ≡ served 3 = ap (λ (c : Call). c.answer) (h ∙ rows.apart) in impossible cc

-- nor does one that refuses nothing
never_served : (n : ℕ) (out : List ℕ) → call (served n) out ≡ write_of brackets (spelled "()") [] (room 2) → ⊥
never_served n out h =
    let e : served n ≡ refused refusal.too_few 3 = ap (λ (c : Call). c.answer) (h ∙ rows.no_room) in impossible cc

-- nor one that writes nothing
never_unwritten : (a : Answer) → call a (room 5) ≡ write_of brackets (spelled "()") [] (room 5) → ⊥
unfolding bytes_of utf8
never_unwritten a h = let e : 7 ≡ code "(" = ap (λ (c : Call). get_or c.out 0 0) (h ∙ rows.apart) in omega (arith, e)
