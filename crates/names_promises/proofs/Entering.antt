-- Programs that meet no promise of the calls, whatever else they do: a row of specs/Entering, where the definition answers otherwise, contradicts each.
use Rattle.std.specs.Prelude.{ℕ, ◌+◌, ◌≡◌, List, get_or}
use Rattle.std.proofs.Common.{arith, ap, ◌∙◌}
use Rattle.laws.specs.Quoted.{codes}
use Rattle.names.specs.Layout.{first_slot}
use Rattle.names.specs.Call.{rest, mix, slot_of, tag_of, slot_word, Outcome, outcome, enter_of}
use Rattle.names.specs.Answers.{Told}
use Rattle.names_promises.specs.Entering.{words, bytes, indexed}

-- no program that leaves the words as they were meets the promise
never_unwritten : (a : Told) (b : List ℕ) → outcome a words b ≡ enter_of words bytes 0 (codes "a") → ⊥
unfolding mix rest
never_unwritten a b h =
    let e : get_or words (first_slot + slot_of (codes "a")) 0 ≡ slot_word (tag_of (codes "a")) 0 =
    ap (λ (o : Outcome). get_or o.words (first_slot + slot_of (codes "a")) 0) h ∙ indexed in
    omega (arith, e)
