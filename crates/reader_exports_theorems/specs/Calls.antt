-- Calls for an item one after the other, each lent the memory that the one before left.
use Rattle.std.specs.Prelude.{ℕ, zero, suc, List, [], ◌∷◌, take, eqb, if◌then◌else◌}
use Rattle.refusal.specs.Refusals as refusal
use Rattle.items.specs.Items.{record_words}
use Rattle.reader_exports.specs.Reader.{Memory, Left, next_left}

-- the record that a call gave, and those of the calls after it; none once no item is given
abbrev pub followed : Left → (Memory → List (List ℕ)) → List (List ℕ)
followed l more = if eqb l.answer refusal.item then take record_words l.memory.item ∷ more l.memory else []

-- the records that the first n calls give
unfoldable pub calls : ℕ → List ℕ → Memory → List (List ℕ)
calls zero source m = []
calls (suc n) source m = followed (next_left source m) (λ k. calls n source k)
