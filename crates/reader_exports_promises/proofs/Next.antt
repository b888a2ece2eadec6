-- Programs that meet no promise of the calls, whatever else they do: a row of specs/Next, where the definition answers otherwise, contradicts each.
use Rattle.std.specs.Prelude.{ℕ, ◌<◌, ◌≡◌, List, get_or}
use Rattle.std.proofs.Common.{ap, ◌∙◌, arith}
use Rattle.chars.specs.Encode.{spelled}
use Rattle.reader_exports.specs.Reader.{memory, Left, left, next_left}
use Rattle.reader_exports_promises.specs.Shapes.{at}
use Rattle.reader_exports_promises.specs.Next.{lent, rows}

-- no program that leaves every position where it stands meets the promise
never_stays : (n : ℕ) (text i values : List ℕ) → left n (memory (at 0 0) text i values) ≡ next_left (spelled "a [") (lent (at 0 0) 0) → ⊥
never_stays n text i values h = let e : ◌≡◌ {A = ℕ} 0 1 = ap (λ (l : Left). get_or l.memory.words 0 0) (h ∙ rows.first_item) in omega (arith, e)

-- nor one that moves every position
never_goes : (n p d : ℕ) (text i values : List ℕ) → 0 < p → left n (memory (at p d) text i values) ≡ next_left (spelled "\"\\n\\n\"") (lent (at 0 0) 1) → ⊥
never_goes n p d text i values l h = let e : p ≡ 0 = ap (λ (x : Left). get_or x.memory.words 0 0) (h ∙ rows.no_room) in omega (arith, e, l)
