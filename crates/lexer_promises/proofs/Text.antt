-- Programs that meet no promise of the calls, whatever else they do: a row of specs/Text, where the definition answers otherwise, contradicts each.
use Rattle.std.specs.Prelude.{ℕ, ◌≡◌, List, []}
use Rattle.std.proofs.Common.{ap, ◌∙◌}
use Rattle.lexer_promises.specs.Text.{Given, given, text, rows}

-- no program meets the promise that gives another mark than 27 where the record has no text, or where its places pass the text memory and not the source
never_another_mark : (t : List ℕ) (m : ℕ) → given t m ≡ text 0 0 0 → m ≡ 27
never_another_mark t m h = ap (λ (g : Given). g.mark) (h ∙ rows.no_source)

never_the_other : (t : List ℕ) (m : ℕ) → given t m ≡ text 2 0 3 → m ≡ 27
never_the_other t m h = ap (λ (g : Given). g.mark) (h ∙ rows.past_memory)

-- nor one that gives a part beside 27, for places that go back or that pass the source
never_a_part_backwards : (t : List ℕ) (m : ℕ) → given t m ≡ text 1 2 1 → t ≡ []
never_a_part_backwards t m h = ap (λ (g : Given). g.part) (h ∙ rows.backwards)

never_a_part_past : (t : List ℕ) (m : ℕ) → given t m ≡ text 1 0 4 → t ≡ []
never_a_part_past t m h = ap (λ (g : Given). g.part) (h ∙ rows.past_source)
