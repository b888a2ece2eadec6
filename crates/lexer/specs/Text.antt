-- The text call: the text of a record, as a part of the source or of the text memory. Document 01: it "answers from the source or the
-- text memory, as the record says; otherwise 27 and an empty part".
use Rattle.std.specs.Prelude.{ℕ, ◌-◌, ◌≡◌, List, [], eqb, leb, length, take, drop, if◌then◌else◌, None, Option, Some}
use Rattle.std.specs.Borrow.{Bor}
use Rattle.refusal.specs.Refusals as refusal

-- a where the places neither go back nor pass the slice l, else b
abbrev pub within : {A : Type 0} → List ℕ → ℕ → ℕ → A → A → A
within l from to a b = if leb from to then (if leb to (length l) then a else b) else b

-- by the text source: 1 the source, 2 the text memory, any other none
abbrev pub by_source : {A : Type 0} → ℕ → A → A → A → A
by_source k one two none = if eqb k 1 then one else if eqb k 2 then two else none

-- that part, or an empty one
abbrev pub part_of : List ℕ → ℕ → ℕ → List ℕ
part_of l from to = within l from to (take (to - from) (drop from l)) []

unfoldable pub text_in : List ℕ → List ℕ → ℕ → ℕ → ℕ → List ℕ
text_in source text k from to = by_source k (part_of source from to) (part_of text from to) []

-- 27: "a text source not 1 or 2, or text places that go back or pass that slice"; else 0
unfoldable pub text_mark : List ℕ → List ℕ → ℕ → ℕ → ℕ → ℕ
text_mark source text k from to = by_source k (within source from to 0 refusal.out_of_bounds) (within text from to 0 refusal.out_of_bounds) refusal.out_of_bounds

-- a part of memory is the text that the record tells, or there is none and the mark is 27
abbrev pub LentAs : List ℕ → List ℕ → ℕ → ℕ → ℕ → Option (Bor (List ℕ)) → Type 0
LentAs source text k from to (Some part) = (part.now ≡ text_in source text k from to) × (text_mark source text k from to ≡ 0)
LentAs source text k from to None = (text_in source text k from to ≡ []) × (text_mark source text k from to ≡ refusal.out_of_bounds)
