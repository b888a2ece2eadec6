-- Worked examples: who asks for what, and the answer.
use Rattle.std.specs.Prelude.{ℕ, ◌+◌, ◌≡◌, refl, List, [], ◌∷◌, replicate}
use Prim.Native.String.{String}
use Rattle.laws.specs.Quoted.{code, codes}
use Rattle.laws.specs.Texts.{same}
use Rattle.refusal.specs.Refusals.{no_party, no_room}
use Rattle.names.specs.Layout.{half_bytes}
use Rattle.names.specs.Book.{Name, Book, book, place, size, number_in, new_in, ask}
use Rattle.names.specs.Answers.{Told, Number, Refused}

pub record Row : Type 0 where
  pub party : ℕ
  pub name : Name
  pub answer : Told

abbrev row : ℕ → String → Told → Row
row p n a = record { party = p; name = codes n; answer = a }

unfoldable pub rows : List Row
rows =
    row 0 "Betula" (Number 0)
    ∷ row 0 "Quercus" (Number 1)
    ∷ row 1 "Betula" (Number 0)
    ∷ row 1 "Fagus" (Number 512)
    ∷ row 0 "Fagus" (Number 512)
    ∷ row 2 "Betula" (Refused no_party)
    ∷ row 1 "" (Number 513)
    ∷ row 0 "betula" (Number 2)
    ∷ row 0 "" (Number 513)
    ∷ record { party = 0; name = replicate (half_bytes + 1) (code "a"); answer = Refused no_room }
    ∷ row 1 "Quercus" (Number 1)
    ∷ []

unfoldable pub given : Book → List Row → List Told
given b [] = []
given b (r ∷ rs) = let a = ask b r.party r.name in a.answer ∷ given a.after rs

unfoldable pub wanted : List Row → List Told
wanted [] = []
wanted (r ∷ rs) = r.answer ∷ wanted rs

pub examples : given (book [] []) rows ≡ wanted rows
unfolding rows given wanted ask number_in new_in place size same
examples = refl
