-- What rows are written with.
use Rattle.std.specs.Prelude.{ℕ, ◌+◌, ◌*◌, List, [], ◌∷◌, ◌++◌, replicate, take}
use Rattle.items.specs.Kinds as kind
use Rattle.items.specs.Items.{own_words, record_words}

-- what n bytes or words of lent memory hold before a call
abbrev pub room : ℕ → List ℕ
room n = replicate n 7

-- how many words n records have
abbrev pub words_for : ℕ → ℕ
words_for n = n * record_words

-- a record outside all brackets, as lent memory holds it: kind, detail, extent, place, text source, text places, depth. Of an item with no text
abbrev pub bare : ℕ → ℕ → ℕ → ℕ → List ℕ
bare k d s e = k ∷ d ∷ s ∷ e ∷ s ∷ e ∷ 0 ∷ 0 ∷ 0 ∷ 0 ∷ []

-- of one with a text, in the source (1) or in the text memory (2), from a place to a place
abbrev pub texted : ℕ → ℕ → ℕ → ℕ → ℕ → ℕ → List ℕ
texted k s e o f t = k ∷ 0 ∷ s ∷ e ∷ s ∷ e ∷ o ∷ f ∷ t ∷ 0 ∷ []

-- of an error: its number, its detail, its extent and its place
abbrev pub error : ℕ → ℕ → ℕ → ℕ → ℕ → ℕ → List ℕ
error n d s e a b = (kind.first_error + n) ∷ d ∷ s ∷ e ∷ a ∷ b ∷ 0 ∷ 0 ∷ 0 ∷ 0 ∷ []

-- the same with n brackets open before the item
abbrev pub deep : ℕ → List ℕ → List ℕ
deep n r = take own_words r ++ (n ∷ [])
