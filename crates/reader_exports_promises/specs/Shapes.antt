-- What rows are written with.
use Rattle.std.specs.Prelude.{ℕ, List, [], ◌∷◌, replicate}

-- what n bytes or words of lent memory hold before a call
abbrev pub room : ℕ → List ℕ
room n = replicate n 7

-- a position's words at a place, in plain mode, with no error range, comments kept, and so many brackets open
abbrev pub at : ℕ → ℕ → List ℕ
at n depth = n ∷ 0 ∷ 0 ∷ 0 ∷ 0 ∷ 0 ∷ depth ∷ []

-- the two values where there is nothing to tell
abbrev pub none : List ℕ
none = 0 ∷ 0 ∷ []

-- a record at a depth: kind, detail, extent, place, text source, text places. Of an item with no text
abbrev pub bare : ℕ → ℕ → ℕ → ℕ → ℕ → List ℕ
bare k d s e depth = k ∷ d ∷ s ∷ e ∷ s ∷ e ∷ 0 ∷ 0 ∷ 0 ∷ depth ∷ []

-- of one with a text, in the source (1) or in the text memory (2), from a place to a place
abbrev pub texted : ℕ → ℕ → ℕ → ℕ → ℕ → ℕ → ℕ → List ℕ
texted k s e o f t depth = k ∷ 0 ∷ s ∷ e ∷ s ∷ e ∷ o ∷ f ∷ t ∷ depth ∷ []
