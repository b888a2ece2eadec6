-- What rows are written with.
use Rattle.std.specs.Prelude.{ℕ, List, [], ◌∷◌, ◌++◌, length, drop, replicate}
use Prim.Native.String.{String}
use Rattle.chars.specs.Encode.{spelled}
use Rattle.items.specs.Kinds as kind
use Rattle.items_writing.specs.Call.{Call, call, served, refused, write_of}

-- what n bytes of lent memory hold before a call
abbrev pub room : ℕ → List ℕ
room n = replicate n 7

-- a record as lent memory holds it: its kind, its extent, where its text lies and the text's places; details, places and depths are not looked at
abbrev pub record_of : ℕ → ℕ → ℕ → ℕ → ℕ → ℕ → List ℕ
record_of k s e o f t = k ∷ 0 ∷ s ∷ e ∷ s ∷ e ∷ o ∷ f ∷ t ∷ 0 ∷ []

-- of an item with no text
abbrev pub bare : ℕ → ℕ → ℕ → List ℕ
bare k s e = record_of k s e 0 0 0

-- of an identifier with its text in the source
abbrev pub name : ℕ → ℕ → ℕ → ℕ → List ℕ
name s e f t = record_of kind.Identifier s e 1 f t

-- of one whose text is another now, in the text memory
abbrev pub renamed : ℕ → ℕ → ℕ → ℕ → List ℕ
renamed s e f t = record_of kind.Identifier s e 2 f t

-- the call with 16 bytes of memory
abbrev pub writing : List ℕ → String → String → Call
writing records source text = write_of records (spelled source) (spelled text) (room 16)

-- it wrote this text, and the bytes past it stay
abbrev pub wrote : String → Call
wrote t = let w : List ℕ = spelled t in call (served (length w)) (w ++ drop (length w) (room 16))

-- it was refused, and every byte stays
abbrev pub refuses : ℕ → ℕ → Call
refuses n p = call (refused n p) (room 16)
