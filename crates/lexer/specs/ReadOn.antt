-- Reading all items with the reader: call after call, each from the position that the one before gave.
use Rattle.std.specs.Prelude.{ℕ, zero, suc, List, [], ◌∷◌}
use Rattle.items.specs.Items.{Item, depth_after, record_of}
use Rattle.lexer.specs.Reading.{size_of}
use Rattle.lexer.specs.Answers.{Reply, item, finished, refuses, next_of}
use Rattle.lexer.specs.declared.Position.{Position}

abbrev pub follow : Reply → (Position → List (List ℕ)) → List (List ℕ)
follow (item words p) more = words ∷ more p
follow finished more = []
follow (refuses n a b) more = []

-- the records that the first n calls give; each lends the same text memory
unfoldable pub read_from : ℕ → List ℕ → Position → List ℕ → List (List ℕ)
read_from zero source p text = []
read_from (suc n) source p text = follow (next_of source p text).reply (λ q. read_from n source q text)

-- all of them: the size of a position's spot is a bound for their number
unfoldable pub read_on : List ℕ → Position → List ℕ → List (List ℕ)
read_on source p text = read_from (suc (size_of source p.spot)) source p text

-- the records of some items, each with its decoded text at 0; `depth` is the depth before the first
unfoldable pub record_each : ℕ → List Item → List (List ℕ)
record_each depth [] = []
record_each depth (i ∷ is) = record_of 0 depth i ∷ record_each (depth_after i.kind depth) is
