-- The depth of a record, by the kinds of the records before it. 02 (vi): "Each record gains the number of open brackets before the item, where a
-- close with none open leaves it at 0."
use Rattle.std.specs.Prelude.{ℕ, zero, suc, ◌+◌, ◌*◌, ◌<◌, ◌≡◌, ◌&&◌, List, [], length, get_or, eqb, ltb, if◌then◌else◌}
use Rattle.items.specs.Kinds as kind
use Rattle.items.specs.Items.{record_words, own_words}
use Rattle.pieces.specs.Given.{Given}
use Rattle.items_coverage.specs.Records.{kind_word, word, given_kind}

-- how many of the first p records open a bracket, any of the three, a vector's and a byte list's too; `kind_at p` is the kind of record p, from 0
unfoldable pub opens : (ℕ → ℕ) → ℕ → ℕ
opens kind_at zero = 0
opens kind_at (suc p) = opens kind_at p + (if eqb (kind_at p) kind.OpenParen then 1 else 0)

-- how many of them close one: a close with none open closes none
unfoldable pub closes : (ℕ → ℕ) → ℕ → ℕ
closes kind_at zero = 0
closes kind_at (suc p) = closes kind_at p + (if eqb (kind_at p) kind.CloseParen && ltb (closes kind_at p) (opens kind_at p) then 1 else 0)

-- of n records, each has for its depth the opens before it less the closes that closed one of them
abbrev pub Depths : ℕ → (ℕ → ℕ) → (ℕ → ℕ) → Type 0
Depths n kind_at depth_at = (p : ℕ) → p < n → depth_at p + closes kind_at p ≡ opens kind_at p

-- n records in memory: kind is the first word of ten, depth the last, 10 p + 9
abbrev pub DepthsIn : ℕ → List ℕ → Type 0
DepthsIn n memory = Depths n (λ p. get_or memory (p * record_words + kind_word) 0) (λ p. get_or memory (p * record_words + own_words) 0)

-- items that piece calls gave, in their order
abbrev pub nth : List Given → ℕ → Given
nth gs p = get_or gs p (record { words = []; text = [] })

abbrev pub DepthsGiven : List Given → Type 0
DepthsGiven gs = Depths (length gs) (λ p. given_kind (nth gs p)) (λ p. word (nth gs p).words own_words)
