-- How the code writes: a piece for each turn, of one item or of a pair. A means of proof: no public contract cites it.
use Rattle.items.specs.declared.Quotes.{Quotes}
use Rattle.std.specs.Prelude.{ℕ, ◌+◌, ◌≤◌, ◌<◌, ◌≡◌, Bool, true, false, not, ◌&&◌, ◌||◌, List, [], ◌∷◌, ◌++◌, length, eqb, if◌then◌else◌, None, Option, Some}
use Rattle.laws.specs.Quoted.{code}
use Rattle.refusal.specs.Refusals as refusal
use Rattle.items.specs.declared.Quotes.TheVariants.{Double, Lines}
use Rattle.items.specs.Kinds as kind
use Rattle.items_writing.specs.declared.WriteWords.{WriteWords}
use Rattle.items_writing.specs.declared.WriteTurn.{WriteTurn}
use Rattle.items_writing.specs.Written.{Entry, quoted, bare, written}
use Rattle.items_writing.specs.Records.{count_of, words_at, rest, is_right, entry_of, entries_of}

-- whether a record's text is all of its extent
abbrev pub is_extent : WriteWords → Bool
is_extent r = eqb r.origin 1 && (eqb r.first r.start && eqb r.past r.«end»)

-- the bytes that an item's word is made of
abbrev pub body_of : Entry → List ℕ
body_of e = if eqb e.kind kind.Identifier then e.text else if eqb e.kind kind.StringLiteral then e.text else e.raw

unfoldable pub form_for : ℕ → Bool → Bool → List ℕ → Option Quotes
form_for k first last t =
    if eqb k kind.Identifier then (if bare first last t then None else Some Lines)
    else if eqb k kind.StringLiteral then Some Double
    else None

abbrev pub shown : Option Quotes → List ℕ → List ℕ
shown None t = t
shown (Some k) t = quoted k t

-- a byte that is there or not: the space before a piece, the plus of a pair
abbrev pub lone : Bool → ℕ → List ℕ
lone true b = b ∷ []
lone false b = []

unfoldable pub piece : Bool → Bool → Option Quotes → List ℕ → List ℕ
piece first pair f t = lone (not first) (code " ") ++ (lone pair (code "+") ++ shown f t)

-- ---- bytes in quotes; `mark` is what closes them

abbrev pub is_marked : ℕ → ℕ → Bool
is_marked mark b = eqb b mark || eqb b (code "\\")

unfoldable pub escaped_byte : ℕ → ℕ → List ℕ
escaped_byte mark b = if is_marked mark b then code "\\" ∷ b ∷ [] else b ∷ []

unfoldable pub escaped_by : ℕ → List ℕ → List ℕ
escaped_by mark [] = []
escaped_by mark (b ∷ bs) = escaped_byte mark b ++ escaped_by mark bs

abbrev pub quoted_by : ℕ → List ℕ → List ℕ
quoted_by mark t = (mark ∷ escaped_by mark t) ++ (mark ∷ [])

-- ---- by places of records

-- none is refused 48
abbrev pub AllRight : List ℕ → List ℕ → List WriteWords → Type 0
AllRight source text [] = Unit {0}
AllRight source text (r ∷ rs) = (is_right source text r ≡ true) × AllRight source text rs

abbrev pub entry_at : List ℕ → List ℕ → List ℕ → ℕ → Entry
entry_at records source text p = entry_of source text (words_at records p)

-- what is written for the records from a place on
abbrev pub onward : List ℕ → List ℕ → List ℕ → Bool → ℕ → List ℕ
onward records source text first p = written first (entries_of source text (rest records p))

-- a turn from p on: its last record, and its piece, after which the rest is written
pub record TurnSaid (records source text : List ℕ) (first : Bool) (p : ℕ) (t : WriteTurn) : Type 0 where
  pub from : p ≤ t.last
  pub inside : t.last < count_of records
  pub body_right : is_right source text (words_at records t.last) ≡ true
  pub goes : onward records source text first p ≡ piece first t.pair t.form (body_of (entry_at records source text t.last)) ++ onward records source text false (t.last + 1)

-- a turn from p on with the bytes that its last word is made of, which are no more than the limit
pub record TakenSaid (records source text : List ℕ) (first : Bool) (p : ℕ) (t : WriteTurn) (b : List ℕ) : Type 0 where
  pub turn : TurnSaid records source text first p t
  pub body : b ≡ body_of (entry_at records source text t.last)
  pub short : length b ≤ refusal.limit

-- how many bytes are written: exactly, where they do not pass the limit
pub record Measured (w : List ℕ) (n : ℕ) : Type 0 where
  pub within : n ≤ refusal.limit → n ≡ length w
  pub past : refusal.limit < n → refusal.limit < length w
