-- An item that is given here.
use Rattle.std.specs.Prelude.{ℕ, ◌+◌, ◌≤◌, ◌<◌, ◌^◌, ◌≡◌, Bool, List, [], ◌∷◌, length, take, drop, None, Option, Some}
use Rattle.laws.specs.Lent.{written}
use Rattle.items.specs.Kinds as kind
use Rattle.items.specs.declared.Record.{Record}
use Rattle.items.specs.Items.{Place}
use Rattle.items.specs.Whole.{limit}
use Rattle.items.specs.Meaning.{unescape}
use Rattle.items.specs.declared.Quotes.TheVariants.{Double}
use Rattle.meaning.specs.Meant.{means}
use Rattle.meaning.specs.declared.Text.TheVariants.{Decoded}
use Rattle.meaning.specs.declared.Means.{Means}
use Rattle.meaning.specs.Records.{nine_with}
use Rattle.pieces.specs.declared.Got.{Got}
use Rattle.pieces.specs.declared.Got.TheVariants.{Item, More}
use Rattle.pieces.specs.Expected.{longest}
use Rattle.pieces.specs.Calls.{item, begin, deeper, last_of, feed_of, text_after}
use Rattle.pieces_giving.specs.Answers.{what_of}
use Rattle.pieces_giving.specs.Copied.{given_by}
use Rattle.pieces_turns.specs.Inner.{Sound}
use Rattle.pieces_lent.specs.declared.Words.{Words}
use Rattle.pieces_lent.specs.declared.Told.{Told}
use Rattle.pieces_lent.specs.Stood.{Stood}
use Rattle.pieces_lent.specs.Calls.{Said, lent, lend, said, worded, piece_for}
use Rattle.pieces_spots.specs.declared.PieceSpot.{PieceSpot}
use Rattle.pieces_quick.specs.declared.QuickItem.{QuickItem}
use Rattle.pieces_quick.specs.declared.Reached.{Reached}
use Rattle.pieces_quick.specs.declared.Reached.TheVariants as reached
use Rattle.pieces_spots.specs.Spots.{marks_at, state_at, Ended, Firsts}
use Rattle.pieces_quick.specs.Words.{Ready, base, stood}

-- ---- the record of an item, and its text

-- the record of an item whose place is its extent
abbrev pub recorded : ℕ → ℕ → ℕ → ℕ → ℕ → ℕ → ℕ → Record
recorded k detail start end source past depth =
    record { nine = nine_with (k ∷ detail ∷ start ∷ end ∷ start ∷ end ∷ source ∷ 0 ∷ past ∷ []); depth = depth }

-- what a string with an escape means
abbrev pub decoded_means : List ℕ → Means
decoded_means raw = means kind.StringLiteral 0 (Decoded (length (unescape Double (drop 1 raw))))

-- an item that is no error, held as `raw` before a spot, and a text memory with room for it
pub record Copying (s : PieceSpot) (m : Means) (raw text : List ℕ) : Type 0 where
  pub held : s.start + length raw ≡ s.at
  pub some : 1 ≤ length raw
  pub small : length raw ≤ longest
  pub room : longest ≤ length text
  pub far : s.at ≤ limit
  pub fine : m.kind < kind.first_error

-- it is given by this record and this text, whatever range stands
abbrev pub Copied : PieceSpot → Means → ℕ → List ℕ → List ℕ → List ℕ → Option Record → Type 0
Copied s m depth raw text then (Some r) =
    (report : Bool) (last : Place)
    → (what_of (Item r) then ≡ item (given_by depth report m last s.start s.at raw))
    × (then ≡ written (given_by depth report m last s.start s.at raw).text text)
Copied s m depth raw text then None = then ≡ text

-- ---- the item that ends before a byte

-- a spot that words lead to, before a byte
pub record Held (w : Words) (s : PieceSpot) (buf text : List ℕ) : Type 0 where
  pub left : ℕ
  pub ready : Ready w left
  pub sound : Sound (marks_at (base w) s) buf text
  pub far : s.at + 1 ≤ limit
  pub held : 3 < s.stage → (s.start + s.len ≡ s.at) × (1 ≤ s.len)
  pub small : s.len ≤ longest
  pub which : s.which < 2 ^ 32
  pub detail : s.detail < 2 ^ 32
  pub taken : s.i + 1 < 2 ^ 64

-- the words and the buffer after an item of a kind that ends before a byte
abbrev pub Next : Words → PieceSpot → ℕ → ℕ → List ℕ → Words → List ℕ → Type 0
Next w s c k buf r now = lent r now ≡ lend (begin (deeper k (state_at (base w) s buf)) (last_of (state_at (base w) s buf)) c)

-- an item that ends there, and what the byte begins
pub record Finishes (s : PieceSpot) (c f : ℕ) (buf : List ℕ) (m : Means) : Type 0 where
  pub held : s.start + s.len ≡ s.at
  pub some : 1 ≤ s.len
  pub ended : Ended s.stage s.which s.detail c s.start (take s.len buf) m
  pub firsts : Firsts c f
  pub told : 3 ≤ f

-- what is told at a spot
abbrev pub told_at : Words → PieceSpot → ℕ → Got → Told
told_at w s depth g = record { words = stood w s depth; taken = s.i; got = g }

abbrev pub Finished : Words → PieceSpot → ℕ → List ℕ → List ℕ → List ℕ → List ℕ → Option QuickItem → Type 0
Finished w s c buf now text then (Some q) =
    (rest : List ℕ)
    → (said (told_at w q.spot q.depth (Item q.item)) now then ≡ worded (feed_of (state_at (base w) s buf) (c ∷ rest) s.i))
    × (then ≡ text_after (feed_of (state_at (base w) s buf) (c ∷ rest) s.i).what text)
Finished w s c buf now text then None = (now ≡ buf) × (then ≡ text)

-- ---- from a spot on

-- what is answered is what the bytes from a spot on give
abbrev pub Feeds : Words → PieceSpot → List ℕ → List ℕ → List ℕ → List ℕ → List ℕ → Told → Type 0
Feeds w s piece buf now text then t =
    (said t now then ≡ worded (feed_of (state_at (base w) s buf) (drop s.i piece) s.i))
    × (then ≡ text_after (feed_of (state_at (base w) s buf) (drop s.i piece) s.i).what text)

-- a spot that words lead to
pub record Reaches (w : Words) (s : PieceSpot) (buf text : List ℕ) : Type 0 where
  pub left : ℕ
  pub ready : Ready w left
  pub sound : Sound (marks_at (base w) s) buf text

-- what comes of the bytes from a spot on: all are taken, an item is given, or the reader stands there, before a byte
abbrev pub Comes : Words → PieceSpot → List ℕ → List ℕ → List ℕ → List ℕ → List ℕ → Reached → Type 0
Comes w s piece buf now text then (reached.More p) = Feeds w s piece buf now text then (told_at w p w.depth More)
Comes w s piece buf now text then (reached.Item q) = Feeds w s piece buf now text then (told_at w q.spot q.depth (Item q.item))
Comes w s piece buf now text then (reached.Before p) = (p ≡ s) × (now ≡ buf) × (then ≡ text)

-- what is told is what the call of `pieces_lent` says of the words
abbrev pub Says : Words → List ℕ → List ℕ → List ℕ → List ℕ → List ℕ → Told → Type 0
Says w piece buf now text then t =
    (said t now then ≡ piece_for (lent w buf) piece (length text)) × (then ≡ text_after (piece_for (lent w buf) piece (length text)).what text)

-- so many bytes taken before
abbrev pub later : ℕ → Said → Said
later n s = record { taken = s.taken + n; what = s.what; state = s.state }

-- what is told is what the call of `pieces_lent` says from a place of the piece on
abbrev pub Continues : Words → ℕ → List ℕ → List ℕ → List ℕ → List ℕ → List ℕ → Told → Type 0
Continues w from piece buf now text then t =
    (said t now then ≡ later from (piece_for (lent w buf) (drop from piece) (length text)))
    × (then ≡ text_after (piece_for (lent w buf) (drop from piece) (length text)).what text)

-- a spot from which the answer is still to come: the call of `pieces_lent` says it on the words of the spot, which are those of a state that reads
-- on, and the rest of the piece
pub record Awaits (w : Words) (piece buf now text then : List ℕ) (s : PieceSpot) : Type 0 where
  pub inside : s.i ≤ length piece
  pub same : then ≡ text
  pub reads : Stood (stood w s w.depth) now text
  pub on : later s.i (piece_for (lent (stood w s w.depth) now) (drop s.i piece) (length text)) ≡ piece_for (lent w buf) piece (length text)

abbrev pub Answers : Words → List ℕ → List ℕ → List ℕ → List ℕ → List ℕ → Reached → Type 0
Answers w piece buf now text then (reached.More p) = Says w piece buf now text then (told_at w p w.depth More)
Answers w piece buf now text then (reached.Item q) = Says w piece buf now text then (told_at w q.spot q.depth (Item q.item))
Answers w piece buf now text then (reached.Before p) = Awaits w piece buf now text then p
