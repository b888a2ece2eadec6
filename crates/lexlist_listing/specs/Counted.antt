-- What a listing comes to, by the calls' definition: crate `pieces`, specs/Drive, has the same caller, and it collects the items that this one
-- counts and prints.
use Rattle.std.specs.Prelude.{◌≡◌, ℕ, ◌+◌, ◌*◌, ◌%◌, ◌^◌, List, length, Option, None, Some}
use Rattle.pieces.specs.declared.Answer.{Answer}
use Rattle.pieces.specs.declared.Got.{Got}
use Rattle.pieces.specs.declared.Got.TheVariants as got
use Rattle.pieces.specs.declared.State.{State}
use Rattle.pieces.specs.Drive.{piece_calls, end_calls}
use Rattle.pieces.specs.Expected.{LastWord, finished, refused, Expected}
use Rattle.lexlist_listing.specs.declared.Ending.{Ending}
use Rattle.lexlist_listing.specs.declared.Ending.TheVariants.{Finished, Refused}
use Rattle.lexlist_listing.specs.declared.Listing.{Listing}

-- how many items were given, as 64 bits hold it, and the last word
pub record Tally : Type 0 where
  pub items : ℕ
  pub last : LastWord

abbrev pub tally : ℕ → LastWord → Tally
tally n w = record { items = n % 2 ^ 64; last = w }

-- what the calls give, after n items
abbrev pub counted : ℕ → Expected → Tally
counted n e = tally (n + length e.items) e.last

-- ---- an answer heeded

-- an item is one more
abbrev pub more : ℕ → Got → ℕ
more n (got.Item r) = (n + 1) % 2 ^ 64
more n got.More = n
more n got.Finished = n
more n (got.Refused number place) = n

-- "finished" and a refusal are the last word
abbrev pub ending_of : Got → Option Ending
ending_of (got.Item r) = None
ending_of got.More = None
ending_of got.Finished = Some Finished
ending_of (got.Refused number place) = Some (Refused number place)

abbrev pub heed : ℕ → Answer → Listing
heed n a = record { state = a.state; items = more n a.got; ending = ending_of a.got }

-- ---- where a listing stands

-- what it comes to: `next` is what the calls give from its state on, where it goes on
abbrev pub comes_by : Option Ending → ℕ → State → (State → Expected) → Tally
comes_by None n s next = counted n (next s)
comes_by (Some Finished) n s next = tally n finished
comes_by (Some (Refused number place)) n s next = tally n (refused number place)

abbrev pub comes_to : Listing → (State → Expected) → Tally
comes_to l next = comes_by l.ending l.items l.state next

-- After a piece: whatever follows it, the listing comes to what the caller of Drive is given. `room` is the length of the text memory
abbrev pub PieceListed : ℕ → Listing → List ℕ → Listing → Type 0
PieceListed room before bytes after =
    (next : State → Expected) → comes_to after next ≡ counted before.items (piece_calls room (2 * length bytes + 2) before.state bytes next)

-- After the declared end: nothing follows
abbrev pub EndListed : ℕ → Listing → Listing → Type 0
EndListed room before after = (next : State → Expected) → comes_to after next ≡ counted before.items (end_calls room 4 before.state)
