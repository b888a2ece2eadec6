-- What the answers of the whole-text call and of the reader mean: document 01's numbers and values.
use Rattle.std.specs.Prelude.{ℕ, List, length, leb, ltb, if◌then◌else◌, None, Option, Some, Result, Ok, Err}
use Rattle.laws.specs.Lent.{written}
use Rattle.refusal.specs.Refusals as refusal
use Rattle.items.specs.Items.{depth_after, memory_of, record_of, words_of}
use Rattle.items.specs.Whole.{Answer, served, refused, limit}
use Rattle.lexer.specs.Reading.{Turn, gives, ends, next_at}
use Rattle.lexer.specs.declared.Spot.{Spot}
use Rattle.lexer.specs.declared.Position.{Position}
use Rattle.lexer.specs.declared.Needed.{Needed}
use Rattle.lexer.specs.declared.Given.{Given}
use Rattle.lexer.specs.declared.OpenError.{OpenError}
use Rattle.lexer.specs.declared.OpenError.TheVariants as opens
use Rattle.lexer.specs.declared.ReadError.{ReadError}
use Rattle.lexer.specs.declared.ReadError.TheVariants as read
use Rattle.lexer.specs.declared.NextError.{NextError}
use Rattle.lexer.specs.declared.NextError.TheVariants as next

-- ---- the whole-text call: crate `items` has `read_of`, all of it

abbrev pub answer_of : Result Needed ReadError → Answer
answer_of (Ok done) = served done.items done.text
answer_of (Err (read.NoMode mode)) = refused refusal.no_such_mode mode 0
answer_of (Err read.TooLong) = refused refusal.over_long limit 0
answer_of (Err (read.NotUtf8 at)) = refused refusal.not_utf8 at 0
answer_of (Err (read.NoRoom needed)) = refused refusal.too_few needed.items needed.text

-- what opening refuses the call refuses too
abbrev pub read_error : OpenError → ReadError
read_error (opens.NoMode mode) = read.NoMode mode
read_error opens.TooLong = read.TooLong
read_error (opens.NotUtf8 at) = read.NotUtf8 at

-- ---- one item of the reader

-- an item's record and the position after it; the end; or 01's number of a refusal and the two values that it comes with
pub data Reply : Type 0 where
  item : List ℕ → Position → Reply
  finished : Reply
  refuses : ℕ → ℕ → ℕ → Reply

abbrev pub reply_of : Result (Option Given) NextError → Reply
reply_of (Ok (Some g)) = item (words_of g.item) g.after
reply_of (Ok None) = finished
reply_of (Err next.TooLong) = refuses refusal.over_long limit 0
reply_of (Err (next.NoRoom text)) = refuses refusal.too_few 1 text

-- a reply, and what the text memory then holds
pub record Replied : Type 0 where
  pub reply : Reply
  pub text : List ℕ

abbrev pub replied : Reply → List ℕ → Replied
replied r t = record { reply = r; text = t }

-- at a spot, with so many brackets open
abbrev pub position_at : Spot → ℕ → Position
position_at p depth = record { spot = p; depth = depth }

-- 01: "each call lends text memory, where decoded text starts at 0; an item whose text doesn't fit gives 22, with 1 and its text bytes".
-- The record has the depth before the item, and the position after it the depth after it
unfoldable pub give_of : ℕ → Turn → List ℕ → Replied
give_of depth (gives i p) text =
    if leb (length (memory_of i.text)) (length text)
    then replied (item (record_of 0 depth i) (position_at p (depth_after i.kind depth))) (written (memory_of i.text) text)
    else replied (refuses refusal.too_few 1 (length (memory_of i.text))) text
give_of depth ends text = replied finished text

-- the next item from a position on, whatever the source is
unfoldable pub next_of : List ℕ → Position → List ℕ → Replied
next_of source p text = if ltb limit (length source) then replied (refuses refusal.over_long limit 0) text else give_of p.depth (next_at source p.spot) text
