-- What one call does with a state: the bytes taken, what it gives, the state and the text memory afterwards. It is said of every state
-- within the bounds, made by the calls or not, down to each byte of the buffer.
use Rattle.std.specs.Prelude.{ℕ, ◌+◌, Bool, true, false, ◌&&◌, List, [], ◌∷◌, ◌++◌, take, drop, replicate, eqb, leb, ltb, if◌then◌else◌, None, Option, Some}
use Rattle.laws.specs.Quoted.{code}
use Rattle.laws.specs.Lent.{written}
use Rattle.refusal.specs.Refusals as refusal
use Rattle.chars.specs.Encode.{width, utf8}
use Rattle.chars.specs.Blank.{is_blank}
use Rattle.chars.specs.Machine.{step, start, told}
use Rattle.items.specs.Kinds as kind
use Rattle.items.specs.declared.Phase.TheVariants.{AfterHash}
use Rattle.items.specs.declared.Outcome.{Outcome}
use Rattle.items.specs.declared.Next.{Next}
use Rattle.items.specs.declared.Next.TheVariants.{Eat, Stop}
use Rattle.items.specs.Classes.{first_of}
use Rattle.items.specs.Readers.{SoFar, so_far}
use Rattle.items.specs.Meaning.{source}
use Rattle.items.specs.Items.{Place, range, range_after, Item, extent_items, item_of, depth_after}
use Rattle.items.specs.Machine.{step_of, finish_of, on_first}
use Rattle.items.specs.Whole.{limit, in_report, is_mode}
use Rattle.pieces.specs.declared.Stage.{Stage}
use Rattle.pieces.specs.declared.Stage.TheVariants.{Opening, Pound, FirstLine, Idle, Busy, Waiting, Stopped}
use Rattle.pieces.specs.declared.Part.{Part}
use Rattle.pieces.specs.declared.Marks.{Marks}
use Rattle.pieces.specs.declared.State.{State}
use Rattle.pieces.specs.Given.{Given, given}
use Rattle.pieces.specs.Expected.{longest}
use Rattle.pieces.specs.Bounds.{is_in_bounds}

-- what a call gives: an item with its text, "more", "finished", or a refusal with its number and place
pub data What : Type 0 where
  item : Given → What
  more finished : What
  refused : ℕ → ℕ → What

pub record Reply : Type 0 where
  pub taken : ℕ
  pub what : What
  pub state : State

abbrev pub reply : ℕ → What → State → Reply
reply n w s = record { taken = n; what = w; state = s }

-- only an item changes the text memory: its text stands at the start
abbrev pub text_after : What → List ℕ → List ℕ
text_after (item g) old = written g.text old
text_after more old = old
text_after finished old = old
text_after (refused n p) old = old

-- ---- states

-- between two characters
abbrev pub whole : Part
whole = record { count = 0; state = start }

abbrev pub marks : Marks → Stage → ℕ → ℕ → Place → Marks
marks m g at n last =
    record {
      mode = m.mode;
      skip = m.skip;
      ended = m.ended;
      stage = g;
      at = at;
      part = whole;
      from = last.from;
      to = last.to;
      len = n;
      depth = m.depth;
    }

abbrev pub with_depth : ℕ → Marks → Marks
with_depth d m =
    record {
      mode = m.mode;
      skip = m.skip;
      ended = m.ended;
      stage = m.stage;
      at = m.at;
      part = m.part;
      from = m.from;
      to = m.to;
      len = m.len;
      depth = d;
    }

-- a state with another buffer, stage, place, count of the item's bytes and last range, between two characters
abbrev pub becomes : State → List ℕ → Stage → ℕ → ℕ → Place → State
becomes s b g at n last = record { buf = b; marks = marks s.marks g at n last }

-- a state with so many brackets open, and one after an item of a kind
abbrev pub at_depth : ℕ → State → State
at_depth d s = record { buf = s.buf; marks = with_depth d s.marks }

abbrev pub deeper : ℕ → State → State
deeper k s = at_depth (depth_after k s.marks.depth) s

abbrev pub last_of : State → Place
last_of s = range s.marks.from s.marks.to

-- the item so far
abbrev pub item_so_far : State → SoFar
item_so_far s = so_far (take s.marks.len s.buf) s.marks.at

-- the buffer with some bytes from a place on
abbrev pub laid_at : ℕ → List ℕ → List ℕ → List ℕ
laid_at n bs buf = take n buf ++ written bs (drop n buf)

-- ---- one character. A turn leaves a state and goes on, or ends the call with something given

pub data Turn : Type 0 where
  on : State → Turn
  off : State → What → Turn

-- the stop stands from then on; the item is dropped
abbrev pub stopped : State → ℕ → ℕ → Turn
stopped s n p = off (becomes s s.buf (Stopped n p) s.marks.at 0 (last_of s)) (refused n p)

-- a character between items: a blank is passed over, any other begins an item
abbrev pub begin : State → Place → ℕ → State
begin s last c =
    if is_blank c
    then becomes s s.buf Idle (s.marks.at + width c) 0 last
    else becomes s (laid_at 0 (utf8 c) s.buf) (Busy s.marks.at (on_first (first_of c))) (s.marks.at + width c) (width c) last

-- what stands beyond the items that were given: a character, or the end
abbrev pub beyond : State → Place → Option ℕ → State
beyond s last (Some c) = begin s last c
beyond s last None = becomes s s.buf Idle s.marks.at 0 last

-- the items of the extent that starts at st and ended: none, one, or a pair, whose second item waits. A comment may be skipped. The
-- brackets that are open are counted with each item; a pair is two identifiers
abbrev pub gives : State → ℕ → Place → Option ℕ → List Item → Turn
gives s st last b [] = on (beyond s last b)
gives s st last b (i ∷ []) =
    if s.marks.skip && eqb i.kind kind.Comment
    then on (beyond s last b)
    else off (beyond (deeper i.kind s) last b) (item (given s.marks.depth (item_so_far s).bytes i))
gives s st last b (i ∷ j ∷ is) =
    off (becomes s s.buf (Waiting st b) s.marks.at s.marks.len last) (item (given s.marks.depth (item_so_far s).bytes i))

abbrev pub report : State → Bool
report s = in_report s.marks.mode

abbrev pub ends : State → ℕ → Outcome → Option ℕ → Turn
ends s st o b = gives s st (range_after (report s) (last_of s) st o (item_so_far s)) b (extent_items (report s) (last_of s) st o (item_so_far s))

-- in an item that starts at st
abbrev pub on_next : State → ℕ → ℕ → Next → Turn
on_next s st c (Eat q) =
    if ltb longest (s.marks.len + width c)
    then stopped s refusal.long_item st
    else on (becomes s (laid_at s.marks.len (utf8 c) s.buf) (Busy st q) (s.marks.at + width c) (s.marks.len + width c) (last_of s))
on_next s st c (Stop o) = ends s st o (Some c)

abbrev pub on_stage : State → Stage → ℕ → Turn
on_stage s Opening c =
    on (if eqb c (code "#") then becomes s (laid_at 0 (utf8 c) s.buf) Pound (s.marks.at + width c) (width c) (last_of s) else begin s (last_of s) c)
on_stage s Pound c =
    if eqb c (code "!")
    then on (becomes s s.buf FirstLine (s.marks.at + width c) 0 (last_of s))
    else on_next s 0 c (step_of (report s) AfterHash (item_so_far s) c)
on_stage s FirstLine c =
    on (if eqb c (code "\n") then begin s (last_of s) c else becomes s s.buf FirstLine (s.marks.at + width c) 0 (last_of s))
on_stage s Idle c = on (begin s (last_of s) c)
on_stage s (Busy st p) c = on_next s st c (step_of (report s) p (item_so_far s) c)
on_stage s (Waiting st b) c = on s
on_stage s (Stopped n p) c = on s

-- ---- one byte

abbrev pub partly : State → Part → State
partly s p =
    record {
      buf = s.buf;
      marks =
          record {
            mode = s.marks.mode;
            skip = s.marks.skip;
            ended = s.marks.ended;
            stage = s.marks.stage;
            at = s.marks.at;
            part = p;
            from = s.marks.from;
            to = s.marks.to;
            len = s.marks.len;
            depth = s.marks.depth;
          };
    }

-- 20 "at the first byte too many"; 21 "at the first byte after which no valid text can follow", with the start of its sequence
unfoldable pub turn_of : State → ℕ → Turn
turn_of s b =
    if leb limit (s.marks.at + s.marks.part.count)
    then stopped s refusal.over_long limit
    else
    told (step s.marks.part.state b)
    (λ u. on (partly s (record { count = s.marks.part.count + 1; state = u })))
    (λ c. on_stage s s.marks.stage c)
    (stopped s refusal.not_utf8 s.marks.at)

-- ---- a piece: "the fewest bytes that make one ready, or the whole piece". n bytes were taken before

abbrev pub after : Turn → (State → Reply) → ℕ → Reply
after (on s) go n = go s
after (off s w) go n = reply n w s

unfoldable pub feed_of : State → List ℕ → ℕ → Reply
feed_of s [] n = reply n more s
feed_of s (b ∷ bs) n = after (turn_of s b) (λ t. feed_of t bs (n + 1)) (n + 1)

-- the second item of a pair: what is left of its word after the plus
abbrev pub second : State → ℕ → Given
second s st =
    given s.marks.depth (item_so_far s).bytes
    (item_of (report s) (last_of s) st s.marks.at (record { kind = kind.Identifier; detail = 0; text = source (st + 1) s.marks.at }))

-- "With one waiting, a call takes 0 bytes and gives it"; "a stop .. stands from then on"; 26 after the declared end
abbrev pub piece_stage : State → Stage → List ℕ → Reply
piece_stage s (Stopped n p) bs = reply 0 (refused n p) s
piece_stage s (Waiting st b) bs =
    if s.marks.ended then reply 0 (refused refusal.after_end 0) s else reply 0 (item (second s st)) (beyond s (last_of s) b)
piece_stage s Opening bs = if s.marks.ended then reply 0 (refused refusal.after_end 0) s else feed_of s bs 0
piece_stage s Pound bs = if s.marks.ended then reply 0 (refused refusal.after_end 0) s else feed_of s bs 0
piece_stage s FirstLine bs = if s.marks.ended then reply 0 (refused refusal.after_end 0) s else feed_of s bs 0
piece_stage s Idle bs = if s.marks.ended then reply 0 (refused refusal.after_end 0) s else feed_of s bs 0
piece_stage s (Busy st p) bs = if s.marks.ended then reply 0 (refused refusal.after_end 0) s else feed_of s bs 0

-- 27, 24, a standing stop, 26, then work; `room` is the length of the text memory
unfoldable pub piece_of : State → List ℕ → ℕ → Reply
piece_of s bs room =
    if is_in_bounds s
    then (if ltb room longest then reply 0 (refused refusal.little_text 0) s else piece_stage s s.marks.stage bs)
    else reply 0 (refused refusal.out_of_bounds 0) s

-- ---- the end

abbrev pub declared : State → State
declared s =
    record {
      buf = s.buf;
      marks =
          record {
            mode = s.marks.mode;
            skip = s.marks.skip;
            ended = true;
            stage = s.marks.stage;
            at = s.marks.at;
            part = s.marks.part;
            from = s.marks.from;
            to = s.marks.to;
            len = s.marks.len;
            depth = s.marks.depth;
          };
    }

abbrev pub replied : Turn → Reply
replied (on s) = reply 0 finished s
replied (off s w) = reply 0 w s

-- "a sequence cut by the end is 21 too"
abbrev pub unless_cut : State → Reply → Reply
unless_cut s r = if eqb s.marks.part.count 0 then r else replied (stopped s refusal.not_utf8 s.marks.at)

-- the end is declared in s
abbrev pub end_stage : State → Stage → Reply
end_stage s Opening = unless_cut s (reply 0 finished s)
end_stage s Pound = unless_cut s (replied (ends s 0 (finish_of AfterHash (item_so_far s).bytes) None))
end_stage s FirstLine = unless_cut s (reply 0 finished s)
end_stage s Idle = unless_cut s (reply 0 finished s)
end_stage s (Busy st p) = unless_cut s (replied (ends s st (finish_of p (item_so_far s).bytes) None))
end_stage s (Waiting st b) = reply 0 (item (second s st)) (beyond s (last_of s) b)
end_stage s (Stopped n p) = reply 0 (refused n p) s

abbrev pub end_unless_stopped : State → Stage → Reply
end_unless_stopped s (Stopped n p) = reply 0 (refused n p) s
end_unless_stopped s Opening = end_stage (declared s) Opening
end_unless_stopped s Pound = end_stage (declared s) Pound
end_unless_stopped s FirstLine = end_stage (declared s) FirstLine
end_unless_stopped s Idle = end_stage (declared s) Idle
end_unless_stopped s (Busy st p) = end_stage (declared s) (Busy st p)
end_unless_stopped s (Waiting st b) = end_stage (declared s) (Waiting st b)

unfoldable pub end_of : State → ℕ → Reply
end_of s room =
    if is_in_bounds s
    then (if ltb room longest then reply 0 (refused refusal.little_text 0) s else end_unless_stopped s s.marks.stage)
    else reply 0 (refused refusal.out_of_bounds 0) s

-- ---- opening: 25, with a fresh plain state handed back

abbrev pub fresh : ℕ → Bool → State
fresh mode skip =
    record {
      buf = replicate longest 0;
      marks = record { mode = mode; skip = skip; ended = false; stage = Opening; at = 0; part = whole; from = 0; to = 0; len = 0; depth = 0 };
    }

unfoldable pub open_of : ℕ → Bool → Reply
open_of mode skip = if is_mode mode then reply 0 more (fresh mode skip) else reply 0 (refused refusal.no_such_mode mode) (fresh 0 skip)
