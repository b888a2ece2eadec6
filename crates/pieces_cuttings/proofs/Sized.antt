-- The ninth word of an item that a call gives says how long its text is. Of every state, produced or not: each item is made as document 01's
-- "Text is always copied here" says.
use Rattle.refusal.specs.Refusals as refusal
use Rattle.chars.specs.declared.Step.{Step}
use Rattle.chars.specs.declared.Step.TheVariants as steps
use Rattle.chars.specs.Encode.{width}
use Rattle.chars.specs.Machine.{step, told}
use Rattle.items.specs.declared.Next.{Next}
use Rattle.items.specs.declared.Next.TheVariants.{Eat, Stop}
use Rattle.items.specs.declared.Outcome.{Outcome}
use Rattle.items.specs.declared.Phase.TheVariants.{AfterHash}
use Rattle.items.specs.Items.{Place, Item, range_after, extent_items}
use Rattle.items.specs.Kinds as kind
use Rattle.items.specs.Machine.{step_of, finish_of}
use Rattle.items.specs.Meaning.{Text, none, source, decoded}
use Rattle.items.specs.Whole.{limit}
use Rattle.laws.specs.Quoted.{code}
use Rattle.laws.proofs.Choice.{by_bool, if_all}
use Rattle.pieces.specs.declared.Stage.{Stage}
use Rattle.pieces.specs.declared.Stage.TheVariants.{Opening, Pound, FirstLine, Idle, Busy, Waiting, Stopped}
use Rattle.pieces.specs.declared.State.{State}
use Rattle.pieces.specs.Bounds.{is_in_bounds}
use Rattle.pieces.specs.Calls.{What, Reply, last_of, item_so_far, Turn, on, off, stopped, gives, report, ends, on_next, on_stage, partly, turn_of, after, feed_of}
use Rattle.pieces.specs.Calls.{second, piece_stage, piece_of, declared, replied, end_unless_stopped, end_of}
use Rattle.pieces.specs.Expected.{longest}
use Rattle.pieces.specs.Given.{given, copied, copied_words}
use Rattle.pieces_cuttings.specs.Inner.{Sized}
use Rattle.std.proofs.Common.{◌≡◌, ℕ, ◌+◌, ◌&&◌, eqb, ltb, leb, List, [], ◌∷◌, ◌++◌, length, get_or, refl, None, Option, Some}

-- ---- one item

sized_given : (depth : ℕ) (raw : List ℕ) (i : Item) → get_or (given depth raw i).words 8 0 ≡ length (given depth raw i).text
sized_given depth raw i = by_text_lem i.text
  where
    by_text_lem : (t : Text)
        → get_or (i.kind ∷ i.detail ∷ i.start ∷ i.end ∷ i.place.from ∷ i.place.to
        ∷ copied_words i.kind t (length (copied i.kind i.start raw t)) ++ (depth ∷ [])) 8 0 ≡ length (copied i.kind i.start raw t)
    by_text_lem none = by_bool (eqb i.kind kind.Number) (λ e. rw e) (λ e. rw e)
    by_text_lem (source a b) = refl
    by_text_lem (decoded bs) = refl

-- ---- a turn

abbrev SizedTurn : Turn → Type 0
SizedTurn (on s) = Unit {0}
SizedTurn (off s w) = Sized w

module _ (s : State) where
  sized_gives : (st : ℕ) (last : Place) (b : Option ℕ) (is : List Item) → SizedTurn (gives s st last b is)
  sized_gives st last b [] = tt
  sized_gives st last b (i ∷ []) = if_all SizedTurn (s.marks.skip && eqb i.kind kind.Comment) tt (sized_given s.marks.depth (item_so_far s).bytes i)
  sized_gives st last b (i ∷ j ∷ is) = sized_given s.marks.depth (item_so_far s).bytes i

  sized_ends : (st : ℕ) (o : Outcome) (b : Option ℕ) → SizedTurn (ends s st o b)
  sized_ends st o b = sized_gives st (range_after (report s) (last_of s) st o (item_so_far s)) b (extent_items (report s) (last_of s) st o (item_so_far s))

  sized_next : (st c : ℕ) (n : Next) → SizedTurn (on_next s st c n)
  sized_next st c (Eat p) = if_all SizedTurn (ltb longest (s.marks.len + width c)) tt tt
  sized_next st c (Stop o) = sized_ends st o (Some c)

  sized_stage : (b : Stage) (c : ℕ) → SizedTurn (on_stage s b c)
  sized_stage Opening c = tt
  sized_stage Pound c = if_all SizedTurn (eqb c (code "!")) tt (sized_next 0 c (step_of (report s) AfterHash (item_so_far s) c))
  sized_stage FirstLine c = tt
  sized_stage Idle c = tt
  sized_stage (Busy st p) c = sized_next st c (step_of (report s) p (item_so_far s) c)
  sized_stage (Waiting st b) c = tt
  sized_stage (Stopped n p) c = tt

  sized_turn : (b : ℕ) → SizedTurn (turn_of s b)
  unfolding turn_of
  sized_turn b = if_all SizedTurn (leb limit (s.marks.at + s.marks.part.count)) tt (go (step s.marks.part.state b))
    where
      go : (o : Step) → SizedTurn (told o (λ u. on (partly s (record { count = s.marks.part.count + 1; state = u }))) (λ c. on_stage s s.marks.stage c)
          (stopped s refusal.not_utf8 s.marks.at))
      go (steps.More u) = tt
      go (steps.Char c) = sized_stage s.marks.stage c
      go steps.Bad = tt

-- ---- a call

abbrev SizedReply : Reply → Type 0
SizedReply r = Sized r.what

sized_feed : (bs : List ℕ) (s : State) (n : ℕ) → SizedReply (feed_of s bs n)
unfolding feed_of
sized_feed [] s n = tt
sized_feed (b ∷ bs) s n = go (turn_of s b) (sized_turn s b) (λ u. sized_feed bs u (n + 1))
  where
    go : (t : Turn) → SizedTurn t → ((u : State) → SizedReply (feed_of u bs (n + 1))) → SizedReply (after t (λ u. feed_of u bs (n + 1)) (n + 1))
    go (on u) z ih = ih u
    go (off u w) z ih = z

module _ (s : State) where
  read_on : (bs : List ℕ) → SizedReply (piece_stage s Idle bs)
  read_on bs = if_all SizedReply s.marks.ended tt (sized_feed bs s 0)

  sized_second : (st : ℕ) → Sized (What.item (second s st))
  sized_second st = refl

  by_stage : (b : Stage) (bs : List ℕ) → SizedReply (piece_stage s b bs)
  by_stage Opening bs = read_on bs
  by_stage Pound bs = read_on bs
  by_stage FirstLine bs = read_on bs
  by_stage Idle bs = read_on bs
  by_stage (Busy st p) bs = read_on bs
  by_stage (Waiting st b) bs = if_all SizedReply s.marks.ended tt (sized_second st)
  by_stage (Stopped n p) bs = tt

  sized_replied : (t : Turn) → SizedTurn t → SizedReply (replied t)
  sized_replied (on u) h = tt
  sized_replied (off u w) h = h

  ends_item : (st : ℕ) (o : Outcome) → SizedReply (replied (ends (declared s) st o None))
  ends_item st o = sized_replied (ends (declared s) st o None) (sized_ends (declared s) st o None)

  at_end_case : (b : Stage) → SizedReply (end_unless_stopped s b)
  at_end_case Opening = if_all SizedReply (eqb s.marks.part.count 0) tt tt
  at_end_case Pound = if_all SizedReply (eqb s.marks.part.count 0) (ends_item 0 (finish_of AfterHash (item_so_far s).bytes)) tt
  at_end_case FirstLine = if_all SizedReply (eqb s.marks.part.count 0) tt tt
  at_end_case Idle = if_all SizedReply (eqb s.marks.part.count 0) tt tt
  at_end_case (Busy st p) = if_all SizedReply (eqb s.marks.part.count 0) (ends_item st (finish_of p (item_so_far s).bytes)) tt
  at_end_case (Waiting st b) = sized_second st
  at_end_case (Stopped n p) = tt

pub piece_sized : (s : State) (bs : List ℕ) (room : ℕ) → SizedReply (piece_of s bs room)
unfolding piece_of
piece_sized s bs room = if_all SizedReply (is_in_bounds s) (if_all SizedReply (ltb room longest) tt (by_stage s s.marks.stage bs)) tt

pub end_sized : (s : State) (room : ℕ) → SizedReply (end_of s room)
unfolding end_of
end_sized s room = if_all SizedReply (is_in_bounds s) (if_all SizedReply (ltb room longest) tt (at_end_case s s.marks.stage)) tt
