-- What a call gives can be told by numbers: an item's record has ten words, of which the last but one is the length of its text, and a refusal's number is
-- none of those that stand for an item, "more" and "finished".
use Prim.Native.Nat.{ℕ, ◌+◌, ◌-◌, ◌≤◌}
use mathlib.Core.Path.{◌≡◌, refl}
use mathlib.Core.Bool.{Bool, true, ◌&&◌}
use mathlib.Core.List.{List, [], ◌∷◌, ◌++◌}
use lib.ListN.{length, get_or}
use lib.Dec.{eqb, leb, ltb}
use native.Mathlib.Omega.{arith}
use borrow.Author.Tests.{eqb-true}
use Rattle.refusal.specs.Refusals as refusal
use Rattle.std.specs.Prelude.{if◌then◌else◌, None, Option, Some}
use Rattle.laws.specs.Quoted.{code}
use Rattle.laws.proofs.Choice.{by_bool, if_all, if_is, and_true}
use Rattle.chars.specs.declared.Step.{Step}
use Rattle.chars.specs.declared.Step.TheVariants as steps
use Rattle.chars.specs.Encode.{width}
use Rattle.chars.specs.Machine.{step, told}
use Rattle.items.specs.declared.Next.{Next}
use Rattle.items.specs.declared.Next.TheVariants.{Eat, Stop}
use Rattle.items.specs.declared.Outcome.{Outcome}
use Rattle.items.specs.declared.Phase.TheVariants.{AfterHash}
use Rattle.items.specs.Items.{Place, Item, range_after, extent_items, record_words}
use Rattle.items.specs.Kinds as kind
use Rattle.items.specs.Machine.{step_of, finish_of}
use Rattle.items.specs.Meaning.{Text, none, source, decoded}
use Rattle.items.specs.Whole.{limit}
use Rattle.pieces.specs.declared.Stage.{Stage}
use Rattle.pieces.specs.declared.Stage.TheVariants.{Opening, Pound, FirstLine, Idle, Busy, Waiting, Stopped}
use Rattle.pieces.specs.declared.State.{State}
use Rattle.pieces.specs.Bounds.{is_in_bounds, number_bounds, part_bounds, stage_bounds, stop_bounds, is_place}
use Rattle.pieces.specs.Calls.{What, item, more, finished, refused, Reply, Turn, on, off, gives, ends, on_next, on_stage, turn_of, after, feed_of, partly, stopped, second, piece_stage, piece_of}
use Rattle.pieces.specs.Calls.{replied, declared, end_unless_stopped, end_of, item_so_far, last_of, report}
use Rattle.pieces.specs.Expected.{longest}
use Rattle.pieces.specs.Given.{copied, copied_words, given}
use Rattle.exports_theorems.specs.Flat.{past_word}

abbrev pub Tells : What → Type 0
Tells (item g) = (length g.words ≡ record_words) × (get_or g.words past_word 0 ≡ length g.text)
Tells more = Unit {0}
Tells finished = Unit {0}
Tells (refused n p) = 13 ≤ n

abbrev TellsTurn : Turn → Type 0
TellsTurn (on s) = Unit {0}
TellsTurn (off s w) = Tells w

abbrev TellsReply : Reply → Type 0
TellsReply r = Tells r.what

-- ---- an item

-- with six words before the text's
abbrev ToldBy : ℕ → List ℕ → Item → Text → Type 0
ToldBy depth raw i t =
    let text : List ℕ = copied i.kind i.start raw t in
    let words : List ℕ = 0 ∷ 0 ∷ 0 ∷ 0 ∷ 0 ∷ 0 ∷ copied_words i.kind t (length text) ++ (depth ∷ []) in
    (length words ≡ record_words) × (get_or words past_word 0 ≡ length text)

text_told_lem : (depth : ℕ) (raw : List ℕ) (i : Item) (t : Text) → ToldBy depth raw i t
text_told_lem depth raw i none = by_bool (eqb i.kind kind.Number) (λ e. rw e (refl, refl)) (λ e. rw e (refl, refl))
text_told_lem depth raw i (source a b) = (refl, refl)
text_told_lem depth raw i (decoded bs) = (refl, refl)

given_tells : (depth : ℕ) (raw : List ℕ) (i : Item) → Tells (item (given depth raw i))
given_tells depth raw i = text_told_lem depth raw i i.text

-- ---- one character

module _ (s : State) where
  gives_tells : (st : ℕ) (last : Place) (b : Option ℕ) (l : List Item) → TellsTurn (gives s st last b l)
  gives_tells st last b [] = tt
  gives_tells st last b (i ∷ []) = if_all TellsTurn (s.marks.skip && eqb i.kind kind.Comment) tt (given_tells s.marks.depth (item_so_far s).bytes i)
  gives_tells st last b (i ∷ j ∷ is) = given_tells s.marks.depth (item_so_far s).bytes i

  ends_tells : (st : ℕ) (o : Outcome) (b : Option ℕ) → TellsTurn (ends s st o b)
  ends_tells st o b = gives_tells st (range_after (report s) (last_of s) st o (item_so_far s)) b (extent_items (report s) (last_of s) st o (item_so_far s))

  next_tells : (st c : ℕ) (n : Next) → TellsTurn (on_next s st c n)
  next_tells st c (Eat p) = if_all TellsTurn (ltb longest (s.marks.len + width c)) (omega arith) tt
  next_tells st c (Stop o) = ends_tells st o (Some c)

  stage_tells : (b : Stage) (c : ℕ) → TellsTurn (on_stage s b c)
  stage_tells Opening c = tt
  stage_tells Pound c = if_all TellsTurn (eqb c (code "!")) tt (next_tells 0 c (step_of (report s) AfterHash (item_so_far s) c))
  stage_tells FirstLine c = tt
  stage_tells Idle c = tt
  stage_tells (Busy st p) c = next_tells st c (step_of (report s) p (item_so_far s) c)
  stage_tells (Waiting st b) c = tt
  stage_tells (Stopped n p) c = tt

  turn_tells : (b : ℕ) → TellsTurn (turn_of s b)
  unfolding turn_of
  turn_tells b = if_all TellsTurn (leb limit (s.marks.at + s.marks.part.count)) (omega arith) (go (step s.marks.part.state b))
    where
      go : (o : Step) → TellsTurn (told o (λ u. on (partly s (record { count = s.marks.part.count + 1; state = u }))) (λ c. on_stage s s.marks.stage c)
          (stopped s refusal.not_utf8 s.marks.at))
      go (steps.More u) = tt
      go (steps.Char c) = stage_tells s.marks.stage c
      go steps.Bad = omega arith

-- ---- a call

feed_tells : (bs : List ℕ) (s : State) (n : ℕ) → TellsReply (feed_of s bs n)
unfolding feed_of
feed_tells [] s n = tt
feed_tells (b ∷ bs) s n = go (turn_of s b) (turn_tells s b) (λ u. feed_tells bs u (n + 1))
  where
    go : (t : Turn) → TellsTurn t → ((u : State) → TellsReply (feed_of u bs (n + 1))) → TellsReply (after t (λ u. feed_of u bs (n + 1)) (n + 1))
    go (on u) z ih = ih u
    go (off u w) z ih = z

replied_tells : (t : Turn) → TellsTurn t → TellsReply (replied t)
replied_tells (on s) h = tt
replied_tells (off s w) h = h

second_tells : (s : State) (st : ℕ) → Tells (item (second s st))
second_tells s st = (refl, refl)

-- a stop that stands has a stop's number
stop_tells : (n p : ℕ) → stop_bounds n p ≡ true → 13 ≤ n
stop_tells n p h =
    if_is (λ (b : Bool). b ≡ true → 13 ≤ n) (eqb n refusal.over_long)
    (λ e _. omega (arith, eqb-true n refusal.over_long e))
    (λ _. if_is (λ (b : Bool). b ≡ true → 13 ≤ n) (eqb n refusal.not_utf8) (λ e _. omega (arith, eqb-true n refusal.not_utf8 e)) (λ _ e. omega (arith, eqb-true n refusal.long_item e)))
    (and_true (if eqb n refusal.over_long then true else if eqb n refusal.not_utf8 then true else eqb n refusal.long_item) (is_place p) h).0

in_stage : (s : State) → is_in_bounds s ≡ true → stage_bounds s.marks.stage s.marks ≡ true
unfolding is_in_bounds
in_stage s e = (and_true (number_bounds s.marks && part_bounds s.marks.part) (stage_bounds s.marks.stage s.marks) e).1

module _ (s : State) where
  piece_tells : (b : Stage) → stage_bounds b s.marks ≡ true → (bs : List ℕ) → TellsReply (piece_stage s b bs)
  piece_tells Opening h bs = if_all TellsReply s.marks.ended (omega arith) (feed_tells bs s 0)
  piece_tells Pound h bs = if_all TellsReply s.marks.ended (omega arith) (feed_tells bs s 0)
  piece_tells FirstLine h bs = if_all TellsReply s.marks.ended (omega arith) (feed_tells bs s 0)
  piece_tells Idle h bs = if_all TellsReply s.marks.ended (omega arith) (feed_tells bs s 0)
  piece_tells (Busy st p) h bs = if_all TellsReply s.marks.ended (omega arith) (feed_tells bs s 0)
  piece_tells (Waiting st b) h bs = if_all TellsReply s.marks.ended (omega arith) (second_tells s st)
  piece_tells (Stopped n p) h bs = stop_tells n p h

  end_tells : (b : Stage) → stage_bounds b s.marks ≡ true → TellsReply (end_unless_stopped s b)
  end_tells Opening h = if_all TellsReply (eqb s.marks.part.count 0) tt (omega arith)
  end_tells Pound h =
      if_all TellsReply (eqb s.marks.part.count 0)
      (replied_tells (ends (declared s) 0 (finish_of AfterHash (item_so_far s).bytes) None) (ends_tells (declared s) 0 (finish_of AfterHash (item_so_far s).bytes) None))
      (omega arith)
  end_tells FirstLine h = if_all TellsReply (eqb s.marks.part.count 0) tt (omega arith)
  end_tells Idle h = if_all TellsReply (eqb s.marks.part.count 0) tt (omega arith)
  end_tells (Busy st p) h =
      if_all TellsReply (eqb s.marks.part.count 0)
      (replied_tells (ends (declared s) st (finish_of p (item_so_far s).bytes) None) (ends_tells (declared s) st (finish_of p (item_so_far s).bytes) None))
      (omega arith)
  end_tells (Waiting st b) h = second_tells (declared s) st
  end_tells (Stopped n p) h = stop_tells n p h

  pub call_tells : (bs : List ℕ) (room : ℕ) → TellsReply (piece_of s bs room)
  unfolding piece_of
  call_tells bs room =
      if_is TellsReply (is_in_bounds s)
      (λ h. if_all TellsReply (ltb room longest) (omega arith) (piece_tells s.marks.stage (in_stage s h) bs))
      (λ _. omega arith)

  pub end_call_tells : (room : ℕ) → TellsReply (end_of s room)
  unfolding end_of
  end_call_tells room =
      if_is TellsReply (is_in_bounds s)
      (λ h. if_all TellsReply (ltb room longest) (omega arith) (end_tells s.marks.stage (in_stage s h)))
      (λ _. omega arith)
