-- 01: "24, 26 and 27 take nothing and leave the state as it was". A call on any state, also a forged one, that is refused with a number
-- which is no stop leaves each byte and word: the reader itself gives only stops, and words that are a code come back as they were.
use Rattle.refusal.specs.Refusals as refusal
use Rattle.chars.specs.declared.Step.{Step}
use Rattle.chars.specs.declared.Step.TheVariants as steps
use Rattle.chars.specs.Encode.{width}
use Rattle.chars.specs.Machine.{step, told}
use Rattle.std.specs.Prelude.{if◌then◌else◌, None, Option, Some}
use Rattle.laws.specs.Quoted.{code}
use Rattle.laws.proofs.Choice.{by_bool, if_all}
use Rattle.items.specs.declared.Phase.TheVariants.{AfterHash}
use Rattle.items.specs.declared.Next.{Next}
use Rattle.items.specs.declared.Next.TheVariants.{Eat, Stop}
use Rattle.items.specs.declared.Outcome.{Outcome}
use Rattle.items.specs.Items.{Place, Item, range_after, extent_items}
use Rattle.items.specs.Kinds as kind
use Rattle.items.specs.Machine.{step_of, finish_of}
use Rattle.items.specs.Whole.{limit}
use Rattle.pieces.specs.declared.Marks.{Marks}
use Rattle.pieces.specs.declared.Stage.{Stage}
use Rattle.pieces.specs.declared.Stage.TheVariants.{Opening, Pound, FirstLine, Idle, Busy, Waiting, Stopped}
use Rattle.pieces.specs.declared.State.{State}
use Rattle.pieces.specs.Bounds.{Stops, is_in_bounds}
use Rattle.pieces.specs.Expected.{longest}
use Rattle.pieces.specs.Calls.{What, item, more, finished, refused, Turn, on, off, Reply, reply, last_of, item_so_far, stopped, gives, report, ends, on_next}
use Rattle.pieces.specs.Calls.{on_stage, partly, turn_of, after, feed_of, piece_stage, piece_of, declared, replied, unless_cut, end_unless_stopped, end_of}
use Rattle.pieces_calls.specs.Answers.{state_of, piece_in, end_in}
use Rattle.pieces_lent.specs.declared.LentState.{LentState}
use Rattle.pieces_lent.specs.declared.Words.{Words}
use Rattle.pieces_lent.specs.Coding.{standing, is_code}
use Rattle.pieces_lent.specs.Calls.{Said, lent, worded, outside, for_code, piece_for, end_for}
use Rattle.pieces_lent.proofs.Back.{coded-standing}
use Prim.Native.Nat.{ℕ, ◌+◌}
use mathlib.Core.Path.{◌≡◌, refl, sym, ap, subst, ◌∙◌}
use mathlib.Core.Bool.{Bool, ◌&&◌}
use mathlib.Core.List.{List, [], ◌∷◌}
use mathlib.Core.Logic.{inl, inr}
use lib.ListN.{length}
use lib.Dec.{eqb, leb, ltb}

-- ---- what the reader refuses is a stop

abbrev Stopping : What → Type 0
Stopping (item g) = Unit {0}
Stopping more = Unit {0}
Stopping finished = Unit {0}
Stopping (refused n p) = Stops n

abbrev TurnStops : Turn → Type 0
TurnStops (on s) = Unit {0}
TurnStops (off s w) = Stopping w

abbrev ReplyStops : Reply → Type 0
ReplyStops r = Stopping r.what

module _ (s : State) where
  gives_stops : (st : ℕ) (last : Place) (b : Option ℕ) (is : List Item) → TurnStops (gives s st last b is)
  gives_stops st last b [] = tt
  gives_stops st last b (i ∷ []) = if_all TurnStops (s.marks.skip && eqb i.kind kind.Comment) tt tt
  gives_stops st last b (i ∷ j ∷ is) = tt

  ends_stops : (st : ℕ) (o : Outcome) (b : Option ℕ) → TurnStops (ends s st o b)
  ends_stops st o b = gives_stops st (range_after (report s) (last_of s) st o (item_so_far s)) b (extent_items (report s) (last_of s) st o (item_so_far s))

  next_stops : (st c : ℕ) (n : Next) → TurnStops (on_next s st c n)
  next_stops st c (Eat q) = if_all TurnStops (ltb longest (s.marks.len + width c)) (inr (inr refl)) tt
  next_stops st c (Stop o) = ends_stops st o (Some c)

  stage_stops : (c : ℕ) (g : Stage) → TurnStops (on_stage s g c)
  stage_stops c Opening = tt
  stage_stops c Pound = if_all TurnStops (eqb c (code "!")) tt (next_stops 0 c (step_of (report s) AfterHash (item_so_far s) c))
  stage_stops c FirstLine = tt
  stage_stops c Idle = tt
  stage_stops c (Busy st p) = next_stops st c (step_of (report s) p (item_so_far s) c)
  stage_stops c (Waiting st b) = tt
  stage_stops c (Stopped n p) = tt

  told_stops : (o : Step)
      → TurnStops (told o (λ u. on (partly s (record { count = s.marks.part.count + 1; state = u }))) (λ c. on_stage s s.marks.stage c) (stopped s refusal.not_utf8 s.marks.at))
  told_stops (steps.More u) = tt
  told_stops (steps.Char c) = stage_stops c s.marks.stage
  told_stops steps.Bad = inr (inl refl)

  turn_stops : (b : ℕ) → TurnStops (turn_of s b)
  unfolding turn_of
  turn_stops b = if_all TurnStops (leb limit (s.marks.at + s.marks.part.count)) (inl refl) (told_stops (step s.marks.part.state b))

after_stops : (t : Turn) → TurnStops t → (go : State → Reply) → ((u : State) → ReplyStops (go u)) → (n : ℕ) → ReplyStops (after t go n)
after_stops (on s) h go f n = f s
after_stops (off s w) h go f n = h

feed_stops : (bs : List ℕ) (s : State) (n : ℕ) → ReplyStops (feed_of s bs n)
unfolding feed_of
feed_stops [] s n = tt
feed_stops (b ∷ bs) s n = after_stops (turn_of s b) (turn_stops s b) (λ t. feed_of t bs (n + 1)) (λ u. feed_stops bs u (n + 1)) (n + 1)

replied_stops : (t : Turn) → TurnStops t → ReplyStops (replied t)
replied_stops (on s) h = tt
replied_stops (off s w) h = h

-- ---- a reply that is refused with another number leaves the state s

abbrev Rests : State → Reply → Type 0
Rests s r = (n p : ℕ) → r.what ≡ refused n p → (Stops n → ⊥) → r ≡ reply 0 (refused n p) s

-- a refusal that leaves the state
as_it_was : (s : State) (m o : ℕ) → Rests s (reply 0 (refused m o) s)
as_it_was s m o n p e z = ap (λ (w : What). reply 0 w s) e

no_other : (s : State) (r : Reply) → ReplyStops r → Rests s r
no_other s r h n p e z = absurd (z (subst Stopping e h))

module _ (s : State) where
  rests_work : (bs : List ℕ) (g : Stage) → Rests s (piece_stage s g bs)
  rests_work bs (Stopped n p) = as_it_was s n p
  rests_work bs (Waiting st b) = if_all (Rests s) s.marks.ended (as_it_was s refusal.after_end 0) (no_other s _ tt)
  rests_work bs Opening = if_all (Rests s) s.marks.ended (as_it_was s refusal.after_end 0) (no_other s (feed_of s bs 0) (feed_stops bs s 0))
  rests_work bs Pound = if_all (Rests s) s.marks.ended (as_it_was s refusal.after_end 0) (no_other s (feed_of s bs 0) (feed_stops bs s 0))
  rests_work bs FirstLine = if_all (Rests s) s.marks.ended (as_it_was s refusal.after_end 0) (no_other s (feed_of s bs 0) (feed_stops bs s 0))
  rests_work bs Idle = if_all (Rests s) s.marks.ended (as_it_was s refusal.after_end 0) (no_other s (feed_of s bs 0) (feed_stops bs s 0))
  rests_work bs (Busy st p) = if_all (Rests s) s.marks.ended (as_it_was s refusal.after_end 0) (no_other s (feed_of s bs 0) (feed_stops bs s 0))

  rests_piece : (bs : List ℕ) (room : ℕ) → Rests s (piece_of s bs room)
  unfolding piece_of
  rests_piece bs room =
      if_all (Rests s) (is_in_bounds s) (if_all (Rests s) (ltb room longest) (as_it_was s refusal.little_text 0) (rests_work bs s.marks.stage)) (as_it_was s refusal.out_of_bounds 0)

  uncut_stops : (t : State) (r : Reply) → ReplyStops r → ReplyStops (unless_cut t r)
  uncut_stops t r h = if_all ReplyStops (eqb t.marks.part.count 0) h (inr (inl refl))

  finish_stops : (t : State) (st : ℕ) (o : Outcome) → ReplyStops (unless_cut t (replied (ends t st o None)))
  finish_stops t st o = uncut_stops t (replied (ends t st o None)) (replied_stops (ends t st o None) (ends_stops t st o None))

  rests_last : (g : Stage) → Rests s (end_unless_stopped s g)
  rests_last (Stopped n p) = as_it_was s n p
  rests_last (Waiting st b) = no_other s _ tt
  rests_last Opening = no_other s _ (uncut_stops (declared s) (reply 0 finished (declared s)) tt)
  rests_last Pound = no_other s _ (finish_stops (declared s) 0 (finish_of AfterHash (item_so_far s).bytes))
  rests_last FirstLine = no_other s _ (uncut_stops (declared s) (reply 0 finished (declared s)) tt)
  rests_last Idle = no_other s _ (uncut_stops (declared s) (reply 0 finished (declared s)) tt)
  rests_last (Busy st p) = no_other s _ (finish_stops (declared s) st (finish_of p (item_so_far s).bytes))

  rests_end : (room : ℕ) → Rests s (end_of s room)
  unfolding end_of
  rests_end room =
      if_all (Rests s) (is_in_bounds s) (if_all (Rests s) (ltb room longest) (as_it_was s refusal.little_text 0) (rests_last s.marks.stage)) (as_it_was s refusal.out_of_bounds 0)

-- ---- the lent calls

abbrev refuses : ℕ → ℕ → LentState → Said
refuses n p s = record { taken = 0; what = refused n p; state = s }

for_rests : (s : LentState) (f : Marks → Reply) → Rests (state_of (standing s.words) s.buf) (f (standing s.words))
    → (n p : ℕ) → (for_code s f).what ≡ refused n p → (Stops n → ⊥) → for_code s f ≡ refuses n p s
for_rests s f h n p e z =
    by_bool (is_code s.words)
    (λ yes. let g : (f (standing s.words)).what ≡ refused n p = ap (λ (b : Bool). (if b then worded (f (standing s.words)) else outside s).what) (sym yes) ∙ e in
    ap (λ (b : Bool). if b then worded (f (standing s.words)) else outside s) yes
    ∙ ap worded (h n p g z)
    ∙ ap (λ (w : Words). refuses n p (lent w s.buf)) (coded-standing s.words yes))
    (λ no. ap (λ (b : Bool). if b then worded (f (standing s.words)) else outside s) no
    ∙ ap (λ (w : What). record { taken = 0; what = w; state = s }) (ap (λ (b : Bool). (if b then worded (f (standing s.words)) else outside s).what) (sym no) ∙ e))

pub refused_stays : (s : LentState) (bs : List ℕ) (room n p : ℕ) → (piece_for s bs room).what ≡ refused n p → (Stops n → ⊥)
    → piece_for s bs room ≡ record { taken = 0; what = refused n p; state = s }
unfolding piece_for
refused_stays s bs room =
    let t : State = state_of (standing s.words) s.buf in
    for_rests s (λ m. piece_in m s.buf bs room) (if_all (Rests t) (eqb (length s.buf) longest) (rests_piece t bs room) (as_it_was t refusal.out_of_bounds 0))

pub end_refused_stays : (s : LentState) (room n p : ℕ) → (end_for s room).what ≡ refused n p → (Stops n → ⊥)
    → end_for s room ≡ record { taken = 0; what = refused n p; state = s }
unfolding end_for
end_refused_stays s room =
    let t : State = state_of (standing s.words) s.buf in
    for_rests s (λ m. end_in m s.buf room) (if_all (Rests t) (eqb (length s.buf) longest) (rests_end t room) (as_it_was t refusal.out_of_bounds 0))
