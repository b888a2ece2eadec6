-- Any calls are calls of crate `pieces`, specs/Produced: pieces with memory enough, then ends with memory enough, once those are left out that
-- change nothing: the calls without memory enough, and the pieces after the end.
use Rattle.refusal.specs.Refusals as refusal
use Rattle.laws.proofs.Choice.{by_bool}
use Rattle.pieces.specs.declared.Stage.{Stage}
use Rattle.pieces.specs.declared.Stage.TheVariants.{Opening, Pound, FirstLine, Idle, Busy, Waiting, Stopped}
use Rattle.pieces.specs.declared.State.{State}
use Rattle.pieces.specs.Calls.{What, item, more, finished, refused, Reply, reply, piece_stage, piece_of, end_unless_stopped, end_of, fresh, open_of}
use Rattle.pieces.specs.Expected.{longest}
use Rattle.pieces.specs.Given.{Given}
use Rattle.pieces.specs.Produced.{Produced, opened, pieced, ended, given_by, Reading, begins, reads, Closing, read, closes}
use Rattle.pieces.proofs.Cuts.{piece_works, end_works}
use Rattle.pieces.proofs.Kept.{Staged}
use Rattle.pieces.proofs.Stands.{repeats}
use Rattle.pieces.proofs.Turns.{Halted, StandsAfter, Safe, goes, waits, halted, safe, end_going, end_waits, never_27}
use Rattle.pieces.specs.Bounds.{Stops}
use Rattle.pieces_any_calls.specs.After.{Sum, Call, piece, end, with, after, sum_of}
use Rattle.pieces_any_calls.specs.After as sum
use Prim.Native.Nat.{ℕ, ◌≤◌, ◌<◌}
use mathlib.Core.Path.{◌≡◌, refl, sym, ap, subst, ◌∙◌}
use mathlib.Core.Bool.{Bool, true, false}
use mathlib.Core.List.{List, [], ◌∷◌, ◌++◌, append-nil}
use mathlib.Core.Logic.{◌⊎◌, inl, inr}
use lib.ListN.{take}
use lib.Dec.{leb}
use borrow.Author.Tests.{lt-ltb, lt-leb, leb-true, leb-false}

-- ---- calls without memory enough

module _ {s : State} (made : Produced s) (room : ℕ) (short : room < longest) where
  pub short_piece : (bs : List ℕ) → piece_of s bs room ≡ reply 0 (refused refusal.little_text 0) s
  unfolding piece_of
  short_piece bs = rw (never_27 made, lt-ltb room longest short)

  pub short_end : end_of s room ≡ reply 0 (refused refusal.little_text 0) s
  unfolding end_of
  short_end = rw (never_27 made, lt-ltb room longest short)

-- ---- pieces after the end

-- the end was declared, or a stop stands
data Shut (s : State) : Type 0 where
  declared : s.marks.ended ≡ true → Shut s
  stuck : (n p : ℕ) → Halted n p s → Shut s

abbrev ShutIf : Bool → State → Type 0
ShutIf true s = Shut s
ShutIf false s = Unit {0}

shut_left : (w : What) (s : State) → StandsAfter true w s → Shut s
shut_left (item g) s (inl h) = declared h.ended
shut_left (item g) s (inr w) = declared w.ended
shut_left more s h = declared h.ended
shut_left finished s h = declared h.ended
shut_left (refused n p) s h = stuck n p h

shut_end : {s : State} → Produced s → (room : ℕ) → longest ≤ room → Shut (end_of s room).state
shut_end {s} made room wide = go (safe made)
  where
    worked : end_of s room ≡ end_unless_stopped s s.marks.stage
    worked = end_works room wide s (never_27 made)

    left : StandsAfter true (end_unless_stopped s s.marks.stage).what (end_unless_stopped s s.marks.stage).state → Shut (end_of s room).state
    left z =
        subst (λ (r : Reply). Shut r.state) (sym worked)
        (shut_left (end_unless_stopped s s.marks.stage).what (end_unless_stopped s s.marks.stage).state z)

    go : Safe s → Shut (end_of s room).state
    go (goes e h) = left (end_going h)
    go (waits e w) = left (end_waits w)
    go (halted n p h) = subst (λ (r : Reply). Shut r.state) (sym (repeats h [] room wide).1) (stuck n p h)

-- only 20, 21 and 23 stand
pub halted_stop : {n p : ℕ} {s : State} → Halted n p s → Stops n
halted_stop {n} {p} {s} h = (subst (Staged h.read s) h.stage h.kept.staged).0

stage_stop : {s : State} → Safe s → (n p : ℕ) → s.marks.stage ≡ Stopped n p → Stops n
stage_stop {s} (goes e h) n p f = (subst (Staged h.read s) f h.kept.staged).0
stage_stop {s} (waits e h) n p f = (subst (Staged h.read s) f h.kept.staged).0
stage_stop {s} (halted m o h) n p f = (subst (Staged h.read s) f h.kept.staged).0

-- a reply that refuses by 26 or by a stop, takes nothing and leaves the state as it was
pub record Refuses (s : State) (r : Reply) : Type 0 where
  pub number : ℕ
  pub place : ℕ
  pub why : (number ≡ refusal.after_end) ⊎ Stops number
  pub is : r ≡ reply 0 (refused number place) s

late_stage : (s : State) (bs : List ℕ) → ((n p : ℕ) → s.marks.stage ≡ Stopped n p → Stops n) → (b : Stage) → s.marks.stage ≡ b
    → s.marks.ended ≡ true
    → Refuses s (piece_stage s b bs)
late_stage s bs z Opening f e = record { number = refusal.after_end; place = 0; why = inl refl; is = rw e }
late_stage s bs z Pound f e = record { number = refusal.after_end; place = 0; why = inl refl; is = rw e }
late_stage s bs z FirstLine f e = record { number = refusal.after_end; place = 0; why = inl refl; is = rw e }
late_stage s bs z Idle f e = record { number = refusal.after_end; place = 0; why = inl refl; is = rw e }
late_stage s bs z (Busy st p) f e = record { number = refusal.after_end; place = 0; why = inl refl; is = rw e }
late_stage s bs z (Waiting st b) f e = record { number = refusal.after_end; place = 0; why = inl refl; is = rw e }
late_stage s bs z (Stopped n p) f e = record { number = n; place = p; why = inr (z n p f); is = refl }

late_piece : {s : State} → Produced s → Shut s → (bs : List ℕ) (room : ℕ) → longest ≤ room → Refuses s (piece_of s bs room)
late_piece {s} made (declared e) bs room wide =
    subst (Refuses s) (sym (piece_works room wide s bs (never_27 made))) (late_stage s bs (stage_stop (safe made)) s.marks.stage refl e)
late_piece made (stuck n p h) bs room wide = record { number = n; place = p; why = inr (halted_stop h); is = (repeats h bs room wide).0 }

-- ---- what the calls add up to

module _ (mode : ℕ) (skip : Bool) (is : mode < 2) where
  fresh_is : (open_of mode skip).state ≡ fresh mode skip
  unfolding open_of
  fresh_is = rw (lt-ltb mode 2 is)

  reading_made : {taken : List ℕ} {gs : List Given} {s : State} → Reading mode skip taken gs s → Produced s
  reading_made begins = subst Produced fresh_is (opened mode skip)
  reading_made (reads h bs room wide) = pieced (reading_made h) bs room

  pub closing_made : {taken : List ℕ} {e : Bool} {gs : List Given} {s : State} → Closing mode skip taken e gs s → Produced s
  closing_made (read h) = reading_made h
  closing_made (closes c room wide) = ended (closing_made c) room

  shut_if : {taken : List ℕ} {e : Bool} {gs : List Given} {s : State} → Closing mode skip taken e gs s → ShutIf e s
  shut_if (read h) = tt
  shut_if (closes c room wide) = shut_end (closing_made c) room wide

  pub late : {taken : List ℕ} {gs : List Given} {s : State} → Closing mode skip taken true gs s → (bs : List ℕ) (room : ℕ) → longest ≤ room
      → Refuses s (piece_of s bs room)
  late c bs room wide = late_piece (closing_made c) (shut_if c) bs room wide

  abbrev pub Closed : Sum → Type 0
  Closed h = Closing mode skip h.taken h.ended h.items h.state

  -- a refused call adds nothing
  pub same_piece : (h : Sum) (bs : List ℕ) (room : ℕ) {n p : ℕ} → piece_of h.state bs room ≡ reply 0 (refused n p) h.state → with h (piece bs room) ≡ h
  same_piece h bs room e =
      ap (λ (r : Reply). record { taken = h.taken ++ take r.taken bs; items = h.items ++ given_by r.what; ended = h.ended; state = r.state }) e
      ∙ ap (λ (l : List ℕ). record { taken = l; items = h.items ++ []; ended = h.ended; state = h.state }) (append-nil h.taken)
      ∙ ap (λ (l : List Given). record { taken = h.taken; items = l; ended = h.ended; state = h.state }) (append-nil h.items)

  pub same_end : (h : Sum) (room : ℕ) → room < longest → end_of h.state room ≡ reply 0 (refused refusal.little_text 0) h.state → with h (end room) ≡ h
  same_end h room short e =
      ap (λ (r : Reply). record { taken = h.taken; items = h.items ++ given_by r.what; ended = (with h (end room)).ended; state = r.state }) e
      ∙ ap (λ (l : List Given). record { taken = h.taken; items = l; ended = (with h (end room)).ended; state = h.state }) (append-nil h.items)
      ∙ rw (lt-leb longest room short)

  piece_closed : {taken : List ℕ} {e : Bool} {gs : List Given} {s : State} (c : Closing mode skip taken e gs s) (bs : List ℕ) (room : ℕ) → longest ≤ room
      → Closed (with (record { taken = taken; items = gs; ended = e; state = s }) (piece bs room))
  piece_closed (read h) bs room wide = read (reads h bs room wide)
  piece_closed (closes c lent fits) bs room wide =
      subst Closed (sym (same_piece _ bs room (late (closes c lent fits) bs room wide).is)) (closes c lent fits)

  with_closed : (h : Sum) → Closed h → (c : Call) → Closed (with h c)
  with_closed h z (piece bs room) = by_bool (leb longest room)
      (λ e. piece_closed z bs room (leb-true longest room e))
      (λ e. subst Closed
      (sym (same_piece h bs room (short_piece (closing_made z) room (leb-false longest room e) bs))) z)
  with_closed h z (end room) = by_bool (leb longest room)
      (λ e. rw e (closes z room (leb-true longest room e)))
      (λ e. let short : room < longest = leb-false longest room e in
      subst Closed (sym (same_end h room short (short_end (closing_made z) room short))) z)

  after_closed : (h : Sum) → Closed h → (calls : List Call) → Closed (after h calls)
  unfolding after
  after_closed h z [] = z
  after_closed h z (c ∷ calls) = after_closed (with h c) (with_closed h z c) calls

  pub closed : (calls : List Call) → Closed (sum_of mode skip calls)
  closed calls = after_closed (sum.opened mode skip) (subst (Closing mode skip [] false []) (sym fresh_is) (read begins)) calls
